use Rattle.std.proofs.Common.{ℕ, subst, rules}
use Rattle.std.proofs.iter.runs.Sources.{range_runs}
use Rattle.std.specs.declared.ops.Range.{Range}
use Rattle.std.specs.Iterator.Runs.{ItemsCountUp}
use Rattle.store.proofs.Searches.{first_found}
use Rattle.store.proofs.KnownLemmas.{IsTold, told_next}
use Rattle.store.proofs.known.known_from.Goals as goal

pub returns : goal.returns
returns g c =
    let run = c.find_map.ensures.runs in
    let p = run.0 in
    let cells = g.S.Store.cells c.args.store.now in
    let counts = subst (λ (r : Range ℕ). ItemsCountUp p r.start r.end) run.1 (range_runs p p.seen) in
    let found = first_found p c.args.from 256 counts _ _ (λ x b q k. search rules) (IsTold cells) (λ k r q. search rules) c.find_map.result run.2 in
    told_next cells c.args.from (g.S.Store.bounded c.args.store.now) c.find_map.result found
