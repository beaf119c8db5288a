use Rattle.std.proofs.Common.{◌≤◌, [], ◌∷◌, sym, ap, ◌∙◌}
use Rattle.table.specs.Places.{table_of}
use Rattle.table.proofs.Held.{held}
use Rattle.stack.specs.Contents.{contents, places}
use Rattle.semantics.specs.declared.item.Control.TheVariants.{Whole}
use Rattle.machine.proofs.Begun.{alone, last, starts, takes, takes_one}
use Rattle.machine.proofs.run.begin.begin.Goals as goal

pub unwrap-requires : goal.unwrap-requires
unwrap-requires g c =
    let stacks = c.args.stacks.now in
    let table = table_of c.args.program.now in
    let one : 1 ≤ places stacks.control = takes_one table (held c.args.program.now) _ _ c.args.limit (sym c.in_ok-ask.ensures) in
    takes _ _ _ one c.clear.ensures.contents c.clear.ensures.places c.push.result c.push.ensures.answers

pub returns-clause-begins : goal.returns-clause-begins
returns-clause-begins g c =
    let stacks = c.args.stacks.now in
    let table = table_of c.args.program.now in
    let one : 1 ≤ places stacks.control = takes_one table (held c.args.program.now) _ _ c.args.limit (sym c.in_ok-ask.ensures) in
    let top = ap (λ p. Whole p) (last table c.last_row.result c.last_row.ensures) in
    starts table _ _ c.args.limit (contents stacks.control) _ (contents stacks.results) _ (g.S.Store.cells c.args.store.now) (sym c.in_ok-ask.ensures)
    (alone _ _ _ one c.clear.ensures.contents c.clear.ensures.places _ (Whole c.last_row.result) c.push.ensures.contents ∙ ap (λ i. i ∷ []) top)
    c.clear-2.ensures.contents
