use Rattle.std.proofs.Common.{◌≡◌, ◌+◌, ◌*◌, ◌∙◌, rules}
use Rattle.std.specs.Option.{option_map}
use Rattle.pair_list.proofs.Searching.{pair_found}
use Rattle.pair_list.proofs.pairs.PairList.place.Goals as goal

pub returns-clause-place : goal.returns-clause-place
returns-clause-place c =
    let run = c.position.ensures.runs in
    let found = pair_found run.0 c.args.self.now.words.now c.args.location (search rules) _ _ (λ x r q k. search rules) (λ x r q. search rules) c.position.result run.2 in
    let mapped : c.map.result ≡ option_map (λ k. 2 * k + 1) c.position.result = search rules in
    mapped ∙ found
