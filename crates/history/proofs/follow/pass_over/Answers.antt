use Rattle.std.proofs.Common.{◌<◌, ◌≤◌, ◌++◌, length, take, sym, ap, ◌∙◌, arith, drop_of_length-le}
use Rattle.history.specs.Turns.{unused}
use Rattle.history.proofs.Lists.{all_done, one_done, one_left}
use Rattle.history.proofs.follow.pass_over.Goals as goal

pub loop-turn-preserved : goal.loop-turn-preserved
loop-turn-preserved c =
    let turns = c.loop-turn.turns in
    let i = c.loop-turn.turn-index in
    let lt : i < length turns = omega (arith, c.loop-turn.auto.turns, c.loop-turn-test.true) in
    one_done turns i _ lt _ ∙ sym (ap (λ ts. take i turns ++ unused ts) (one_left turns i _ lt _)) ∙ c.loop-turn.invariant

pub returns : goal.returns
returns c =
    let turns = c.loop-turn.turns in
    let i = c.loop-turn.turn-index in
    let le : length turns ≤ i = omega (arith, c.loop-turn.auto.turns, c.loop-turn-test.false) in
    sym (all_done i turns le) ∙ sym (ap (λ ts. take i turns ++ unused ts) (drop_of_length-le turns le)) ∙ c.loop-turn.invariant
