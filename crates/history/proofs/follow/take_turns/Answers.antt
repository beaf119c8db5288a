use Rattle.std.proofs.Common.{◌<◌, ◌≤◌, length, get_or, refl, arith}
use Rattle.transition.specs.Exchanges.{room}
use Rattle.transition.specs.Steps.{configuration}
use Rattle.transition.proofs.Kept.{unchanged, then_kept}
use Rattle.machine.specs.States.{board_of}
use Rattle.history.specs.declared.turn.Seen.TheVariants.{Unused}
use Rattle.history.specs.declared.turn.Turn.{Turn}
use Rattle.history.proofs.Turns.{limit_kept, taking_one, taking_none}
use Rattle.history.proofs.follow.take_turns.Goals as goal

pub loop-turn-init : goal.loop-turn-init
loop-turn-init g c = (unchanged, refl, λ us b turns. turns)

pub loop-turn-preserved : goal.loop-turn-preserved
loop-turn-preserved g c =
    let cells = g.S.Store.cells in
    let limit = c.args.running.limit in
    let p = c.loop-turn.progress in
    let q = c.take_turn-progress.result in
    let s = configuration cells c.loop-turn.machine in
    let last = c.take_turn-progress.new in
    let s' = configuration cells last.machine in
    let turns = c.loop-turn.turns in
    let i = c.loop-turn.turn-index in
    let idle : Turn = record { slice = 0; seen = Unused } in
    let turn = c.take_turn-progress.ensures in
    let inv = c.loop-turn.invariant in
    let lt : i < length turns = omega (arith, c.loop-turn.auto.turns, c.loop-turn-test.true) in (
      then_kept inv.0 turn.keeps,
      limit_kept _ _ _ limit p q s s' (get_or turns i idle) last.turn inv.1 turn.takes turn.limit,
      taking_one _ _ _ limit _ _ turns i (room c.loop-turn.machine.stacks) inv.0.places lt
          p inv.1 s idle last.turn (board_of q s') turn.takes inv.2,
    )

pub returns : goal.returns
returns g c =
    let inv = c.loop-turn.invariant in
    let le : length c.loop-turn.turns ≤ c.loop-turn.turn-index = omega (arith, c.loop-turn.auto.turns, c.loop-turn-test.false) in
    record {
      takes = taking_none _ _ _ c.args.running.limit _ _ c.loop-turn.turns c.loop-turn.turn-index le inv.2;
      limit = inv.1;
      keeps = inv.0;
    }
