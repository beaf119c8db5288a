use Rattle.std.proofs.Common.{◌≡◌, List, ◌++◌, take, drop}
use Rattle.stack.specs.Contents.{places}
use Rattle.table.specs.Places.{table_of}
use Rattle.transition.specs.Steps.{Keeps, configuration}
use Rattle.runs.specs.Slices.{Board}
use Rattle.machine.specs.States.{board_of, limit_of}
use Rattle.history.specs.declared.turn.Turn.{Turn}
use Rattle.history.specs.Turns.{TakesTurns}
use Rattle.history.proofs.follow.take_turns.Given as goal

-- what no turn changes is as it was, and whatever the rest of the turns come to, all of them come to
abbrev pub invariant-loop-turn : goal.invariant-loop-turn
invariant-loop-turn g l =
    let store = g.S.Store in
    let k = places l.initial.machine.stacks.control in
    let h = places l.initial.machine.stacks.results in
    let limit = limit_of 0 l.initial.progress in
    let table = table_of l.program in
    Keeps store.rests l.initial.machine l.machine
    × (limit_of limit l.progress ≡ limit)
    × ((us : List Turn) (b : Board) →
    TakesTurns table k h limit (board_of l.progress (configuration store.cells l.machine)) (drop l.turn-index l.turns) us b →
    TakesTurns table k h limit (board_of l.initial.progress (configuration store.cells l.initial.machine)) l.initial.turns (take l.turn-index l.turns ++ us) b)
