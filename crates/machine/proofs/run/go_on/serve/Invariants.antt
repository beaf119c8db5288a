use Rattle.std.proofs.Common.{◌-◌}
use Rattle.rows.specs.Rows.{row_at}
use Rattle.stack.specs.Contents.{places}
use Rattle.table.specs.Places.{table_of}
use Rattle.transition.specs.Steps.{Keeps, configuration}
use Rattle.runs.specs.Slices.{Board, Serves}
use Rattle.machine.proofs.run.go_on.serve.Given as goal

-- what no transition changes is as it was, and whatever the rest of the slice comes to, the whole slice comes to
abbrev pub invariant-loop : goal.invariant-loop
invariant-loop g l =
    let store = g.S.Store in
    let k = places l.initial.machine.stacks.control in
    let h = places l.initial.machine.stacks.results in
    let rows = row_at (table_of l.program) in
    Keeps store.rests l.initial.machine l.machine
    × ((b : Board) →
    Serves rows k h l.limit (l.slice - l.counter) l.made (configuration store.cells l.machine) b →
    Serves rows k h l.limit l.slice l.initial.made (configuration store.cells l.initial.machine) b)
