use Rattle.std.proofs.Common.{◌≡◌, Ok, refl, rules}
use Rattle.table.specs.Places.{table_of}
use Rattle.transition.specs.Exchanges.{room}
use Rattle.transition.specs.Steps.{configuration}
use Rattle.machine.specs.declared.run.Progress.TheVariants.{Running, Ended}
use Rattle.worked.proofs.WholeRuns.{served}
use Rattle.worked.proofs.outcome.whole_run.Goals as goal

pub returns-in-Ok-Ended-clause-tells : goal.returns-in-Ok-Ended-clause-tells
returns-in-Ok-Ended-clause-tells g c =
    let before = configuration g.S.Store.cells c.args.machine.now in
    let after = configuration g.S.Store.cells c.go_on.new.machine in
    let is : c.begin.result ≡ Ok c.in_ok-running.running = search rules in
    let run =
    served (table_of c.args.program.now) (room c.args.machine.now.stacks) (room c.begin.new.stacks) c.begin.ensures.places c.args.limit before after
    (Ended c.in-Ok-Ended.ended) c.in_ok-running.running is c.begin.ensures.begins c.in-Ok-Ended.ensures.goes (cc) in
    (after, refl, run)

pub returns-in-Ok-Running-clause-tells : goal.returns-in-Ok-Running-clause-tells
returns-in-Ok-Running-clause-tells g c =
    let before = configuration g.S.Store.cells c.args.machine.now in
    let after = configuration g.S.Store.cells c.go_on.new.machine in
    let is : c.begin.result ≡ Ok c.in_ok-running.running = search rules in
    let run =
    served (table_of c.args.program.now) (room c.args.machine.now.stacks) (room c.begin.new.stacks) c.begin.ensures.places c.args.limit before after
    (Running c.in-Ok-Running.running) c.in_ok-running.running is c.begin.ensures.begins c.in-Ok-Running.ensures.goes (cc) in
    λ _. (c.in-Ok-Running.running.count, (after, refl, run))
