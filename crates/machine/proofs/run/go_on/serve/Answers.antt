use Rattle.std.proofs.Common.{◌+◌, ◌-◌, ◌<◌, ◌≡◌, refl, subst, arith}
use Rattle.rows.specs.Rows.{row_at}
use Rattle.table.specs.Places.{table_of}
use Rattle.stack.specs.Contents.{contents}
use Rattle.runs.specs.Slices.{Serves}
use Rattle.transition.specs.Exchanges.{room}
use Rattle.transition.specs.Steps.{configuration}
use Rattle.transition.proofs.Kept.{then_kept}
use Rattle.machine.proofs.Looks.{goes_on, ends, pausing, stopping, stepping}
use Rattle.machine.proofs.run.go_on.serve.Goals as goal

pub returns-in-Some-clause-serves : goal.returns-in-Some-clause-serves
returns-in-Some-clause-serves g c =
    let stacks = c.loop.machine.stacks in
    c.loop.invariant.1 _ (ends (contents stacks.control) (contents stacks.results) (g.S.Store.cells c.loop.machine.store.now) _ _ _ _ _ _ c.in-Some.ensures)

pub returns-in-Some-look-clause-serves : goal.returns-in-Some-look-clause-serves
returns-in-Some-look-clause-serves g c =
    let stacks = c.loop.machine.stacks in
    c.loop.invariant.1 _ (ends (contents stacks.control) (contents stacks.results) (g.S.Store.cells c.loop.machine.store.now) _ _ _ _ _ _ c.in-Some-look.ensures)

pub returns-in-None-clause-serves : goal.returns-in-None-clause-serves
returns-in-None-clause-serves g c =
    let k = room c.args.machine.now.stacks in
    let stacks = c.loop.machine.stacks in
    let m = g.S.Store.cells c.loop.machine.store.now in
    let on = goes_on (contents stacks.control) (contents stacks.results) m c.args.running.limit c.loop.made c.in-None.ensures in
    let none_left : c.args.slice - c.loop.counter ≡ 0 = omega (arith, c.loop-test.false) in
    c.loop.invariant.1 _ (pausing (row_at (table_of c.args.program.now)) k k refl c.args.running.limit _ c.loop.made _ on.0 on.1 none_left)

pub returns-in-Err-clause-serves : goal.returns-in-Err-clause-serves
returns-in-Err-clause-serves g c =
    let k = room c.args.machine.now.stacks in
    let stacks = c.loop.machine.stacks in
    let m = g.S.Store.cells c.loop.machine.store.now in
    let on = goes_on (contents stacks.control) (contents stacks.results) m c.args.running.limit c.loop.made c.in_default.ensures in
    let left : 0 < c.args.slice - c.loop.counter = omega (arith, c.loop-test.true) in
    c.loop.invariant.1 _
    (stopping (row_at (table_of c.args.program.now)) k _ c.loop.invariant.0.places c.args.running.limit _ c.loop.made _ on.0 on.1 left c.in-Err.ensures.tries)

pub returns-in-Err-clause-keeps : goal.returns-in-Err-clause-keeps
returns-in-Err-clause-keeps g c = then_kept c.loop.invariant.0 c.step.ensures.keeps

pub loop-preserved : goal.loop-preserved
loop-preserved g c =
    let k = room c.args.machine.now.stacks in
    let stacks = c.loop.machine.stacks in
    let m = g.S.Store.cells c.loop.machine.store.now in
    let rows = row_at (table_of c.args.program.now) in
    let on = goes_on (contents stacks.control) (contents stacks.results) m c.args.running.limit c.loop.made c.in_default.ensures in
    let left : 0 < c.args.slice - c.loop.counter = omega (arith, c.loop-test.true) in
    let one_less : c.args.slice - (c.loop.counter + 1) ≡ (c.args.slice - c.loop.counter) - 1 = omega arith in (
      then_kept c.loop.invariant.0 c.step.ensures.keeps,
      λ b rest. c.loop.invariant.1 b
          (stepping rows k _ c.loop.invariant.0.places c.args.running.limit _ c.loop.made _ on.0 on.1 left c.in_default-step.ensures.tries
          (subst (λ a. Serves rows k.control k.results c.args.running.limit a (c.loop.made + 1) (configuration g.S.Store.cells c.step.new.self) b) one_less rest)),
    )
