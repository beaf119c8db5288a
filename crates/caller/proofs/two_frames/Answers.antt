use Rattle.std.proofs.Common.{◌≡◌, Err, sym, subst, inl, inr, rules}
use Rattle.table.specs.Places.{table_of}
use Rattle.transition.specs.Exchanges.{room}
use Rattle.transition.specs.Steps.{configuration}
use Rattle.runs.specs.Histories.{rests, goes_on}
use Rattle.machine.specs.States.{board_after}
use Rattle.caller.specs.Frames.{Frames}
use Rattle.caller.proofs.Second.{ends_first, goes_second}
use Rattle.caller.proofs.two_frames.Goals as goal

pub returns-in_err-ended-clause-frames : goal.returns-in_err-ended-clause-frames
returns-in_err-ended-clause-frames g c =
    let k = room c.args.machine.now.stacks in
    let before = configuration g.S.Store.cells c.args.machine.now in
    let after = configuration g.S.Store.cells c.go_on.new.machine in
    let told : c.from_residual.result ≡ Err c.in_err-ended.field-0.0 = search rules in
    subst (λ r. Frames (table_of c.args.program.now) k.control k.results c.args.running.limit c.args.slice c.args.running.count before (board_after r after)) (sym told)
    (inl (goes_on c.in_err-ended.ensures.goes rests, inr c.in_err-ended.ensures.answers.0))

pub returns-in-Ended-clause-frames : goal.returns-in-Ended-clause-frames
returns-in-Ended-clause-frames g c =
    ends_first (table_of c.args.program.now) (room c.args.machine.now.stacks) _ c.args.slice _ _ _ _
    c.in_ok-ended.ensures.goes c.in-Ended.ended c.in-Ended.is

pub returns-in-Running-clause-frames : goal.returns-in-Running-clause-frames
returns-in-Running-clause-frames g c =
    goes_second (table_of c.args.program.now) (room c.args.machine.now.stacks) _ c.args.slice _ _ _ _
    c.in_ok-ended.ensures.goes c.in-Running.next _ _ c.in-Running.is c.go_on.ensures.keeps.places c.in_ok-ended.ensures.answers.1
    c.go_on-in-Running.ensures.goes
