use Rattle.std.proofs.Common.{sym, rules}
use Rattle.caller.proofs.two_frames_on_loan.Goals as goal

pub returns-clause-frames : goal.returns-clause-frames
returns-clause-frames g c =
    let taken = c.of_loans-stacks.ensures.takes in
    let back = c.hand_back.ensures in
    rw (back.0, back.1, sym taken.0, sym taken.1) (search rules)
