use Rattle.job_line.proofs.Naming.{cover_written, no_cover}
use Rattle.job_line.proofs.make.make_with.Goals as goal

pub returns-in_err-first-in-Cover : goal.returns-in_err-first-in-Cover
returns-in_err-first-in-Cover c = rw (c.from_residual.ensures, c.in-Cover.is) (no_cover c.args.parameters.now c.in_err-first-in-Cover.ensures)

pub returns-in_ok-first-in-Cover : goal.returns-in_ok-first-in-Cover
returns-in_ok-first-in-Cover c =
    cover_written c.args.kind c.args.parameters.now c.in_ok-first-in-Cover.first c.in_ok-first-in-Cover.last c.in-Cover.is c.in_ok-first-in-Cover.ensures
