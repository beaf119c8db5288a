use Rattle.job_line.proofs.Covers.{no_colon, no_first, no_last}
use Rattle.job_line.proofs.make.cover_parameters.Goals as goal

pub returns-in_err-first : goal.returns-in_err-first
returns-in_err-first c = rw c.from_residual.ensures (no_colon c.args.parameters.now c.in_err-first.ensures)

pub returns-in_err-byte_of : goal.returns-in_err-byte_of
returns-in_err-byte_of c =
    rw c.from_residual-in_err-byte_of.ensures
    (no_first c.args.parameters.now c.in_ok-first.first.now c.in_ok-first.last.now c.in_ok-first.ensures c.in_err-byte_of.ensures)

pub returns-in_err-byte_of-2 : goal.returns-in_err-byte_of-2
returns-in_err-byte_of-2 c =
    rw c.from_residual-in_err-byte_of-2.ensures
    (no_last c.args.parameters.now c.in_ok-first.first.now c.in_ok-first.last.now c.in_ok-first.ensures c.in_err-byte_of-2.ensures)
