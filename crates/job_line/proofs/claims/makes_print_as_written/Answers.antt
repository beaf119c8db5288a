use Rattle.job_line.specs.MakeTexts.{text_writes}
use Rattle.job_line.proofs.claims.makes_print_as_written.Goals as goal

pub returns : goal.returns
returns c = text_writes
