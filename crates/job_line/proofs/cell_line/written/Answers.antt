use Rattle.std.proofs.Common.{arith}
use Rattle.std.proofs.lemmas.Grind.{common_steps}
use Rattle.job_line.specs.CellLines.RefusesParts.{miscounted, no_location, no_lowest, no_highest, no_mark, no_content}
use Rattle.job_line.proofs.Listed.{word_is, length_texts}
use Rattle.job_line.proofs.cell_line.written.Goals as goal

pub returns-in_default : goal.returns-in_default
returns-in_default c = grind (arith, common_steps, miscounted, length_texts)

pub returns-in_err-location : goal.returns-in_err-location
returns-in_err-location c = grind (arith, common_steps, no_location, word_is)

pub returns-in_err-limit_of : goal.returns-in_err-limit_of
returns-in_err-limit_of c = grind (arith, common_steps, no_lowest, word_is)

pub returns-in_err-limit_of-2 : goal.returns-in_err-limit_of-2
returns-in_err-limit_of-2 c = grind (arith, common_steps, no_highest, word_is)

pub returns-in_err-mark_of : goal.returns-in_err-mark_of
returns-in_err-mark_of c = grind (arith, common_steps, no_mark, word_is)

pub returns-in_err-content_of : goal.returns-in_err-content_of
returns-in_err-content_of c = grind (arith, common_steps, no_content, word_is)
