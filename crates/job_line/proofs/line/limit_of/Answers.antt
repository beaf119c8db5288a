use Rattle.std.proofs.Common.{arith}
use Rattle.std.proofs.lemmas.Grind.{common_steps}
use Rattle.job_line.specs.Lines.RefusesLimit.{miscounted, no_number}
use Rattle.job_line.proofs.Listed.{word_is, length_texts}
use Rattle.job_line.proofs.line.limit_of.Goals as goal

pub returns-in_default : goal.returns-in_default
returns-in_default c = grind (arith, common_steps, miscounted, length_texts)

pub returns : goal.returns
returns c = grind (arith, common_steps, no_number, word_is, length_texts)
