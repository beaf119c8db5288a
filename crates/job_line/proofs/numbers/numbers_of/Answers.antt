use Rattle.std.proofs.Common.{arith}
use Rattle.std.proofs.lemmas.Grind.{common_steps}
use Rattle.job_line.specs.Numbers.RefusesNumbers.{not_words, no_memory}
use Rattle.job_line.proofs.Listed.{numbers_more, not_all}
use Rattle.job_line.proofs.numbers.numbers_of.Goals as goal

pub returns-in_err-number_of : goal.returns-in_err-number_of
returns-in_err-number_of c = grind (arith, common_steps, not_words, not_all)

pub returns-in_err-push : goal.returns-in_err-push
returns-in_err-push c = grind (arith, common_steps, no_memory)

pub loop-word-preserved : goal.loop-word-preserved
loop-word-preserved c = grind (arith, common_steps, numbers_more)
