use Rattle.std.proofs.Common.{arith}
use Rattle.std.proofs.lemmas.Grind.{common_steps}
use Rattle.job_line.specs.Lines.RefusesLine.{no_words, not_said}
use Rattle.job_line.proofs.line.line_of.Goals as goal

pub returns-in_err-words : goal.returns-in_err-words
returns-in_err-words c = grind (arith, common_steps, no_words)

pub returns : goal.returns
returns c = grind (arith, common_steps, not_said)
