use Rattle.std.proofs.Common.{arith}
use Rattle.std.proofs.lemmas.Grind.{common_steps}
use Rattle.job_line.specs.Lines.Says.{nothing, headed}
use Rattle.job_line.specs.Lines.Refuses.{unheaded, after}
use Rattle.job_line.proofs.line.said.Goals as goal

pub returns-in_err-keyword_of-in-len1-up : goal.returns-in_err-keyword_of-in-len1-up
returns-in_err-keyword_of-in-len1-up c = grind (arith, common_steps, unheaded)

pub returns-in_ok-keyword_of-in-len1-up : goal.returns-in_ok-keyword_of-in-len1-up
returns-in_ok-keyword_of-in-len1-up c = grind (arith, common_steps, headed, after)

pub returns-in-empty : goal.returns-in-empty
returns-in-empty c = grind (arith, common_steps, nothing)
