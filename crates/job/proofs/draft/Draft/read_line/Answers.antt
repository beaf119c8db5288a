use Rattle.std.proofs.Common.{arith}
use Rattle.std.proofs.lemmas.Grind.{common_steps}
use Rattle.job.specs.Drafts.RefusesLineOf.{wrong, clashes}
use Rattle.job.proofs.draft.Draft.read_line.Goals as goal

pub returns-in_err-line_of : goal.returns-in_err-line_of
returns-in_err-line_of c = grind (arith, common_steps, wrong)

pub returns : goal.returns
returns c = grind (arith, common_steps, clashes)
