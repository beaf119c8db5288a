use Rattle.std.proofs.Common.{arith}
use Rattle.std.proofs.lemmas.Grind.{common_steps}
use Rattle.job.specs.Drafts.Clashes.{second_limit}
use Rattle.job.proofs.draft.Draft.set_limit.Goals as goal

pub returns-then-is_some : goal.returns-then-is_some
returns-then-is_some c = grind (arith, common_steps, second_limit)
