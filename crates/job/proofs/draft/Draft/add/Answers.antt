use Rattle.std.proofs.Common.{arith}
use Rattle.std.proofs.lemmas.Grind.{common_steps}
use Rattle.job.specs.Drafts.Clashes.{no_memory}
use Rattle.job.proofs.draft.Draft.add.Goals as goal

pub returns-in_err-extend_from_slice-in-Table : goal.returns-in_err-extend_from_slice-in-Table
returns-in_err-extend_from_slice-in-Table c = grind (arith, common_steps, no_memory)

pub returns-in_err-push-in-Board : goal.returns-in_err-push-in-Board
returns-in_err-push-in-Board c = grind (arith, common_steps, no_memory)
