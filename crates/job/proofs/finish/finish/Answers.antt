use Rattle.std.proofs.Common.{arith}
use Rattle.std.proofs.lemmas.Grind.{common_steps}
use Rattle.job.specs.Finishes.Unfinished.{unsuited, no_limit, no_board}
use Rattle.job.proofs.finish.finish.Goals as goal

pub returns-in_err-suit : goal.returns-in_err-suit
returns-in_err-suit c = grind (arith, common_steps, unsuited)

pub returns-in_err-limit : goal.returns-in_err-limit
returns-in_err-limit c = grind (arith, common_steps, no_limit)

pub returns-then-is_empty : goal.returns-then-is_empty
returns-then-is_empty c = grind (arith, common_steps, no_board)
