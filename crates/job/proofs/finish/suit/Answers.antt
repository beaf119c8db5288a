use Rattle.std.proofs.Common.{arith}
use Rattle.std.proofs.lemmas.Grind.{common_steps}
use Rattle.job.specs.Finishes.Unsuited.{unfit}
use Rattle.job.proofs.Fitting.{none_of_pairs}
use Rattle.job.proofs.finish.suit.Goals as goal

pub returns-in-Some : goal.returns-in-Some
returns-in-Some c = grind (arith, common_steps, unfit)

pub returns-in-None : goal.returns-in-None
returns-in-None c = none_of_pairs c.args.cells.now c.args.boards.now c.in-None.ensures
