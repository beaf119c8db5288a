-- The words passed over are numbers, and these are their numbers.
use Rattle.std.proofs.Common.{take, vec_items}
use Rattle.job_line.specs.Numbers.{Numbers}
use Rattle.job_line.specs.Words.{texts}
use Rattle.job_line.proofs.numbers.numbers_of.Given as goal

abbrev pub invariant-loop-word : goal.invariant-loop-word
invariant-loop-word l = Numbers (texts (take l.word-index l.words)) (vec_items l.numbers)
