use Rattle.std.proofs.Common.{arith}
use Rattle.job_line.specs.Words.Miscounted.{few, many}
use Rattle.job_line.proofs.words.miscounted.Goals as goal

pub returns-then-have-want : goal.returns-then-have-want
returns-then-have-want c = few c.if-have-want.true

pub returns-else-have-want : goal.returns-else-have-want
returns-else-have-want c = many (omega arith)
