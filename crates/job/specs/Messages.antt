-- The message for a line that is wrong.
use Rattle.std.specs.Prelude.{ℕ, List, ◌++◌, codes, decimal}
use Rattle.job_line.specs.Messages.{words_of}
use Rattle.job.specs.declared.bad_line.BadLine.{BadLine}

abbrev pub message_of : BadLine → List ℕ
message_of b = codes "line " ++ (decimal b.line ++ (codes ": " ++ words_of b.wrong))
