-- The words are the bytes of the fields so far.
use Rattle.std.proofs.Common.{◌≡◌, map, vec_items}
use Rattle.fields.specs.Spans.{bytes_of}
use Rattle.job_line.specs.Words.{texts}
use Rattle.job_line.proofs.words.cut.Given as goal

abbrev pub invariant-loop-field : goal.invariant-loop-field
invariant-loop-field l = texts (vec_items l.words) ≡ map (bytes_of l.text) l.yielded
