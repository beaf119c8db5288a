-- The fields so far are numbers, and these are they.
use Rattle.std.proofs.Common.{◌≡◌, vec_items}
use Rattle.fields.specs.Reading.{Words, values_of}
use Rattle.fields.proofs.read.unsigned_fields.Given as goal

abbrev pub invariant-loop-field : goal.invariant-loop-field
invariant-loop-field l = record { words : Words l.text l.yielded; same : vec_items l.values ≡ values_of l.text l.yielded }
