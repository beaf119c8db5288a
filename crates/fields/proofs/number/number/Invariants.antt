use Rattle.std.proofs.Common.{drop}
use Rattle.fields.proofs.Leftover.{Leftover}
use Rattle.fields.proofs.number.number.Given as goal

abbrev pub invariant-loop-b : goal.invariant-loop-b
invariant-loop-b l = Leftover l.n (drop l.b-index l.bytes) l.bytes
