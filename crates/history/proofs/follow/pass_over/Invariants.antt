use Rattle.std.proofs.Common.{◌≡◌, ◌++◌, take, drop}
use Rattle.history.specs.Turns.{unused}
use Rattle.history.proofs.follow.pass_over.Given as goal

-- once the rest is passed over, all turns are
abbrev pub invariant-loop-turn : goal.invariant-loop-turn
invariant-loop-turn l = take l.turn-index l.turns ++ unused (drop l.turn-index l.turns) ≡ unused l.initial.turns
