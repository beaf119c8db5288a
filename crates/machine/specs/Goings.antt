-- Going on: what is answered, beside the board that is left.
use Rattle.std.specs.Prelude.{◌≡◌, ℕ, ◌<◌, ◌≤◌, Bool, cond, ◌&&◌, List, length, Some, None, Ok, Err, Option, Result, ◌==◌, nat_le}
use Rattle.semantics.specs.declared.item.Control.{Control}
use Rattle.semantics.specs.declared.item.Item.{Item}
use Rattle.semantics.specs.Cuts.{largest_slice}
use Rattle.runs.specs.declared.end.End.{End}
use Rattle.runs.specs.declared.end.End.TheVariants.{Finished, Limit}
use Rattle.machine.specs.declared.run.Running.{Running}
use Rattle.machine.specs.declared.run.Progress.{Progress}
use Rattle.machine.specs.declared.run.TurnedDown.{TurnedDown}
use Rattle.machine.specs.States.{limit_of}

-- neither stack holds anything
abbrev pub none_left : List Control → List Item → Bool
none_left c r = length c == 0 && length r == 0

-- how a run ends that has so many transitions of its limit, if it does: at the finish, and else at the limit
abbrev pub seen : Bool → ℕ → ℕ → Option End
seen finished n limit = cond finished (Some Finished) (cond (nat_le limit n) (Some Limit) None)

-- a slice up to the largest is served, and the limit stays; a longer one is turned down, and the run comes back as it was
abbrev pub Answered : Running → ℕ → Result Progress TurnedDown → Type 0
Answered r slice (Ok p) = (slice ≤ largest_slice) × (limit_of r.limit p ≡ r.limit)
Answered r slice (Err t) = (largest_slice < slice) × (t.running ≡ r)
