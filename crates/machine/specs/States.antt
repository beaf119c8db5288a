-- What the answers tell: the number of a refusal, and the board that an answer leaves.
use Rattle.std.specs.Prelude.{ℕ, Ok, Err, Result}
use Rattle.semantics.specs.Machine.{Configuration}
use Rattle.runs.specs.Slices.{Board, running, ended}
use Rattle.machine.specs.declared.run.BeginRefusal.{BeginRefusal}
use Rattle.machine.specs.declared.run.BeginRefusal.TheVariants as no
use Rattle.machine.specs.declared.run.Progress.{Progress}
use Rattle.machine.specs.declared.run.Progress.TheVariants as progress
use Rattle.machine.specs.declared.run.TurnedDown.{TurnedDown}

abbrev pub refusal_number : BeginRefusal → ℕ
refusal_number no.Limit = 8
refusal_number no.ControlPlaces = 9
refusal_number no.ResultsPlaces = 10

-- the board of a served slice, where the stacks and the store have come to s
abbrev pub board_of : Progress → Configuration → Board
board_of (progress.Running r) s = running r.count s
board_of (progress.Ended e) s = ended e.end e.count s

-- the board of a go-on
abbrev pub board_after : Result Progress TurnedDown → Configuration → Board
board_after (Ok p) s = board_of p s
board_after (Err t) s = running t.running.count s

-- the limit of the run, where it goes on
abbrev pub limit_of : ℕ → Progress → ℕ
limit_of limit (progress.Running r) = r.limit
limit_of limit (progress.Ended e) = limit
