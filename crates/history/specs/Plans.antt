-- A board that begins a run and follows a plan of turns, and what may be said of it once it was begun.
use Rattle.std.specs.Prelude.{◌≡◌, ℕ, List, Some, None, Ok, Err, Result}
use Rattle.semantics.specs.Machine.{Configuration, cells_of}
use Rattle.transition.specs.Exchanges.{Room}
use Rattle.runs.specs.Slices.{Board, running, ended}
use Rattle.runs.specs.Histories.{Admits, begun}
use Rattle.runs.specs.Promise.{left_of}
use Rattle.machine.specs.declared.run.BeginRefusal.{BeginRefusal}
use Rattle.machine.specs.declared.run.Running.{Running}
use Rattle.machine.specs.declared.run.Progress.{Progress}
use Rattle.machine.specs.declared.run.Progress.TheVariants as progress
use Rattle.machine.specs.Begins.{first_no, Begins}
use Rattle.machine.specs.States.{board_of, limit_of}
use Rattle.history.specs.declared.turn.Turn.{Turn}
use Rattle.history.specs.Turns.{unused, TakesTurns}

-- what became of a board: the run that it has come to, or why none was begun
abbrev pub Fate : Type 0
Fate = Result Progress BeginRefusal

-- what became of a board whose run was begun with that limit
abbrev pub fate_of : ℕ → Board → Fate
fate_of limit (running n s) = Ok (progress.Running (record { count = n; limit = limit }))
fate_of limit (ended e n s) = Ok (progress.Ended (record { end = e; count = n }))

-- A board with so many places was in the configuration s and had the plan ts: what became of it, the turns as they are
-- then, and the configuration that is left.
pub data Follows (table : List ℕ) (k h limit : ℕ) (s : Configuration) (ts : List Turn) : Fate → List Turn → Configuration → Type 0 where
  -- begin refused: nothing is changed, and no turn is taken
  refused : {e : BeginRefusal} → first_no table k h limit ≡ Some e → Follows table k h limit s ts (Err e) (unused ts) s
  -- the run was begun, and took the turns
  followed : {us : List Turn} {b : Board} → first_no table k h limit ≡ None → Admits table k h limit →
      TakesTurns table k h limit (begun table (cells_of s)) ts us b → Follows table k h limit s ts (fate_of limit b) us (left_of b)

-- The same by the calls that are made: begin's answer with the configuration s₀ that it left, and the turns from there.
module _ (table : List ℕ) (k h limit : ℕ) (s : Configuration) (ts : List Turn) where
  abbrev Begun : Progress → List Turn → Configuration → Type 0
  Begun p us s' =
      (r : Running) × (s₀ : Configuration) × (room : Room) × Begins table k h limit s (Ok r) s₀ × (room ≡ record { control = k; results = h })
      × TakesTurns table room.control room.results r.limit (running r.count s₀) ts us (board_of p s') × (limit_of r.limit p ≡ r.limit)

  abbrev pub Calls : Fate → List Turn → Configuration → Type 0
  Calls (Err e) us s' = Begins table k h limit s (Err e) s' × (us ≡ unused ts)
  Calls (Ok (progress.Running r)) us s' = Begun (progress.Running r) us s'
  Calls (Ok (progress.Ended e)) us s' = Begun (progress.Ended e) us s'

-- where the run was begun, its board, which has come to the configuration s, is so
abbrev pub IfBegun : Fate → Configuration → (Board → Type 0) → Type 0
IfBegun (Err e) s P = Unit {0}
IfBegun (Ok (progress.Running r)) s P = P (running r.count s)
IfBegun (Ok (progress.Ended e)) s P = P (ended e.end e.count s)
