-- The turns of a board: what is seen of one, and what a plan of them comes to.
use Rattle.std.specs.Prelude.{◌≡◌, ℕ, Bool, true, false, cond, List, [], ◌∷◌, nat_le}
use Rattle.rows.specs.Rows.{row_at}
use Rattle.semantics.specs.Cuts.{largest_slice}
use Rattle.runs.specs.Slices.{Board, running, ended, GoesOn}
use Rattle.history.specs.declared.turn.Seen.{Seen}
use Rattle.history.specs.declared.turn.Seen.TheVariants as seen
use Rattle.history.specs.declared.turn.Turn.{Turn}

-- what is seen of a slice that was served, and has come to that board
abbrev pub served_as : Board → Seen
served_as (running n s) = seen.Running n
served_as (ended e n s) = seen.Ended (record { end = e; count = n })

-- what is seen of a go-on with the slice a that has come to the board b
abbrev pub seen_of : ℕ → Board → Seen
seen_of a b = cond (nat_le a largest_slice) (served_as b) seen.TurnedDown

-- the turn, of which that is seen
abbrev pub saw : Turn → Seen → Turn
saw t x = record { slice = t.slice; seen = x }

-- turns none of which is taken
abbrev pub unused : List Turn → List Turn
unused [] = []
unused (t ∷ ts) = saw t seen.Unused ∷ unused ts

abbrev pub is_used : Seen → Bool
is_used seen.Unused = false
is_used seen.TurnedDown = true
is_used (seen.Running n) = true
is_used (seen.Ended e) = true

-- the slices of the turns that were taken
abbrev pub used : List Turn → List ℕ
used [] = []
used (t ∷ ts) = cond (is_used t.seen) (t.slice ∷ used ts) (used ts)

module _ (table : List ℕ) (k h limit : ℕ) where
  -- one turn of a board: the turn as it was, the turn as it is then, and the board that comes of it
  abbrev pub TakesTurn : Board → Turn → Turn → Board → Type 0
  -- a run that has not ended goes on by the slice
  TakesTurn (running n s) t u b = GoesOn (row_at table) k h limit t.slice n s b × (u ≡ saw t (seen_of t.slice b))
  -- one that has ended does not
  TakesTurn (ended e n s) t u b = (u ≡ saw t seen.Unused) × (b ≡ ended e n s)

  -- turns, the first one first, from one board to another: as they were, and as they are then
  pub data TakesTurns : Board → List Turn → List Turn → Board → Type 0 where
    no_more : {b : Board} → TakesTurns b [] [] b
    one_more : {b c d : Board} {t u : Turn} {ts us : List Turn} → TakesTurn b t u c → TakesTurns c ts us d →
        TakesTurns b (t ∷ ts) (u ∷ us) d
