-- A history grows at its end: one more go-on of the board that it has come to.
use Rattle.std.proofs.Common.{ℕ, List, [], ◌∷◌, ◌++◌}
use Rattle.rows.specs.Rows.{row_at}
use Rattle.semantics.specs.Machine.{Configuration}
use Rattle.semantics.specs.Cells.{Cells}
use Rattle.runs.specs.Slices.{Board, running, GoesOn}
use Rattle.runs.specs.Histories.{GoesThrough, rests, goes_on, History}

module _ (table : List ℕ) (k h limit : ℕ) where
  pub append : {a n : ℕ} {s : Configuration} {l : List ℕ} {b c : Board} → GoesThrough table k h limit b l (running n s) →
      GoesOn (row_at table) k h limit a n s c → GoesThrough table k h limit b (l ++ a ∷ []) c
  append rests d = goes_on d rests
  append (goes_on e ds) d = goes_on e (append ds d)

  pub append_history : {a n : ℕ} {s : Configuration} {m : Cells} {l : List ℕ} {c : Board} → History table k h limit m l (running n s) →
      GoesOn (row_at table) k h limit a n s c → History table k h limit m (l ++ a ∷ []) c
  append_history w d = record { admitted = w.admitted; went = append w.went d }
