-- A run of a worked case ends within one slice of the largest length, and as the case claims.
use Rattle.std.proofs.Common.{◌≡◌, ℕ, ◌≤◌, List, [], ◌∷◌, ℤ, sym, refl, ap, subst, arith as linear}
use Rattle.rows.specs.Rows.{row_at, last_row}
use Rattle.semantics.specs.Cells.{Cells}
use Rattle.semantics.specs.Cuts.{largest_slice}
use Rattle.semantics.specs.Machine.{Configuration, cells_of}
use Rattle.semantics.specs.Rules.{new_cells, a_fault}
use Rattle.semantics.specs.Worked.{Case, cells_with, Hold, Ends, finishes, faults, runs_out, Worked}
use Rattle.runs.specs.declared.end.End.{End}
use Rattle.runs.specs.Ends.{end_number, end_row, end_location}
use Rattle.runs.specs.Slices.{Board, running, ended}
use Rattle.runs.specs.Histories.{History}
use Rattle.runs.specs.Promise.{DeriveNeither, Kept}
use Rattle.runs.proofs.Keeping.{kept}
use Rattle.worked.specs.Claimed.{Claimed}

module _ (table : List ℕ) (m : Cells) (limit : ℕ) (l : List ℕ) (left : List (ℕ × ℤ)) where
  -- what is told of an end: its number, row, location and count, and what the cells hold
  pub record Matches (x : End) (i : ℕ) (m' : Cells) (e r o n : ℕ) : Type 0 where
    pub end : end_number x ≡ e
    pub row : end_row x ≡ r
    pub location : end_location x ≡ o
    pub count : i ≡ n
    pub holds : ¬ (e ≡ 19) → Hold m' left

  so : {x y : End} {i n : ℕ} {m' : Cells} → x ≡ y → i ≡ n → (¬ (end_number y ≡ 19) → Hold m' left) → Matches x i m' (end_number y) (end_row y) (end_location y) n
  so e q h = record { end = ap end_number e; row = ap end_row e; location = ap end_location e; count = q; holds = h }

  -- a board that has ended has the end that is derived
  matches : (x : End) (i : ℕ) (s : Configuration) {e r o n : ℕ} → Kept table m limit l (ended x i s) →
      Ends (row_at table) m (last_row table) limit left e r o n → Matches x i (cells_of s) e r o n
  matches x i s w (finishes {m'} {n} d le h) =
      let q = (w.finishes tt m' n).1 (d, le) in so q.0 q.1 (λ _. subst (λ m. Hold m left) (sym q.2) h)
  matches x i s w (faults {f} {m'} {n} d lt h) =
      let q = (w.faults tt f m' n).1 (d, lt) in so q.0 q.1 (λ _. subst (λ m. Hold m left) (sym q.2) h)
  matches x i s w (runs_out none) =
      let neither : DeriveNeither table m limit = (λ m' n d. none (new_cells m') n d.0 d.1, λ f m' n d. none (a_fault f m') n d.0 d.1) in
      let q = ((w.runs_out tt).1 neither).1 in
      so q.0 q.1 (λ no. absurd (no refl))

module _ (c : Case) (worked : Worked c) (short : c.limit ≤ largest_slice) (k h : ℕ) where
  abbrev Run : Board → Type 0
  Run = History c.table k h c.limit (cells_with c.start) (largest_slice ∷ [])

  keeps : (b : Board) → Run b → Kept c.table (cells_with c.start) c.limit (largest_slice ∷ []) b
  keeps b = kept c.table worked.loaded (cells_with c.start) c.limit k h (largest_slice ∷ []) b

  -- its count would be the slice, which is no lower than the limit
  pub not_running : (n : ℕ) (s : Configuration) → Run (running n s) → ⊥
  not_running n s w = let q = (keeps (running n s) w).counts n s refl in omega (linear, q.0, q.1)

  pub ends_as_claimed : (e : End) (n : ℕ) (s : Configuration) → Run (ended e n s) → Claimed c e n (cells_of s)
  ends_as_claimed e n s w =
      let q = matches c.table (cells_with c.start) c.limit (largest_slice ∷ []) c.left e n s (keeps (ended e n s) w) worked.ends in
      record { end = q.end; row = q.row; location = q.location; count = q.count; left = q.holds }
