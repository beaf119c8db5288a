-- Runs worked through: what each is, and what it comes to by the natural rules.
use Rattle.std.specs.Prelude.{◌≡◌, ℕ, ◌<◌, ◌≤◌, cond, List, [], ◌∷◌, ℤ, IfSome, Ok, Option, ◌==◌, None}
use Rattle.cells.specs.declared.cell.Cell.{Cell}
use Rattle.cells.specs.declared.cell.Cell.TheVariants.{Known}
use Rattle.cells.specs.Cells.{widest, at_locations}
use Rattle.rows.specs.declared.row.Row.{Row}
use Rattle.rows.specs.Rows.{row_at, last_row}
use Rattle.loading.specs.declared.needs.Needs.{Needs}
use Rattle.loading.specs.Questions.{Loaded}
use Rattle.loading.specs.Stacks.{needs_at}
use Rattle.semantics.specs.declared.fault.Fault.{Fault}
use Rattle.semantics.specs.Faults.{number_of, row_of, location_of}
use Rattle.semantics.specs.Cells.{Cells, read}
use Rattle.semantics.specs.Rules.{Executes, Faults, Outcome, Derives, ShowsWithin}

-- a table's words, the cells that differ at the start from the plain ones, and the limit; then what is claimed
pub record Case : Type 0 where
  pub table : List ℕ
  pub start : List (ℕ × Cell)
  pub limit : ℕ
  -- the end's number, its row and location, and the count
  pub end : ℕ
  pub row : ℕ
  pub location : ℕ
  pub count : ℕ
  -- numbers that cells hold at the end, and the needs, where they are claimed
  pub left : List (ℕ × ℤ)
  pub needs : Option Needs

-- plain cells are free, unset and of the widest limits
abbrev pub cells_with : List (ℕ × Cell) → Cells
cells_with [] = at_locations (λ k. Known (widest None))
cells_with (s ∷ ss) = λ k. cond (k == s.0) s.1 (cells_with ss k)

abbrev pub Hold : Cells → List (ℕ × ℤ) → Type 0
Hold m [] = Unit {0}
Hold m (s ∷ ss) = (read m s.0 ≡ Ok s.1) × Hold m ss

-- the end of a run of the row p from the cells m with that limit, by the natural rules; `left` is what the cells then hold
pub data Ends (rows : ℕ → Option Row) (m : Cells) (p limit : ℕ) (left : List (ℕ × ℤ)) : ℕ → ℕ → ℕ → ℕ → Type 0 where
  finishes : {m' : Cells} {n : ℕ} → Executes rows m p m' n → n ≤ limit → Hold m' left → Ends rows m p limit left 0 0 0 n
  faults : {f : Fault} {m' : Cells} {n : ℕ} → Faults rows m p f m' n → n < limit → Hold m' left →
      Ends rows m p limit left (number_of f) (row_of f) (location_of f) n
  runs_out : ((o : Outcome) (n : ℕ) → Derives rows m p o n → ¬ ShowsWithin o n limit) → Ends rows m p limit left 19 0 0 limit

pub record Worked (c : Case) : Type 0 where
  pub loaded : Loaded c.table
  pub ends : Ends (row_at c.table) (cells_with c.start) (last_row c.table) c.limit c.left c.end c.row c.location c.count
  pub needed : IfSome c.needs (λ n. needs_at c.table (last_row c.table) ≡ n)

abbrev pub Each : (Case → Type 0) → List Case → Type 0
Each P [] = Unit {0}
Each P (c ∷ cs) = P c × Each P cs
