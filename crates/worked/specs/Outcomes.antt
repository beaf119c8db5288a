-- A whole run by one slice of the largest length, and what is answered of it.
use Rattle.std.specs.Prelude.{◌≡◌, ℕ, List, [], ◌∷◌, Some, None, Option}
use Rattle.rows.specs.Rows.{last_row}
use Rattle.loading.specs.Questions.{Loaded}
use Rattle.semantics.specs.Cells.{Cells}
use Rattle.semantics.specs.Cuts.{largest_slice}
use Rattle.semantics.specs.Machine.{Configuration, cells_of}
use Rattle.semantics.specs.Agreement.{control_need_at, results_need_at}
use Rattle.runs.specs.Slices.{Board, running, ended}
use Rattle.runs.specs.Histories.{Admits, History}
use Rattle.machine.specs.declared.run.Ended.{Ended}

-- the table, the places, the limit, and the cells before and after
module _ (table : List ℕ) (k h limit : ℕ) (m m' : Cells) where
  -- begun over the cells m, and gone on with once
  abbrev pub Leaves : (Configuration → Board) → Type 0
  Leaves board = (s : Configuration) × (cells_of s ≡ m') × History table k h limit m (largest_slice ∷ []) (board s)

  -- an end is that of the run; none is answered only where begin refuses or the run is not over
  abbrev pub Tells : Option Ended → Type 0
  Tells (Some e) = Leaves (ended e.end e.count)
  Tells None = Admits table k h limit → (n : ℕ) × Leaves (running n)

-- the same on as many places as the table needs, where k and h are lent
module _ (table : List ℕ) (k h limit : ℕ) (m m' : Cells) where
  abbrev pub LeavesOnNeeds : (Configuration → Board) → Type 0
  LeavesOnNeeds = Leaves table (control_need_at table (last_row table)) (results_need_at table (last_row table)) limit m m'

  abbrev pub ComesTo : Option Ended → Type 0
  ComesTo (Some e) = Loaded table × Admits table k h limit × LeavesOnNeeds (ended e.end e.count)
  ComesTo None = Loaded table → Admits table k h limit → (n : ℕ) × LeavesOnNeeds (running n)
