-- The history of a board: it begins a run, and goes on with it by one slice after another.
use Rattle.std.specs.Prelude.{ℕ, ◌≤◌, List, [], ◌∷◌}
use Rattle.rows.specs.Rows.{row_at, last_row}
use Rattle.semantics.specs.Machine.{Configuration}
use Rattle.semantics.specs.Cells.{Cells}
use Rattle.semantics.specs.WholeRuns.{program_over}
use Rattle.semantics.specs.Agreement.{control_need_at, results_need_at}
use Rattle.runs.specs.Slices.{Board, running, GoesOn}

abbrev pub largest_limit : ℕ
largest_limit = 1000000000

-- begin has found nothing to refuse: the limit, and the places of the two stacks
pub record Admits (table : List ℕ) (k h limit : ℕ) : Type 0 where
  pub from : 1 ≤ limit
  pub to : limit ≤ largest_limit
  pub control : control_need_at table (last_row table) ≤ k
  pub results : results_need_at table (last_row table) ≤ h

-- the board that begin leaves, over the cells m
abbrev pub begun : List ℕ → Cells → Board
begun table m = running 0 (program_over table m)

module _ (table : List ℕ) (k h limit : ℕ) where
  -- go-ons, the first one first, from one board to another. After an end there is none.
  pub data GoesThrough : Board → List ℕ → Board → Type 0 where
    rests : {b : Board} → GoesThrough b [] b
    goes_on : {n a : ℕ} {s : Configuration} {l : List ℕ} {b c : Board} → GoesOn (row_at table) k h limit a n s b →
        GoesThrough b l c → GoesThrough (running n s) (a ∷ l) c

  -- a board that has begun over the cells m, and has gone on by the slices l
  pub record History (m : Cells) (l : List ℕ) (b : Board) : Type 0 where
    pub admitted : Admits table k h limit
    pub went : GoesThrough (begun table m) l b
