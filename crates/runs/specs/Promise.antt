-- What becomes of a board, by the natural rules; and what two boards promise each other.
use Rattle.std.specs.Prelude.{◌≡◌, ℕ, ◌<◌, ◌≤◌, ◌↔◌, List, [], ◌∷◌, ◌++◌}
use Rattle.rows.specs.Rows.{row_at, last_row}
use Rattle.loading.specs.Questions.{Loaded}
use Rattle.semantics.specs.declared.fault.Fault.{Fault}
use Rattle.semantics.specs.Cells.{Cells}
use Rattle.semantics.specs.Rules.{Executes, Faults}
use Rattle.semantics.specs.Machine.{Configuration, cells_of}
use Rattle.semantics.specs.Traces.{Takes}
use Rattle.semantics.specs.Cuts.{total}
use Rattle.semantics.specs.WholeRuns.{program_over}
use Rattle.runs.specs.declared.end.Stop.TheVariants as stop
use Rattle.runs.specs.declared.end.End.{End}
use Rattle.runs.specs.declared.end.End.TheVariants.{Finished, Stopped, Limit}
use Rattle.runs.specs.Slices.{Board, running, ended}
use Rattle.runs.specs.Histories.{History}

abbrev pub Ended : Board → Type 0
Ended (running n s) = ⊥
Ended (ended e n s) = Unit {0}

-- the board has ended so, with that count and those cells
abbrev pub Ends : Board → End → ℕ → Cells → Type 0
Ends (running i s) e n m = ⊥
Ends (ended f i s) e n m = (f ≡ e) × (i ≡ n) × (cells_of s ≡ m)

abbrev pub count_of : Board → ℕ
count_of (running n s) = n
count_of (ended e n s) = n

abbrev pub left_of : Board → Configuration
left_of (running n s) = s
left_of (ended e n s) = s

-- the rules, from the cells m
module _ (table : List ℕ) (m : Cells) (limit : ℕ) where
  abbrev pub ExecutesWithin : Cells → ℕ → Type 0
  ExecutesWithin m' n = Executes (row_at table) m (last_row table) m' n × (n ≤ limit)

  abbrev pub FaultsBelow : Fault → Cells → ℕ → Type 0
  FaultsBelow f m' n = Faults (row_at table) m (last_row table) f m' n × (n < limit)

  abbrev pub DeriveNeither : Type 0
  DeriveNeither = ((m' : Cells) (n : ℕ) → ¬ ExecutesWithin m' n) × ((f : Fault) (m' : Cells) (n : ℕ) → ¬ FaultsBelow f m' n)

  -- the board b, which has gone on by the slices l, has kept to the rules
  pub record Kept (l : List ℕ) (b : Board) : Type 0 where
    -- once ended: it has finished exactly when the rules derive its cells at its count, within the limit
    pub finishes : Ended b → (m' : Cells) (n : ℕ) → Ends b Finished n m' ↔ ExecutesWithin m' n
    -- its end is a fault exactly when the rules derive that fault with its cells at its count, below the limit
    pub faults : Ended b → (f : Fault) (m' : Cells) (n : ℕ) → Ends b (Stopped (stop.Fault f)) n m' ↔ FaultsBelow f m' n
    -- its end is the limit, with the count at the limit, exactly when the rules derive neither
    pub runs_out : Ended b → ((m' : Cells) × Ends b Limit limit m') ↔ DeriveNeither
    pub at_limit : (n : ℕ) (m' : Cells) → Ends b Limit n m' → n ≡ limit
    pub never_stuck : (n : ℕ) (m' : Cells) → ¬ Ends b (Stopped stop.Stuck) n m'
    -- until it ends, its count is the sum of the slices that were served, and below the limit
    pub counts : (n : ℕ) (s : Configuration) → b ≡ running n s → (n ≡ total l) × (n < limit)
    -- at all times, stacks and cells are those that as many transitions leave
    pub leaves : Takes (row_at table) (program_over table m) (count_of b) (left_of b)

-- two boards: each has kept to the rules, and once both have ended they have one end, one count, equal stacks and equal cells
pub record Agree (table : List ℕ) (limit : ℕ) (m₁ m₂ : Cells) (l₁ l₂ : List ℕ) (b₁ b₂ : Board) : Type 0 where
  pub first : Kept table m₁ limit l₁ b₁
  pub second : Kept table m₂ limit l₂ b₂
  pub one_end : Ended b₁ → Ended b₂ → b₁ ≡ b₂

abbrev pub SameCells : Cells → Cells → Type 0
SameCells m₁ m₂ = (l : ℕ) → m₁ l ≡ m₂ l

-- stacks of whatever places, slices of whatever lengths
abbrev pub BoardsAgree : Type 0
BoardsAgree =
    (table : List ℕ) → Loaded table → (limit : ℕ) (m₁ m₂ : Cells) → SameCells m₁ m₂ →
    (k₁ h₁ k₂ h₂ : ℕ) (l₁ l₂ : List ℕ) (b₁ b₂ : Board) →
    History table k₁ h₁ limit m₁ l₁ b₁ → History table k₂ h₂ limit m₂ l₂ b₂ → Agree table limit m₁ m₂ l₁ l₂ b₁ b₂

-- A board with so many places, which began over whatever cells and came by whatever go-ons to the count n and the
-- configuration s, goes on with the slice a, and is then b: it agrees with every other board.
abbrev pub AgreesOnward : List ℕ → ℕ → ℕ → ℕ → ℕ → ℕ → Configuration → Board → Type 0
AgreesOnward table k h limit a n s b =
    (m₁ m₂ : Cells) → SameCells m₁ m₂ → (k₂ h₂ : ℕ) (l₁ l₂ : List ℕ) (b₂ : Board) →
    History table k h limit m₁ l₁ (running n s) → History table k₂ h₂ limit m₂ l₂ b₂ → Agree table limit m₁ m₂ (l₁ ++ a ∷ []) l₂ b b₂
