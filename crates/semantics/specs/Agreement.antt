-- The natural rules and the row machine agree, to the last count.
use Rattle.std.specs.Prelude.{◌≡◌, ℕ, suc, ◌+◌, ◌<◌, ◌⊎◌, ◌↔◌, List, [], ◌∷◌, length, Option}
use Rattle.rows.specs.declared.row.Row.{Row}
use Rattle.rows.specs.Rows.{rows, row_at, last_row}
use Rattle.loading.specs.Questions.{Loaded}
use Rattle.loading.specs.Stacks.{needs_at}
use Rattle.semantics.specs.declared.fault.Fault.{Fault}
use Rattle.semantics.specs.declared.item.Control.{Control}
use Rattle.semantics.specs.declared.item.Control.TheVariants.{Whole}
use Rattle.semantics.specs.declared.item.Item.{Item}
use Rattle.semantics.specs.Cells.{Cells}
use Rattle.semantics.specs.Rules.{Outcome, a_value, new_cells, a_fault, Derives, ShowsWithin}
use Rattle.semantics.specs.Machine.{Configuration, conf, Transition, Refused}
use Rattle.semantics.specs.Traces.{Fits, Reaches, Refuses, Takes}
use Rattle.semantics.specs.Unfinished.{Unfinished}

-- the configuration in which an outcome shows, where the row was opened over the stacks c and r and the cells m
abbrev pub Shows : (ℕ → Option Row) → List Control → List Item → Cells → Outcome → Configuration → Type 0
Shows rows c r m (a_value v) t = t ≡ conf c (v ∷ r) m
Shows rows c r m (new_cells m') t = t ≡ conf c r m'
Shows rows c r m (a_fault f m') t = Refuses rows (suc (length c)) f m' t

-- from the row p, whole, n transitions come to the outcome: before each of them control stands above c, and never do the
-- stacks rise above c and r by more than k and h
abbrev pub WorksOut : (ℕ → Option Row) → ℕ → ℕ → List Control → List Item → Cells → ℕ → Outcome → ℕ → Type 0
WorksOut rows k h c r m p o n =
    Reaches rows (suc (length c)) (k + length c) (h + length r) (Shows rows c r m o) (conf (Whole p ∷ c) r m) n

-- the needs of the row p
abbrev pub control_need_at : List ℕ → ℕ → ℕ
control_need_at table p = (needs_at table p).control

abbrev pub results_need_at : List ℕ → ℕ → ℕ
results_need_at table p = (needs_at table p).results

-- one outcome at most, and one cost
abbrev pub RulesAreDeterministic : Type 0
RulesAreDeterministic =
    (table : List ℕ) → Loaded table → (m : Cells) (p n n' : ℕ) (o o' : Outcome) →
    Derives (row_at table) m p o n → Derives (row_at table) m p o' n' → (o ≡ o') × (n ≡ n')

-- what is derived at the cost n is what exactly n transitions come to
abbrev pub RulesAndMachineAgree : Type 0
RulesAndMachineAgree =
    (table : List ℕ) → Loaded table → (p : ℕ) → p < rows table →
    (c : List Control) (r : List Item) (m : Cells) (o : Outcome) (n : ℕ) →
    Derives (row_at table) m p o n ↔ WorksOut (row_at table) (control_need_at table p) (results_need_at table p) c r m p o n

-- the rules derive an outcome that shows within N transitions
abbrev pub DerivedWithin : (ℕ → Option Row) → Cells → ℕ → ℕ → Type 0
DerivedWithin rows m p N = (o : Outcome) × (n : ℕ) × Derives rows m p o n × ShowsWithin o n N

-- for any N, one of the two holds, and never both: there is an outcome within N, or N transitions leave the row unfinished
pub record Settles (table : List ℕ) (m : Cells) (p N : ℕ) : Type 0 where
  pub either : DerivedWithin (row_at table) m p N ⊎ Unfinished (row_at table) (control_need_at table) (results_need_at table) m p N
  pub not_both : DerivedWithin (row_at table) m p N → ¬ Unfinished (row_at table) (control_need_at table) (results_need_at table) m p N

abbrev pub EveryCountSettles : Type 0
EveryCountSettles = (table : List ℕ) → Loaded table → (p : ℕ) → p < rows table → (m : Cells) (N : ℕ) → Settles table m p N

-- a configuration that a program's run comes to: it is at its end, moves on or is refused, and fits the program's needs
pub record RunsWell (table : List ℕ) (t : Configuration) : Type 0 where
  pub never_stuck : ((m : Cells) × (t ≡ conf [] [] m)) ⊎ (((u : Configuration) × Transition (row_at table) t u) ⊎ ((f : Fault) × Refused (row_at table) t f))
  pub fits : Fits (control_need_at table (last_row table)) (results_need_at table (last_row table)) t

abbrev pub ProgramsRunWell : Type 0
ProgramsRunWell =
    (table : List ℕ) → Loaded table → (m : Cells) (n : ℕ) (t : Configuration) →
    Takes (row_at table) (conf (Whole (last_row table) ∷ []) [] m) n t → RunsWell table t
