-- The row machine is SIMP's.
use Rattle.std.specs.Prelude.{◌≡◌, ℕ, ◌<◌, ◌⊎◌, ◌↔◌, List, [], ◌∷◌, ℤ, Some, Err, Option}
use Rattle.cells.specs.declared.fault.StoreFault.{StoreFault}
use Rattle.rows.specs.declared.row.Operator.{Operator}
use Rattle.rows.specs.declared.row.Row.{Row}
use Rattle.rows.specs.declared.row.Row.TheVariants as row
use Rattle.rows.specs.Rows.{rows, row_at, last_row}
use Rattle.loading.specs.Questions.{Loaded}
use Rattle.semantics.specs.declared.arithmetic.ArithmeticFault.{ArithmeticFault}
use Rattle.semantics.specs.declared.fault.Cause.TheVariants.{Store, Arithmetic}
use Rattle.semantics.specs.declared.fault.Fault.{Fault}
use Rattle.semantics.specs.declared.item.Control.{Control}
use Rattle.semantics.specs.declared.item.Control.TheVariants.{Whole, Finish}
use Rattle.semantics.specs.declared.item.Item.{Item}
use Rattle.semantics.specs.declared.item.Item.TheVariants as item
use Rattle.semantics.specs.Arithmetic.{outcome, computed}
use Rattle.semantics.specs.Faults.{fault_at}
use Rattle.semantics.specs.Cells.{Cells, asked}
use Rattle.semantics.specs.Machine.{Configuration, conf, Transition, Refused, NoRuleFits}
use Rattle.semantics.specs.Traces.{Takes}
use Rattle.semantics.specs.Simp.{Program, Simp, SimpTransition, SimpTakes}
use Rattle.semantics.specs.Reading.{Reads, ReadsAs}
use Rattle.semantics.specs.Coherence.{Coherent}

-- a refusal that SIMP knows nothing of: it bounds no numbers, and its memory takes every number
pub data BeyondSimp (rows : ℕ → Option Row) : Configuration → Fault → Type 0 where
  past_the_range : {p x y : ℕ} {o : Operator} {a b z : ℤ} {f : ArithmeticFault} {c : List Control} {r : List Item} {m : Cells} →
      rows p ≡ Some (row.Arithmetic o x y) → outcome o a b ≡ Some z → computed o a b ≡ Err f →
      BeyondSimp rows (conf (Finish p ∷ c) (item.Number b ∷ item.Number a ∷ r) m) (fault_at p (Arithmetic f))
  past_the_store : {p l x : ℕ} {a : ℤ} {f : StoreFault} {c : List Control} {r : List Item} {m : Cells} →
      rows p ≡ Some (row.Assignment l x) → asked m l a ≡ Err f →
      BeyondSimp rows (conf (Finish p ∷ c) (item.Number a ∷ item.Location l ∷ r) m) (fault_at p (Store f))

pub record IsSimp (table : List ℕ) : Type 0 where
  -- each row reads as one tree
  pub tree : (p : ℕ) → p < rows table → (P : Program) × Reads (row_at table) p P
  pub one_tree : (p : ℕ) (P Q : Program) → Reads (row_at table) p P → Reads (row_at table) p Q → P ≡ Q
  -- a transition, read, is a SIMP transition; and so are many
  pub simulated : (s t : Configuration) (S : Simp) → Transition (row_at table) s t → ReadsAs (row_at table) s S →
      (T : Simp) × ReadsAs (row_at table) t T × SimpTransition S T
  pub simulated_all : (s t : Configuration) (S : Simp) (n : ℕ) → Takes (row_at table) s n t → ReadsAs (row_at table) s S →
      (T : Simp) × ReadsAs (row_at table) t T × SimpTakes S n T
  -- a program starts coherent, and its transitions keep it so
  pub starts : (m : Cells) → Coherent (row_at table) (conf (Whole (last_row table) ∷ []) [] m)
  pub kept : (s t : Configuration) → Coherent (row_at table) s → Transition (row_at table) s t → Coherent (row_at table) t
  -- there, a transition is made exactly when SIMP has one and no number stands against it
  pub exactly : (s : Configuration) (S : Simp) → Coherent (row_at table) s → ReadsAs (row_at table) s S →
      ((t : Configuration) × Transition (row_at table) s t) ↔ (((T : Simp) × SimpTransition S T) × ((f : Fault) → ¬ Refused (row_at table) s f))
  -- where a number stands against it, SIMP has none either, or the refusal is beyond SIMP
  pub refusals : (s : Configuration) (S : Simp) (f : Fault) → ReadsAs (row_at table) s S → Refused (row_at table) s f →
      ((T : Simp) → ¬ SimpTransition S T) ⊎ BeyondSimp (row_at table) s f
  -- and no rule fits only at the end
  pub ends : (s : Configuration) → Coherent (row_at table) s → NoRuleFits (row_at table) s → (m : Cells) × (s ≡ conf [] [] m)

abbrev pub RowMachineIsSimp : Type 0
RowMachineIsSimp = (table : List ℕ) → Loaded table → IsSimp table

-- SIMP has at most one transition
abbrev pub SimpIsDeterministic : Type 0
SimpIsDeterministic = (S T U : Simp) → SimpTransition S T → SimpTransition S U → T ≡ U
