-- A program's whole run: by the natural rules, by the row machine and by SIMP.
use Rattle.std.specs.Prelude.{◌≡◌, ℕ, ◌<◌, ◌⊎◌, ◌↔◌, List, [], ◌∷◌}
use Rattle.rows.specs.Rows.{row_at, last_row}
use Rattle.loading.specs.Questions.{Loaded}
use Rattle.semantics.specs.declared.fault.Fault.{Fault}
use Rattle.semantics.specs.declared.item.Control.TheVariants.{Whole}
use Rattle.semantics.specs.Cells.{Cells}
use Rattle.semantics.specs.Rules.{Executes, Faults}
use Rattle.semantics.specs.Machine.{Configuration, conf, cells_of, Refused}
use Rattle.semantics.specs.Traces.{Takes}
use Rattle.semantics.specs.Simp as simp
use Rattle.semantics.specs.Simp.{C, prog, Memory, simp⟨⟩, SimpTakes}
use Rattle.semantics.specs.Reading.{Reads, memory_of}

-- the program of the table, over the cells m
abbrev pub program_over : List ℕ → Cells → Configuration
program_over table m = conf (Whole (last_row table) ∷ []) [] m

pub record WholeRuns (table : List ℕ) (m : Cells) : Type 0 where
  -- it executes at the cost n exactly where n transitions empty both stacks
  pub finishing : (m' : Cells) (n : ℕ) → Executes (row_at table) m (last_row table) m' n ↔ Takes (row_at table) (program_over table m) n (conf [] [] m')
  -- it faults at the cost n exactly where the transition after n is refused
  pub faulting : (f : Fault) (m' : Cells) (n : ℕ) →
      Faults (row_at table) m (last_row table) f m' n
      ↔ ((t : Configuration) × Takes (row_at table) (program_over table m) n t × Refused (row_at table) t f × (cells_of t ≡ m'))

abbrev pub WholeRunsAgree : Type 0
WholeRunsAgree = (table : List ℕ) → Loaded table → (m : Cells) → WholeRuns table m

-- the same against SIMP's own machine, started with the tree X of the program over the memory of the cells m
pub record SimpRuns (table : List ℕ) (m : Cells) (X : simp.Command) : Type 0 where
  -- what executes at the cost n, SIMP finishes in n transitions
  pub executes : (m' : Cells) (n : ℕ) → Executes (row_at table) m (last_row table) m' n →
      SimpTakes (simp⟨⟩ (prog (C X) ∷ []) [] (memory_of m)) n (simp⟨⟩ [] [] (memory_of m'))
  -- what SIMP finishes in n transitions executes at the cost n, unless a fault comes before
  pub finishes : (M : Memory) (n : ℕ) → SimpTakes (simp⟨⟩ (prog (C X) ∷ []) [] (memory_of m)) n (simp⟨⟩ [] [] M) →
      ((m' : Cells) × Executes (row_at table) m (last_row table) m' n × (M ≡ memory_of m'))
      ⊎ ((f : Fault) × (m' : Cells) × (i : ℕ) × Faults (row_at table) m (last_row table) f m' i × (i < n))

abbrev pub RulesAndSimpAgree : Type 0
RulesAndSimpAgree =
    (table : List ℕ) → Loaded table →
    (X : simp.Command) × Reads (row_at table) (last_row table) (C X) × ((m : Cells) → SimpRuns table m X)
