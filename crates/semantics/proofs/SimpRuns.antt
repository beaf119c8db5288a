-- Whole runs of SIMP's machine against the natural rules.
use Rattle.std.proofs.Common.{◌≡◌, ℕ, suc, ◌<◌, ◌⊎◌, List, [], ◌∷◌, Option, refl, ap, ◌∙◌, subst, inl, inr, arith as linear}
use Rattle.rows.specs.declared.row.Row.{Row}
use Rattle.rows.specs.Rows.{row_at, last_row}
use Rattle.loading.specs.Questions.{Loaded}
use Rattle.semantics.specs.declared.fault.Fault.{Fault}
use Rattle.semantics.specs.declared.item.Control.{Control}
use Rattle.semantics.specs.declared.item.Item.{Item}
use Rattle.semantics.specs.Cells.{Cells}
use Rattle.semantics.specs.Rules.{Executes, Faults}
use Rattle.semantics.specs.Machine.{Configuration, conf, cells_of, Transition, Refused, NoRuleFits}
use Rattle.semantics.specs.Traces.{Takes, none, more}
use Rattle.semantics.specs.Simp as simp
use Rattle.semantics.specs.Simp.{Instruction, C, prog, Memory, Simp, simp⟨⟩, SimpTransition, SimpTakes, simp_none, simp_more}
use Rattle.semantics.specs.Reading.{memory_of, Reads, whole, ReadsStack, no_control, then_control, ReadsResults, no_items, ReadsAs}
use Rattle.semantics.specs.Coherence.{Coherent}
use Rattle.semantics.specs.WholeRuns.{program_over, SimpRuns, RulesAndSimpAgree}
use Rattle.semantics.proofs.Step.{machine_is_deterministic}
use Rattle.semantics.proofs.SimpSteps.{one_way, none_at_end}
use Rattle.semantics.proofs.Trees.{tree}
use Rattle.semantics.proofs.IsSimp.{row_machine_is_simp}
use Rattle.semantics.proofs.WholeRuns.{program_stands, whole_runs}

module _ (rows : ℕ → Option Row) where
  -- empty stacks read as empty ones, either way
  control_empty : {c' : List Instruction} → ReadsStack rows [] c' → c' ≡ []
  control_empty no_control = refl

  results_empty : {r' : List simp.Result} → ReadsResults rows [] r' → r' ≡ []
  results_empty no_items = refl

  control_is_empty : {c : List Control} → ReadsStack rows c [] → c ≡ []
  control_is_empty no_control = refl

  results_are_empty : {r : List Item} → ReadsResults rows r [] → r ≡ []
  results_are_empty no_items = refl

  pub end_read : (m : Cells) (T : Simp) → ReadsAs rows (conf [] [] m) T → T ≡ simp⟨⟩ [] [] (memory_of m)
  end_read m (simp⟨⟩ c' r' M) d =
      ap (λ c. simp⟨⟩ c r' M) (control_empty d.0) ∙ ap (λ r. simp⟨⟩ [] r M) (results_empty d.1) ∙ ap (λ M. simp⟨⟩ [] [] M) d.2

  pub read_end : (t : Configuration) (M : Memory) → ReadsAs rows t (simp⟨⟩ [] [] M) → (m : Cells) × (t ≡ conf [] [] m) × (M ≡ memory_of m)
  read_end (conf c r m) M d =
      (m, ap (λ c. conf c r m) (control_is_empty d.0) ∙ ap (λ r. conf [] r m) (results_are_empty d.1), d.2)

module _ (table : List ℕ) (loaded : Loaded table) where
  abbrev rows : ℕ → Option Row
  rows = row_at table

  -- SIMP's run is followed by the row machine, unless a transition is refused before
  abbrev Followed : Configuration → Simp → ℕ → Type 0
  Followed s T n =
      ((t : Configuration) × Takes rows s n t × ReadsAs rows t T)
      ⊎ ((i : ℕ) × (t : Configuration) × (f : Fault) × (i < n) × Takes rows s i t × Refused rows t f)

  one_more : {s s' : Configuration} {n : ℕ} (T : Simp) → Transition rows s s' → Followed s' T n → Followed s T (suc n)
  one_more T w (inl y) = inl (y.0, more w y.1, y.2)
  one_more T w (inr y) = inr (suc y.0, y.1, y.2, omega linear, more w y.4, y.5)

  ended_not : (m : Cells) (s : Configuration) (S T : Simp) → s ≡ conf [] [] m → ReadsAs rows s S → ¬ SimpTransition S T
  ended_not m s S T q d w =
      let e = end_read rows m S (subst (λ s. ReadsAs rows s S) q d) in none_at_end (subst (λ S. SimpTransition S T) e w)

  follow : {S T : Simp} {n : ℕ} → SimpTakes S n T → (s : Configuration) → Coherent rows s → ReadsAs rows s S → Followed s T n
  follow simp_none s k d = inl (s, none, d)
  follow {T} (simp_more {s = S} {s' = S'} {n} w g) s k d = by ((machine_is_deterministic rows).one_of_three s) (follow g)
    where
      by : ((t : Configuration) × Transition rows s t) ⊎ (((f : Fault) × Refused rows s f) ⊎ NoRuleFits rows s) →
          ((s' : Configuration) → Coherent rows s' → ReadsAs rows s' S' → Followed s' T n) → Followed s T (suc n)
      by (inl y) ih =
          let z = (row_machine_is_simp table loaded).simulated s y.0 S y.1 d in
          one_more T y.1 (ih y.0 ((row_machine_is_simp table loaded).kept s y.0 k y.1) (subst (ReadsAs rows y.0) (one_way z.2 w) z.1))
      by (inr (inl y)) ih = inr (0, s, y.0, omega linear, none, y.1)
      by (inr (inr y)) ih =
          let z = (row_machine_is_simp table loaded).ends s k y in absurd (ended_not z.0 s S S' z.1 d w)

  module _ (m : Cells) (X : simp.Command) (reads : Reads rows (last_row table) (C X)) where
    abbrev S₀ : Simp
    S₀ = simp⟨⟩ (prog (C X) ∷ []) [] (memory_of m)

    start_read : ReadsAs rows (program_over table m) S₀
    start_read = (then_control (whole reads) no_control, no_items, refl)

    executed : (m' : Cells) (n : ℕ) → Executes rows m (last_row table) m' n → SimpTakes S₀ n (simp⟨⟩ [] [] (memory_of m'))
    executed m' n d =
        let g = ((whole_runs table loaded m).finishing m' n).0 d in
        let z = (row_machine_is_simp table loaded).simulated_all (program_over table m) (conf [] [] m') S₀ n g start_read in
        subst (λ T. SimpTakes S₀ n T) (end_read rows m' z.0 z.1) z.2

    finished_by : (M : Memory) (n : ℕ) → Followed (program_over table m) (simp⟨⟩ [] [] M) n →
        ((m' : Cells) × Executes rows m (last_row table) m' n × (M ≡ memory_of m'))
        ⊎ ((f : Fault) × (m' : Cells) × (i : ℕ) × Faults rows m (last_row table) f m' i × (i < n))
    finished_by M n (inl y) =
        let z = read_end rows y.0 M y.2 in
        inl (z.0, ((whole_runs table loaded m).finishing z.0 n).1 (subst (λ t. Takes rows (program_over table m) n t) z.1 y.1), z.2)
    finished_by M n (inr y) =
        inr (y.2, cells_of y.1, y.0, ((whole_runs table loaded m).faulting y.2 (cells_of y.1) y.0).1 (y.1, y.4, y.5, refl), y.3)

    simp_runs : SimpRuns table m X
    simp_runs = record {
      executes = executed;
      finishes = λ M n g. finished_by M n (follow g (program_over table m) ((row_machine_is_simp table loaded).starts m) start_read);
    }

pub rules_and_simp_agree : RulesAndSimpAgree
rules_and_simp_agree table loaded =
    let X = tree (row_at table) (program_stands table loaded) in (X.0, X.1, λ m. simp_runs table loaded m X.0 X.1)
