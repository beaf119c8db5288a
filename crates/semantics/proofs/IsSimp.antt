-- The row machine is SIMP's.
use Rattle.std.proofs.Common.{◌≡◌, ℕ, ◌<◌, ◌⊎◌, List, [], ◌∷◌, ℤ, Some, None, Err, Option, refl, ap, ◌∙◌, subst, inl, inr}
use Rattle.rows.specs.declared.row.Operator.{Operator}
use Rattle.rows.specs.declared.row.Row.{Row}
use Rattle.rows.specs.declared.row.Row.TheVariants as row
use Rattle.rows.specs.Parts.{EachPart, HasSort}
use Rattle.rows.specs.Rows.{row_at, last_row, sort_of}
use Rattle.loading.specs.Questions.{Loaded}
use Rattle.loading.proofs.Laws.{well_formed}
use Rattle.loading.proofs.Passing.{each_part}
use Rattle.semantics.specs.declared.arithmetic.ArithmeticFault.{ArithmeticFault}
use Rattle.semantics.specs.declared.fault.Cause.TheVariants.{Arithmetic}
use Rattle.semantics.specs.declared.fault.Fault.{Fault}
use Rattle.semantics.specs.declared.item.Control.{Control}
use Rattle.semantics.specs.declared.item.Control.TheVariants.{Finish}
use Rattle.semantics.specs.declared.item.Item.{Item}
use Rattle.semantics.specs.declared.item.Item.TheVariants as item
use Rattle.semantics.specs.Arithmetic.{outcome, computed}
use Rattle.semantics.specs.Faults.{fault_at}
use Rattle.semantics.specs.Cells.{Cells}
use Rattle.semantics.specs.Machine.{Configuration, conf, Transition, Refused, contents_refused, arithmetic_refused, assignment_refused, NoRuleFits}
use Rattle.semantics.specs.Simp as simp
use Rattle.semantics.specs.Simp.{bang, literal, E, Instruction, prog, op, val, Memory, Simp, simp⟨⟩, SimpTransition}
use Rattle.semantics.specs.Reading.{in_memory, ReadsStack, no_control, ReadsAs}
use Rattle.semantics.specs.Coherence.{Coherent}
use Rattle.semantics.specs.Simulation.{BeyondSimp, past_the_range, past_the_store, IsSimp, RowMachineIsSimp}
use Rattle.semantics.proofs.Shape.{Stands, stands}
use Rattle.semantics.proofs.Step.{not_both}
use Rattle.semantics.proofs.SimpSteps.{none_at_end, none_undefined, none_without_outcome}
use Rattle.semantics.proofs.Trees.{tree, program_of, one_tree, whole_read, finish_read, number_read}
use Rattle.semantics.proofs.Simulate.{simulated, simulated_all}
use Rattle.semantics.proofs.Cohere.{before, kept, GoesOn, moves, is_refused, goes_on}

module _ (rows : ℕ → Option Row) where
  no_step_from_end : {c' : List Instruction} {r' : List simp.Result} {M : Memory} {T : Simp} → ReadsStack rows [] c' → ¬ SimpTransition (simp⟨⟩ c' r' M) T
  no_step_from_end no_control w = none_at_end w

  -- a rule fits, and no number stands against it
  made : {s : Configuration} → GoesOn rows s → ((f : Fault) → ¬ Refused rows s f) → (t : Configuration) × Transition rows s t
  made (moves {t} w) free = (t, w)
  made (is_refused {f} d) free = absurd (free f d)

  pub made_where_simp_goes : (s : Configuration) (S T : Simp) → Coherent rows s → ReadsAs rows s S → SimpTransition S T → ((f : Fault) → ¬ Refused rows s f) →
      (t : Configuration) × Transition rows s t
  made_where_simp_goes (conf [] r m) (simp⟨⟩ c' r' M) T k d w free = absurd (no_step_from_end d.0 w)
  made_where_simp_goes (conf (i ∷ c) r m) S T k d w free = made (goes_on rows i c r m k) free

  fits : {s : Configuration} → GoesOn rows s → ¬ NoRuleFits rows s
  fits (moves {t} w) none = none.no_transition t w
  fits (is_refused {f} d) none = none.no_number f d

  pub ends : (s : Configuration) → Coherent rows s → NoRuleFits rows s → (m : Cells) × (s ≡ conf [] [] m)
  ends (conf [] r m) k none = (m, ap (λ r. conf [] r m) k)
  ends (conf (i ∷ c) r m) k none = absurd (fits (goes_on rows i c r m k) none)

  range_or_none : {p x y : ℕ} {o : Operator} {a b : ℤ} {f : ArithmeticFault} {c : List Control} {r : List Item} {m : Cells} (c' : List Instruction) (r' : List simp.Result) (M : Memory) →
      rows p ≡ Some (row.Arithmetic o x y) → computed o a b ≡ Err f → ReadsAs rows (conf (Finish p ∷ c) (item.Number b ∷ item.Number a ∷ r) m) (simp⟨⟩ c' r' M) →
      (v : Option ℤ) → outcome o a b ≡ v →
      ((T : Simp) → ¬ SimpTransition (simp⟨⟩ c' r' M) T) ⊎ BeyondSimp rows (conf (Finish p ∷ c) (item.Number b ∷ item.Number a ∷ r) m) (fault_at p (Arithmetic f))
  range_or_none {x} {y} {o} {a} {b} c' r' M e q d None z =
      let u = finish_read rows (row.Arithmetic o x y) e d.0 in let v = number_read rows d.1 in let v' = number_read rows v.2 in
      let qc : c' ≡ op o ∷ u.1 = u.2 ∙ ap (λ I. I ∷ u.1) u.4 in
      let qr : r' ≡ val (E (literal b)) ∷ val (E (literal a)) ∷ v'.0 = v.1 ∙ ap (λ r. val (E (literal b)) ∷ r) v'.1 in
      inl (λ T w. none_without_outcome u.1 v'.0 M o a b T z
      (subst (λ r. SimpTransition (simp⟨⟩ (op o ∷ u.1) r M) T) qr (subst (λ c. SimpTransition (simp⟨⟩ c r' M) T) qc w)))
  range_or_none c' r' M e q d (Some n) z = inr (past_the_range e z q)

  refusal : {s : Configuration} {f : Fault} → Refused rows s f → (c' : List Instruction) (r' : List simp.Result) (M : Memory) → ReadsAs rows s (simp⟨⟩ c' r' M) →
      ((T : Simp) → ¬ SimpTransition (simp⟨⟩ c' r' M) T) ⊎ BeyondSimp rows s f
  refusal (contents_refused {l} e q) c' r' M d =
      let z = whole_read rows (row.Contents l) e d.0 in
      let qc : c' ≡ prog (E (bang l)) ∷ z.1 = z.2 ∙ ap (λ P. prog P ∷ z.1) z.4 in
      inl (λ T w. none_undefined z.1 r' M l T (ap (λ M. M l) d.2 ∙ ap in_memory q) (subst (λ c. SimpTransition (simp⟨⟩ c r' M) T) qc w))
  refusal (arithmetic_refused {o} {a} {b} e q) c' r' M d = range_or_none c' r' M e q d (outcome o a b) refl
  refusal (assignment_refused e q) c' r' M d = inr (past_the_store e q)

  pub refusals : (s : Configuration) (S : Simp) (f : Fault) → ReadsAs rows s S → Refused rows s f → ((T : Simp) → ¬ SimpTransition S T) ⊎ BeyondSimp rows s f
  refusals s (simp⟨⟩ c' r' M) f d w = refusal w c' r' M d

module _ (table : List ℕ) (loaded : Loaded table) where
  parts : (p : ℕ) (w : Row) → row_at table p ≡ Some w → EachPart (λ s x. Stands (row_at table) x s) w
  parts p w e =
      each_part (λ s x. (x < p) × HasSort table s x) (λ s x. Stands (row_at table) x s)
      (λ s x h. subst (Stands (row_at table) x) h.1.2 (stands table loaded x h.1.0 h.1.1)) w ((well_formed table loaded).parts p w e)

  is_simp : IsSimp table
  is_simp = record {
    tree = λ p h. let w = (well_formed table loaded).there p h in
        program_of (row_at table) (sort_of w.0) p (tree (row_at table) (stands table loaded p w.0 w.1));
    one_tree = λ p P Q d d'. one_tree (row_at table) d d';
    simulated = simulated (row_at table) parts;
    simulated_all = λ s t S n g d. simulated_all (row_at table) parts g S d;
    starts = λ m. let w = (well_formed table loaded).program in
        before (row_at table) (subst (Stands (row_at table) (last_row table)) w.2 (stands table loaded (last_row table) w.0 w.1)) [] [] refl;
    kept = λ s t k w. kept (row_at table) parts w k;
    exactly = λ s S k d. (
      λ z. let y = simulated (row_at table) parts s z.0 S z.1 d in ((y.0, y.2), λ f r. not_both (row_at table) z.1 r),
      λ z. made_where_simp_goes (row_at table) s S z.0.0 k d z.0.1 z.1,
    );
    refusals = refusals (row_at table);
    ends = ends (row_at table);
  }

pub row_machine_is_simp : RowMachineIsSimp
row_machine_is_simp = is_simp
