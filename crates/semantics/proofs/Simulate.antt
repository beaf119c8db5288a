-- A transition of the row machine, read, is a transition of SIMP.
use Rattle.std.proofs.Common.{◌≡◌, ℕ, not, ◌&&◌, List, ◌∷◌, ℤ, Some, None, Ok, Option, sym, refl, ap, ◌∙◌, subst, subst₂, rules}
use Rattle.rows.specs.declared.row.Operator.{Operator}
use Rattle.rows.specs.declared.row.Row.{Row}
use Rattle.rows.specs.declared.row.Row.TheVariants as row
use Rattle.rows.specs.Parts.{EachPart}
use Rattle.semantics.specs.Arithmetic.{outcome, fitting, computed, compared}
use Rattle.semantics.specs.Machine as machine
use Rattle.semantics.specs.Machine.{Configuration, Transition}
use Rattle.semantics.specs.Traces.{Takes, none, more}
use Rattle.semantics.specs.Simp as simp
use Rattle.semantics.specs.Simp.{literal, Condition, constant, comparison, negation, conjunction}
use Rattle.semantics.specs.Simp.{skip, sequence, while_do, Program, C, E, B}
use Rattle.semantics.specs.Simp.{Instruction, prog, op, not_sign, and_sign, bop, assign_sign, if_sign, while_sign, val, loc, Memory, update, Simp, simp⟨⟩}
use Rattle.semantics.specs.Simp.{SimpTransition, simp_n, simp_b, simp_negation, simp_conjunction, simp_not, simp_and, simp_operation, simp_comparison, simp_op, simp_bop, simp_bang}
use Rattle.semantics.specs.Simp.{simp_skip, simp_set, simp_assign, simp_sequence, simp_if, simp_if_true, simp_if_false, simp_while, simp_while_true, simp_while_false}
use Rattle.semantics.specs.Simp.{SimpTakes, simp_none, simp_more}
use Rattle.semantics.specs.Reading.{in_memory, Reads, as_while}
use Rattle.semantics.specs.Reading.{whole, finish_op, finish_bop, finish_not, finish_and, finish_assign, finish_if, finish_while}
use Rattle.semantics.specs.Reading.{number, truth, location, a_row, then_control, then_item, ReadsAs}
use Rattle.semantics.proofs.Shape.{Stands}
use Rattle.semantics.proofs.Memory.{updated}
use Rattle.semantics.proofs.Trees.{tree, one_tree, whole_read, finish_read, number_read, truth_read, location_read, row_read}

-- what fits 32 bits is the exact outcome
exact_of : (v : Option ℤ) (z : ℤ) → fitting v ≡ Ok z → v ≡ Some z
exact_of None z q = cc
exact_of (Some y) z q = search rules

pub exact : (o : Operator) (a b z : ℤ) → computed o a b ≡ Ok z → outcome o a b ≡ Some z
exact o a b z q = exact_of (outcome o a b) z q

module _ (rows : ℕ → Option Row) where
  -- SIMP goes from S to what t reads as
  data Simulated (S : Simp) (t : Configuration) : Type 0 where
    via : (T : Simp) → ReadsAs rows t T → SimpTransition S T → Simulated S t

  -- the stacks are known to be those
  known : {c c₁ : List Instruction} {r r₁ : List simp.Result} {M : Memory} {t : Configuration} → c ≡ c₁ → r ≡ r₁ → Simulated (simp⟨⟩ c₁ r₁ M) t → Simulated (simp⟨⟩ c r M) t
  known {M} {t} p q z = subst₂ (λ c r. Simulated (simp⟨⟩ c r M) t) (sym p) (sym q) z

  top : {c c₁ : List Instruction} {P Q : Program} → c ≡ prog P ∷ c₁ → P ≡ Q → c ≡ prog Q ∷ c₁
  top {c₁} p q = p ∙ ap (λ P. prog P ∷ c₁) q

  sign : {c c₁ : List Instruction} {I J : Instruction} → c ≡ I ∷ c₁ → I ≡ J → c ≡ J ∷ c₁
  sign {c₁} p q = p ∙ ap (λ I. I ∷ c₁) q

  two : {r r₁ r₂ : List simp.Result} {v u : simp.Result} → r ≡ v ∷ r₁ → r₁ ≡ u ∷ r₂ → r ≡ v ∷ u ∷ r₂
  two {v} p q = p ∙ ap (λ r. v ∷ r) q

  three : {r r₁ r₂ r₃ : List simp.Result} {v u w : simp.Result} → r ≡ v ∷ r₁ → r₁ ≡ u ∷ r₂ → r₂ ≡ w ∷ r₃ → r ≡ v ∷ u ∷ w ∷ r₃
  three {v} {u} p q s = p ∙ ap (λ r. v ∷ r) q ∙ ap (λ r. v ∷ u ∷ r) s

  module _ (parts : (p : ℕ) (w : Row) → rows p ≡ Some w → EachPart (λ s x. Stands rows x s) w) where
    -- the rows that a choice or a loop has laid on the results, read
    choice_read : {b x y p : ℕ} {P Q : Program} → rows p ≡ Some (row.Choice b x y) → Reads rows x P → Reads rows y Q →
        (X : simp.Command) × (Y : simp.Command) × (P ≡ C X) × (Q ≡ C Y)
    choice_read {b} {x} {y} {p} e dx dy =
        let g = parts p (row.Choice b x y) e in let X = tree rows g.1 in let Y = tree rows g.2 in
        (X.0, Y.0, one_tree rows dx X.1, one_tree rows dy Y.1)

    loop_read : {b x p : ℕ} {P Q : Program} → rows p ≡ Some (row.Loop b x) → Reads rows b P → Reads rows x Q →
        (X : Condition) × (Y : simp.Command) × (P ≡ B X) × (Q ≡ C Y) × Reads rows p (C (while_do X Y)) × Reads rows x (C Y)
    loop_read {b} {x} {p} e db dx =
        let g = parts p (row.Loop b x) e in let X = tree rows g.0 in let Y = tree rows g.1 in
        (X.0, Y.0, one_tree rows db X.1, one_tree rows dx Y.1, as_while e X.1 Y.1, Y.1)

    simulate : {s t : Configuration} → Transition rows s t → (c' : List Instruction) (r' : List simp.Result) (M : Memory) → ReadsAs rows s (simp⟨⟩ c' r' M) → Simulated (simp⟨⟩ c' r' M) t
    simulate (machine.number {a} e) c' r' M d =
        let z = whole_read rows (row.Number a) e d.0 in
        known (top z.2 z.4) refl (via (simp⟨⟩ z.1 (val (E (literal a)) ∷ r') M) (z.3, then_item number d.1, d.2) simp_n)
    simulate (machine.contents {l} {a} e q) c' r' M d =
        let z = whole_read rows (row.Contents l) e d.0 in
        known (top z.2 z.4) refl
        (via (simp⟨⟩ z.1 (val (E (literal a)) ∷ r') M) (z.3, then_item number d.1, d.2) (simp_bang (ap (λ M. M l) d.2 ∙ ap in_memory q)))
    simulate (machine.truth {t} e) c' r' M d =
        let z = whole_read rows (row.Truth t) e d.0 in
        known (top z.2 z.4) refl (via (simp⟨⟩ z.1 (val (B (constant t)) ∷ r') M) (z.3, then_item truth d.1, d.2) simp_b)
    simulate (machine.arithmetic {x} {y} {o} e) c' r' M d =
        let z = whole_read rows (row.Arithmetic o x y) e d.0 in let v = z.4 in
        known (top z.2 v.2) refl
        (via (simp⟨⟩ (prog (E v.0) ∷ prog (E v.1) ∷ op o ∷ z.1) r' M) (then_control (whole v.3) (then_control (whole v.4) (then_control (finish_op e) z.3)), d.1, d.2) simp_operation)
    simulate (machine.finish_arithmetic {x} {y} {o} {a} {b} {z = n} e q) c' r' M d =
        let z = finish_read rows (row.Arithmetic o x y) e d.0 in let u = number_read rows d.1 in let v = number_read rows u.2 in
        known (sign z.2 z.4) (two u.1 v.1)
        (via (simp⟨⟩ z.1 (val (E (literal n)) ∷ v.0) M) (z.3, then_item number v.2, d.2) (simp_op (exact o a b n q)))
    simulate (machine.comparison {x} {y} {o} e) c' r' M d =
        let z = whole_read rows (row.Comparison o x y) e d.0 in let v = z.4 in
        known (top z.2 v.2) refl
        (via (simp⟨⟩ (prog (E v.0) ∷ prog (E v.1) ∷ bop o ∷ z.1) r' M) (then_control (whole v.3) (then_control (whole v.4) (then_control (finish_bop e) z.3)), d.1, d.2) simp_comparison)
    simulate (machine.finish_comparison {x} {y} {o} {a} {b} e) c' r' M d =
        let z = finish_read rows (row.Comparison o x y) e d.0 in let u = number_read rows d.1 in let v = number_read rows u.2 in
        known (sign z.2 z.4) (two u.1 v.1)
        (via (simp⟨⟩ z.1 (val (B (constant (compared o a b))) ∷ v.0) M) (z.3, then_item truth v.2, d.2) simp_bop)
    simulate (machine.negation {x} e) c' r' M d =
        let z = whole_read rows (row.Not x) e d.0 in let v = z.4 in
        known (top z.2 v.1) refl
        (via (simp⟨⟩ (prog (B v.0) ∷ not_sign ∷ z.1) r' M) (then_control (whole v.2) (then_control (finish_not e) z.3), d.1, d.2) simp_negation)
    simulate (machine.finish_negation {x} {t} e) c' r' M d =
        let z = finish_read rows (row.Not x) e d.0 in let u = truth_read rows d.1 in
        known (sign z.2 z.4) u.1 (via (simp⟨⟩ z.1 (val (B (constant (not t))) ∷ u.0) M) (z.3, then_item truth u.2, d.2) simp_not)
    simulate (machine.conjunction {x} {y} e) c' r' M d =
        let z = whole_read rows (row.And x y) e d.0 in let v = z.4 in
        known (top z.2 v.2) refl
        (via (simp⟨⟩ (prog (B v.0) ∷ prog (B v.1) ∷ and_sign ∷ z.1) r' M) (then_control (whole v.3) (then_control (whole v.4) (then_control (finish_and e) z.3)), d.1, d.2) simp_conjunction)
    simulate (machine.finish_conjunction {x} {y} {s} {t} e) c' r' M d =
        let z = finish_read rows (row.And x y) e d.0 in let u = truth_read rows d.1 in let v = truth_read rows u.2 in
        known (sign z.2 z.4) (two u.1 v.1)
        (via (simp⟨⟩ z.1 (val (B (constant (s && t))) ∷ v.0) M) (z.3, then_item truth v.2, d.2) simp_and)
    simulate (machine.skip e) c' r' M d =
        let z = whole_read rows row.Skip e d.0 in
        known (top z.2 z.4) refl (via (simp⟨⟩ z.1 r' M) (z.3, d.1, d.2) simp_skip)
    simulate (machine.assignment {l} {x} e) c' r' M d =
        let z = whole_read rows (row.Assignment l x) e d.0 in let v = z.4 in
        known (top z.2 v.1) refl
        (via (simp⟨⟩ (prog (E v.0) ∷ assign_sign ∷ z.1) (loc l ∷ r') M) (then_control (whole v.2) (then_control (finish_assign e) z.3), then_item location d.1, d.2) simp_set)
    simulate (machine.finish_assignment {l} {x} {a} {m} e q) c' r' M d =
        let z = finish_read rows (row.Assignment l x) e d.0 in let u = number_read rows d.1 in let v = location_read rows u.2 in
        known (sign z.2 z.4) (two u.1 v.1)
        (via (simp⟨⟩ z.1 v.0 (update M l a)) (z.3, v.2, ap (λ M. update M l a) d.2 ∙ updated m l a q) simp_assign)
    simulate (machine.sequence {x} {y} e) c' r' M d =
        let z = whole_read rows (row.Sequence x y) e d.0 in let v = z.4 in
        known (top z.2 v.2) refl
        (via (simp⟨⟩ (prog (C v.0) ∷ prog (C v.1) ∷ z.1) r' M) (then_control (whole v.3) (then_control (whole v.4) z.3), d.1, d.2) simp_sequence)
    simulate (machine.choice {b} {x} {y} e) c' r' M d =
        let z = whole_read rows (row.Choice b x y) e d.0 in let v = z.4 in
        known (top z.2 v.3) refl
        (via (simp⟨⟩ (prog (B v.0) ∷ if_sign ∷ z.1) (val (C v.1) ∷ val (C v.2) ∷ r') M) (then_control (whole v.4) (then_control (finish_if e) z.3), then_item (a_row v.5) (then_item (a_row v.6) d.1), d.2) simp_if)
    simulate (machine.finish_true {b} {x} {y} e) c' r' M d =
        let z = finish_read rows (row.Choice b x y) e d.0 in
        let u = truth_read rows d.1 in let v = row_read rows u.2 in let w = row_read rows v.4 in
        let t = choice_read e v.3 w.3 in
        known (sign z.2 z.4) (three u.1 (v.2 ∙ ap (λ P. val P ∷ v.1) t.2) (w.2 ∙ ap (λ P. val P ∷ w.1) t.3))
        (via (simp⟨⟩ (prog (C t.0) ∷ z.1) w.1 M) (then_control (whole (subst (Reads rows x) t.2 v.3)) z.3, w.4, d.2) simp_if_true)
    simulate (machine.finish_false {b} {x} {y} e) c' r' M d =
        let z = finish_read rows (row.Choice b x y) e d.0 in
        let u = truth_read rows d.1 in let v = row_read rows u.2 in let w = row_read rows v.4 in
        let t = choice_read e v.3 w.3 in
        known (sign z.2 z.4) (three u.1 (v.2 ∙ ap (λ P. val P ∷ v.1) t.2) (w.2 ∙ ap (λ P. val P ∷ w.1) t.3))
        (via (simp⟨⟩ (prog (C t.1) ∷ z.1) w.1 M) (then_control (whole (subst (Reads rows y) t.3 w.3)) z.3, w.4, d.2) simp_if_false)
    simulate (machine.loop {b} {x} e) c' r' M d =
        let z = whole_read rows (row.Loop b x) e d.0 in let v = z.4 in
        known (top z.2 v.2) refl
        (via (simp⟨⟩ (prog (B v.0) ∷ while_sign ∷ z.1) (val (B v.0) ∷ val (C v.1) ∷ r') M) (then_control (whole v.3) (then_control (finish_while e) z.3), then_item (a_row v.3) (then_item (a_row v.4) d.1), d.2) simp_while)
    simulate (machine.finish_turning {b} {x} e) c' r' M d =
        let z = finish_read rows (row.Loop b x) e d.0 in
        let u = truth_read rows d.1 in let v = row_read rows u.2 in let w = row_read rows v.4 in
        let t = loop_read e v.3 w.3 in
        known (sign z.2 z.4) (three u.1 (v.2 ∙ ap (λ P. val P ∷ v.1) t.2) (w.2 ∙ ap (λ P. val P ∷ w.1) t.3))
        (via (simp⟨⟩ (prog (C t.1) ∷ prog (C (while_do t.0 t.1)) ∷ z.1) w.1 M) (then_control (whole t.5) (then_control (whole t.4) z.3), w.4, d.2) simp_while_true)
    simulate (machine.finish_leaving {b} {x} e) c' r' M d =
        let z = finish_read rows (row.Loop b x) e d.0 in
        let u = truth_read rows d.1 in let v = row_read rows u.2 in let w = row_read rows v.4 in
        let t = loop_read e v.3 w.3 in
        known (sign z.2 z.4) (three u.1 (v.2 ∙ ap (λ P. val P ∷ v.1) t.2) (w.2 ∙ ap (λ P. val P ∷ w.1) t.3))
        (via (simp⟨⟩ z.1 w.1 M) (z.3, w.4, d.2) simp_while_false)

    opened : {S : Simp} {t : Configuration} → Simulated S t → (T : Simp) × ReadsAs rows t T × SimpTransition S T
    opened (via T d w) = (T, d, w)

    pub simulated : (s t : Configuration) (S : Simp) → Transition rows s t → ReadsAs rows s S → (T : Simp) × ReadsAs rows t T × SimpTransition S T
    simulated s t (simp⟨⟩ c' r' M) w d = opened (simulate w c' r' M d)

    pub simulated_all : {s t : Configuration} {n : ℕ} → Takes rows s n t → (S : Simp) → ReadsAs rows s S → (T : Simp) × ReadsAs rows t T × SimpTakes S n T
    simulated_all none S d = (S, d, simp_none)
    simulated_all (more {s} {s'} w g) S d =
        let z = simulated s s' S w d in let y = simulated_all g z.0 z.1 in (y.0, y.1, simp_more z.2 y.2)
