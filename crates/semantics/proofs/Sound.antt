-- A derivation is followed by the machine, transition for transition, and its stacks stay within the needs.
-- All is said of what comes after: whatever goes on from the row's end goes on from its beginning.
use Rattle.std.proofs.Common.{◌≡◌, ℕ, suc, ◌+◌, ◌≤◌, List, ◌∷◌, length, Some, Option, subst, arith as linear}
use Rattle.rows.specs.declared.row.Row.{Row}
use Rattle.loading.specs.Stacks.{control_need, results_need}
use Rattle.semantics.specs.declared.item.Control.{Control}
use Rattle.semantics.specs.declared.item.Control.TheVariants.{Whole, Finish}
use Rattle.semantics.specs.declared.item.Item.{Item}
use Rattle.semantics.specs.declared.item.Item.TheVariants as item
use Rattle.semantics.specs.Cells.{Cells}
use Rattle.semantics.specs.Rules.{Evaluates, of_number, of_contents, of_arithmetic, of_truth, of_comparison, of_not, of_and}
use Rattle.semantics.specs.Rules.{Executes, by_skip, by_assignment, by_sequence, by_true, by_false, by_leaving, by_turning}
use Rattle.semantics.specs.Machine.{Configuration, conf}
use Rattle.semantics.specs.Machine.{number, contents, truth, arithmetic, finish_arithmetic, comparison, finish_comparison, negation, finish_negation, conjunction, finish_conjunction}
use Rattle.semantics.specs.Machine.{skip, assignment, finish_assignment, sequence, choice, finish_true, finish_false, loop, finish_turning, finish_leaving}
use Rattle.semantics.specs.Traces.{Goes, move}
use Rattle.semantics.proofs.Shape.{Meets}

module _ (rows : ℕ → Option Row) where
  pub counted : {f k h n n' : ℕ} {s t : Configuration} → n ≡ n' → Goes rows f k h s n t → Goes rows f k h s n' t
  counted {f} {k} {h} {n} {n'} {s} {t} e g = subst (λ i. Goes rows f k h s i t) e g

  module _ (K R : ℕ → ℕ) (meets : Meets rows K R) where
    pub kn : {p : ℕ} {w : Row} → rows p ≡ Some w → K p ≡ control_need K w
    kn e = meets.controls e

    pub rn : {p : ℕ} {w : Row} → rows p ≡ Some w → R p ≡ results_need R w
    rn e = meets.results e

    -- a row that has a value needs a place for it
    pub value_needs : {m : Cells} {p : ℕ} {v : Item} {n : ℕ} → Evaluates rows m p v n → 1 ≤ R p
    value_needs (of_number e) = let rp = rn e in omega linear
    value_needs (of_contents e q) = let rp = rn e in omega linear
    value_needs (of_arithmetic e dx dy q) = let rp = rn e in omega linear
    value_needs (of_truth e) = let rp = rn e in omega linear
    value_needs (of_comparison e dx dy) = let rp = rn e in omega linear
    value_needs (of_not e dx) = let rp = rn e in let rx = value_needs dx in omega linear
    value_needs (of_and e dx dy) = let rp = rn e in omega linear

    pub says : {m : Cells} {p : ℕ} {v : Item} {n : ℕ} → Evaluates rows m p v n →
        (f k h : ℕ) (c : List Control) (r : List Item) → f ≤ suc (length c) → K p + length c ≤ k → R p + length r ≤ h →
        {n' : ℕ} {t : Configuration} → Goes rows f k h (conf c (v ∷ r) m) n' t → Goes rows f k h (conf (Whole p ∷ c) r m) (n + n') t
    says (of_number e) f k h c r fc kc hr g =
        let kp = kn e in let rp = rn e in
        counted (omega linear) (move (omega linear) (omega linear) (number e) g)
    says (of_contents e q) f k h c r fc kc hr g =
        let kp = kn e in let rp = rn e in
        counted (omega linear) (move (omega linear) (omega linear) (contents e q) g)
    says (of_arithmetic {p} {y} {a} e dx dy q) f k h c r fc kc hr g =
        let kp = kn e in let rp = rn e in let ry = value_needs dy in
        counted (omega linear) (move (omega linear) (omega linear) (arithmetic e)
        (says dx f k h (Whole y ∷ Finish p ∷ c) r (omega linear) (omega linear) (omega linear)
        (says dy f k h (Finish p ∷ c) (item.Number a ∷ r) (omega linear) (omega linear) (omega linear)
        (move (omega linear) (omega linear) (finish_arithmetic e q) g))))
    says (of_truth e) f k h c r fc kc hr g =
        let kp = kn e in let rp = rn e in
        counted (omega linear) (move (omega linear) (omega linear) (truth e) g)
    says (of_comparison {p} {y} {a} e dx dy) f k h c r fc kc hr g =
        let kp = kn e in let rp = rn e in let ry = value_needs dy in
        counted (omega linear) (move (omega linear) (omega linear) (comparison e)
        (says dx f k h (Whole y ∷ Finish p ∷ c) r (omega linear) (omega linear) (omega linear)
        (says dy f k h (Finish p ∷ c) (item.Number a ∷ r) (omega linear) (omega linear) (omega linear)
        (move (omega linear) (omega linear) (finish_comparison e) g))))
    says (of_not {p} e dx) f k h c r fc kc hr g =
        let kp = kn e in let rp = rn e in let rx = value_needs dx in
        counted (omega linear) (move (omega linear) (omega linear) (negation e)
        (says dx f k h (Finish p ∷ c) r (omega linear) (omega linear) (omega linear)
        (move (omega linear) (omega linear) (finish_negation e) g)))
    says (of_and {p} {y} {s} e dx dy) f k h c r fc kc hr g =
        let kp = kn e in let rp = rn e in let ry = value_needs dy in
        counted (omega linear) (move (omega linear) (omega linear) (conjunction e)
        (says dx f k h (Whole y ∷ Finish p ∷ c) r (omega linear) (omega linear) (omega linear)
        (says dy f k h (Finish p ∷ c) (item.Truth s ∷ r) (omega linear) (omega linear) (omega linear)
        (move (omega linear) (omega linear) (finish_conjunction e) g))))

    pub does : {m : Cells} {p : ℕ} {m' : Cells} {n : ℕ} → Executes rows m p m' n →
        (f k h : ℕ) (c : List Control) (r : List Item) → f ≤ suc (length c) → K p + length c ≤ k → R p + length r ≤ h →
        {n' : ℕ} {t : Configuration} → Goes rows f k h (conf c r m') n' t → Goes rows f k h (conf (Whole p ∷ c) r m) (n + n') t
    does (by_skip e) f k h c r fc kc hr g =
        let kp = kn e in let rp = rn e in
        counted (omega linear) (move (omega linear) (omega linear) (skip e) g)
    does (by_assignment {p} {l} e dx q) f k h c r fc kc hr g =
        let kp = kn e in let rp = rn e in let rx = value_needs dx in
        counted (omega linear) (move (omega linear) (omega linear) (assignment e)
        (says dx f k h (Finish p ∷ c) (item.Location l ∷ r) (omega linear) (omega linear) (omega linear)
        (move (omega linear) (omega linear) (finish_assignment e q) g)))
    does (by_sequence {y} e dx dy) f k h c r fc kc hr g =
        let kp = kn e in let rp = rn e in
        counted (omega linear) (move (omega linear) (omega linear) (sequence e)
        (does dx f k h (Whole y ∷ c) r (omega linear) (omega linear) (omega linear)
        (does dy f k h c r fc (omega linear) (omega linear) g)))
    does (by_true {p} {x} {y} e db dx) f k h c r fc kc hr g =
        let kp = kn e in let rp = rn e in let rb = value_needs db in
        counted (omega linear) (move (omega linear) (omega linear) (choice e)
        (says db f k h (Finish p ∷ c) (item.Row x ∷ item.Row y ∷ r) (omega linear) (omega linear) (omega linear)
        (move (omega linear) (omega linear) (finish_true e)
        (does dx f k h c r fc (omega linear) (omega linear) g))))
    does (by_false {p} {x} {y} e db dy) f k h c r fc kc hr g =
        let kp = kn e in let rp = rn e in let rb = value_needs db in
        counted (omega linear) (move (omega linear) (omega linear) (choice e)
        (says db f k h (Finish p ∷ c) (item.Row x ∷ item.Row y ∷ r) (omega linear) (omega linear) (omega linear)
        (move (omega linear) (omega linear) (finish_false e)
        (does dy f k h c r fc (omega linear) (omega linear) g))))
    does (by_leaving {p} {b} {x} e db) f k h c r fc kc hr g =
        let kp = kn e in let rp = rn e in let rb = value_needs db in
        counted (omega linear) (move (omega linear) (omega linear) (loop e)
        (says db f k h (Finish p ∷ c) (item.Row b ∷ item.Row x ∷ r) (omega linear) (omega linear) (omega linear)
        (move (omega linear) (omega linear) (finish_leaving e) g)))
    does (by_turning {p} {b} {x} e db dx dp) f k h c r fc kc hr g =
        let kp = kn e in let rp = rn e in let rb = value_needs db in
        counted (omega linear) (move (omega linear) (omega linear) (loop e)
        (says db f k h (Finish p ∷ c) (item.Row b ∷ item.Row x ∷ r) (omega linear) (omega linear) (omega linear)
        (move (omega linear) (omega linear) (finish_turning e)
        (does dx f k h (Whole p ∷ c) r (omega linear) (omega linear) (omega linear)
        (does dp f k h c r fc (omega linear) (omega linear) g)))))
