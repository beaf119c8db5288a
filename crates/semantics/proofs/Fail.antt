-- A derived fault is followed by the machine up to the transition that is refused.
use Rattle.std.proofs.Common.{ℕ, suc, ◌+◌, ◌≤◌, List, ◌∷◌, length, Option, refl, arith as linear}
use Rattle.rows.specs.declared.row.Row.{Row}
use Rattle.semantics.specs.declared.fault.Fault.{Fault}
use Rattle.semantics.specs.declared.item.Control.{Control}
use Rattle.semantics.specs.declared.item.Control.TheVariants.{Whole, Finish}
use Rattle.semantics.specs.declared.item.Item.{Item}
use Rattle.semantics.specs.declared.item.Item.TheVariants as item
use Rattle.semantics.specs.Cells.{Cells}
use Rattle.semantics.specs.Rules.{Faults, at_contents, at_arithmetic, at_assignment, in_left_number, in_right_number, in_left_compared, in_right_compared, in_not, in_left_truth, in_right_truth}
use Rattle.semantics.specs.Rules.{in_assigned, in_first, in_second, in_choosing, in_true, in_false, in_condition, in_body, in_turning}
use Rattle.semantics.specs.Machine.{Configuration, conf}
use Rattle.semantics.specs.Machine.{arithmetic, comparison, negation, conjunction}
use Rattle.semantics.specs.Machine.{assignment, sequence, choice, finish_true, finish_false, loop, finish_turning}
use Rattle.semantics.specs.Machine.{contents_refused, arithmetic_refused, assignment_refused}
use Rattle.semantics.specs.Traces.{Goes, stay, move, Reaches, reaches, Refuses, RefusesWithin}
use Rattle.semantics.proofs.Shape.{Meets}
use Rattle.semantics.proofs.Sound.{counted, kn, rn, value_needs, says, does}

module _ (rows : ℕ → Option Row) where
  pub carry : {b k h n n' : ℕ} {P : Configuration → Type 0} {s s' : Configuration} → Reaches rows b k h P s n →
      ((t : Configuration) → Goes rows b k h s n t → Goes rows b k h s' n' t) → Reaches rows b k h P s' n'
  carry (reaches {t} g z) q = reaches (q t g) z

  module _ (K R : ℕ → ℕ) (meets : Meets rows K R) where
    pub fails_within : {m : Cells} {p : ℕ} {f : Fault} {m' : Cells} {n : ℕ} → Faults rows m p f m' n →
        (b k h : ℕ) (c : List Control) (r : List Item) → b ≤ suc (length c) → K p + length c ≤ k → R p + length r ≤ h →
        Reaches rows b k h (RefusesWithin rows b h f m') (conf (Whole p ∷ c) r m) n
    fails_within (at_contents e q) b k h c r bc kc hr =
        let kp = kn rows K R meets e in let rp = rn rows K R meets e in
        reaches (stay (omega linear)) (contents_refused e q, refl, omega linear, omega linear)
    fails_within (at_arithmetic {p} {y} {a} e dx dy q) b k h c r bc kc hr =
        let kp = kn rows K R meets e in let rp = rn rows K R meets e in let rv = value_needs rows K R meets dy in
        reaches (counted rows (omega linear) (move (omega linear) (omega linear) (arithmetic e)
        (says rows K R meets dx b k h (Whole y ∷ Finish p ∷ c) r (omega linear) (omega linear) (omega linear)
        (says rows K R meets dy b k h (Finish p ∷ c) (item.Number a ∷ r) (omega linear) (omega linear) (omega linear)
        (stay (omega linear)))))) (arithmetic_refused e q, refl, omega linear, tt)
    fails_within (at_assignment {p} {l} e dx q) b k h c r bc kc hr =
        let kp = kn rows K R meets e in let rp = rn rows K R meets e in let rv = value_needs rows K R meets dx in
        reaches (counted rows (omega linear) (move (omega linear) (omega linear) (assignment e)
        (says rows K R meets dx b k h (Finish p ∷ c) (item.Location l ∷ r) (omega linear) (omega linear) (omega linear)
        (stay (omega linear))))) (assignment_refused e q, refl, omega linear, tt)
    fails_within (in_left_number {p} {y} e d) b k h c r bc kc hr =
        let kp = kn rows K R meets e in let rp = rn rows K R meets e in
        carry (fails_within d b k h (Whole y ∷ Finish p ∷ c) r (omega linear) (omega linear) (omega linear))
        (λ t g. counted rows (omega linear) (move (omega linear) (omega linear) (arithmetic e) g))
    fails_within (in_right_number {p} {y} {a} e dx d) b k h c r bc kc hr =
        let kp = kn rows K R meets e in let rp = rn rows K R meets e in
        carry (fails_within d b k h (Finish p ∷ c) (item.Number a ∷ r) (omega linear) (omega linear) (omega linear))
        (λ t g. counted rows (omega linear) (move (omega linear) (omega linear) (arithmetic e) (says rows K R meets dx b k h (Whole y ∷ Finish p ∷ c) r (omega linear) (omega linear) (omega linear)
        g)))
    fails_within (in_left_compared {p} {y} e d) b k h c r bc kc hr =
        let kp = kn rows K R meets e in let rp = rn rows K R meets e in
        carry (fails_within d b k h (Whole y ∷ Finish p ∷ c) r (omega linear) (omega linear) (omega linear))
        (λ t g. counted rows (omega linear) (move (omega linear) (omega linear) (comparison e) g))
    fails_within (in_right_compared {p} {y} {a} e dx d) b k h c r bc kc hr =
        let kp = kn rows K R meets e in let rp = rn rows K R meets e in
        carry (fails_within d b k h (Finish p ∷ c) (item.Number a ∷ r) (omega linear) (omega linear) (omega linear))
        (λ t g. counted rows (omega linear) (move (omega linear) (omega linear) (comparison e) (says rows K R meets dx b k h (Whole y ∷ Finish p ∷ c) r (omega linear) (omega linear) (omega linear)
        g)))
    fails_within (in_left_truth {p} {y} e d) b k h c r bc kc hr =
        let kp = kn rows K R meets e in let rp = rn rows K R meets e in
        carry (fails_within d b k h (Whole y ∷ Finish p ∷ c) r (omega linear) (omega linear) (omega linear))
        (λ t g. counted rows (omega linear) (move (omega linear) (omega linear) (conjunction e) g))
    fails_within (in_right_truth {p} {y} {s} e dx d) b k h c r bc kc hr =
        let kp = kn rows K R meets e in let rp = rn rows K R meets e in
        carry (fails_within d b k h (Finish p ∷ c) (item.Truth s ∷ r) (omega linear) (omega linear) (omega linear))
        (λ t g. counted rows (omega linear) (move (omega linear) (omega linear) (conjunction e) (says rows K R meets dx b k h (Whole y ∷ Finish p ∷ c) r (omega linear) (omega linear) (omega linear)
        g)))
    fails_within (in_not {p} e d) b k h c r bc kc hr =
        let kp = kn rows K R meets e in let rp = rn rows K R meets e in
        carry (fails_within d b k h (Finish p ∷ c) r (omega linear) (omega linear) (omega linear))
        (λ t g. counted rows (omega linear) (move (omega linear) (omega linear) (negation e) g))
    fails_within (in_assigned {p} {l} e d) b k h c r bc kc hr =
        let kp = kn rows K R meets e in let rp = rn rows K R meets e in
        carry (fails_within d b k h (Finish p ∷ c) (item.Location l ∷ r) (omega linear) (omega linear) (omega linear))
        (λ t g. counted rows (omega linear) (move (omega linear) (omega linear) (assignment e) g))
    fails_within (in_first {y} e d) b k h c r bc kc hr =
        let kp = kn rows K R meets e in let rp = rn rows K R meets e in
        carry (fails_within d b k h (Whole y ∷ c) r (omega linear) (omega linear) (omega linear))
        (λ t g. counted rows (omega linear) (move (omega linear) (omega linear) (sequence e) g))
    fails_within (in_second {y} e dx d) b k h c r bc kc hr =
        let kp = kn rows K R meets e in let rp = rn rows K R meets e in
        carry (fails_within d b k h (c) r (omega linear) (omega linear) (omega linear))
        (λ t g. counted rows (omega linear) (move (omega linear) (omega linear) (sequence e) (does rows K R meets dx b k h (Whole y ∷ c) r (omega linear) (omega linear) (omega linear)
        g)))
    fails_within (in_choosing {p} {x} {y} e d) b k h c r bc kc hr =
        let kp = kn rows K R meets e in let rp = rn rows K R meets e in
        carry (fails_within d b k h (Finish p ∷ c) (item.Row x ∷ item.Row y ∷ r) (omega linear) (omega linear) (omega linear))
        (λ t g. counted rows (omega linear) (move (omega linear) (omega linear) (choice e) g))
    fails_within (in_true {p} {x} {y} e db d) b k h c r bc kc hr =
        let kp = kn rows K R meets e in let rp = rn rows K R meets e in let rv = value_needs rows K R meets db in
        carry (fails_within d b k h (c) r (omega linear) (omega linear) (omega linear))
        (λ t g. counted rows (omega linear) (move (omega linear) (omega linear) (choice e) (says rows K R meets db b k h (Finish p ∷ c) (item.Row x ∷ item.Row y ∷ r) (omega linear) (omega linear) (omega linear)
        (move (omega linear) (omega linear) (finish_true e) g))))
    fails_within (in_false {p} {x} {y} e db d) b k h c r bc kc hr =
        let kp = kn rows K R meets e in let rp = rn rows K R meets e in let rv = value_needs rows K R meets db in
        carry (fails_within d b k h (c) r (omega linear) (omega linear) (omega linear))
        (λ t g. counted rows (omega linear) (move (omega linear) (omega linear) (choice e) (says rows K R meets db b k h (Finish p ∷ c) (item.Row x ∷ item.Row y ∷ r) (omega linear) (omega linear) (omega linear)
        (move (omega linear) (omega linear) (finish_false e) g))))
    fails_within (in_condition {p} {b = b'} {x} e d) b k h c r bc kc hr =
        let kp = kn rows K R meets e in let rp = rn rows K R meets e in
        carry (fails_within d b k h (Finish p ∷ c) (item.Row b' ∷ item.Row x ∷ r) (omega linear) (omega linear) (omega linear))
        (λ t g. counted rows (omega linear) (move (omega linear) (omega linear) (loop e) g))
    fails_within (in_body {p} {b = b'} {x} e db d) b k h c r bc kc hr =
        let kp = kn rows K R meets e in let rp = rn rows K R meets e in let rv = value_needs rows K R meets db in
        carry (fails_within d b k h (Whole p ∷ c) r (omega linear) (omega linear) (omega linear))
        (λ t g. counted rows (omega linear) (move (omega linear) (omega linear) (loop e) (says rows K R meets db b k h (Finish p ∷ c) (item.Row b' ∷ item.Row x ∷ r) (omega linear) (omega linear) (omega linear)
        (move (omega linear) (omega linear) (finish_turning e) g))))
    fails_within (in_turning {p} {b = b'} {x} e db dx d) b k h c r bc kc hr =
        let kp = kn rows K R meets e in let rp = rn rows K R meets e in let rv = value_needs rows K R meets db in
        carry (fails_within d b k h (c) r (omega linear) (omega linear) (omega linear))
        (λ t g. counted rows (omega linear) (move (omega linear) (omega linear) (loop e) (says rows K R meets db b k h (Finish p ∷ c) (item.Row b' ∷ item.Row x ∷ r) (omega linear) (omega linear) (omega linear)
        (move (omega linear) (omega linear) (finish_turning e)
        (does rows K R meets dx b k h (Whole p ∷ c) r (omega linear) (omega linear) (omega linear)
        g)))))

    -- the same, wherever the results stand
    pub fails : {m : Cells} {p : ℕ} {f : Fault} {m' : Cells} {n : ℕ} → Faults rows m p f m' n →
        (b k h : ℕ) (c : List Control) (r : List Item) → b ≤ suc (length c) → K p + length c ≤ k → R p + length r ≤ h →
        Reaches rows b k h (Refuses rows b f m') (conf (Whole p ∷ c) r m) n
    fails d b k h c r bc kc hr = elim (fails_within d b k h c r bc kc hr) [ reaches g z ↦ reaches g (z.0, z.1, z.2) ]
