-- Two runs from one configuration: the longer goes on from the end of the shorter.
use Rattle.std.proofs.Common.{◌≡◌, ℕ, suc, ◌-◌, ◌≤◌, List, ◌∷◌, length, Option, sym, refl, ap, ◌∙◌, subst, arith as linear}
use native.Mathlib.Decide.{dec_le}
use Rattle.rows.specs.declared.row.Row.{Row}
use Rattle.semantics.specs.declared.fault.Fault.{Fault}
use Rattle.semantics.specs.declared.item.Control.{Control}
use Rattle.semantics.specs.declared.item.Item.{Item}
use Rattle.semantics.specs.Cells.{Cells}
use Rattle.semantics.specs.Rules.{Outcome, a_value, new_cells, a_fault}
use Rattle.semantics.specs.Machine.{Configuration, conf, results_of, Refused}
use Rattle.semantics.specs.Traces.{HoldsUp, Goes, stay, move, Takes, none, more}
use Rattle.semantics.specs.Agreement.{Shows}
use Rattle.semantics.proofs.Step.{one_transition, one_fault, not_both}
use Rattle.semantics.proofs.Sound.{counted}

module _ (rows : ℕ → Option Row) where
  pub after : {f k h f' k' h' n i : ℕ} {s t u : Configuration} → Goes rows f k h s n t → Goes rows f' k' h' s i u → i ≤ n → Goes rows f k h u (n - i) t
  after g (stay z) le = counted rows (omega linear) g
  after (stay z) (move u' z' w' g') le = absurd (omega linear)
  after {f} {k} {h} {t} (move {n} u z w g) (move {n = i} u' z' w' g') le =
      counted rows (let q : n - i ≡ suc n - suc i = omega linear in q)
      (after (subst (λ s. Goes rows f k h s n t) (one_transition rows w w') g) g' (omega linear))

  pub along : {f k h n i : ℕ} {s t u : Configuration} → Goes rows f k h s n t → Takes rows s i u → i ≤ n → Goes rows f k h u (n - i) t
  along g none le = counted rows (omega linear) g
  along (stay z) (more w' g') le = absurd (omega linear)
  along {f} {k} {h} {t} (move {n} u z w g) (more {n = i} w' g') le =
      counted rows (let q : n - i ≡ suc n - suc i = omega linear in q)
      (along (subst (λ s. Goes rows f k h s n t) (one_transition rows w w') g) g' (omega linear))

  taken_so : {n n' : ℕ} {s t : Configuration} → n ≡ n' → Takes rows s n t → Takes rows s n' t
  taken_so {s} {t} e g = subst (λ i. Takes rows s i t) e g

  pub beyond : {f k h n i : ℕ} {s t u : Configuration} → Goes rows f k h s n t → Takes rows s i u → n ≤ i → Takes rows t (i - n) u
  beyond (stay z) g le = taken_so (omega linear) g
  beyond (move u z w g) none le = absurd (omega linear)
  beyond {t} (move {n} u z w g) (more {t = v} {n = i} w' g') le =
      taken_so (let q : i - n ≡ suc i - suc n = omega linear in q)
      (beyond g (subst (λ s. Takes rows s i v) (one_transition rows w' w) g') (omega linear))

  -- control is below the floor, or the next transition is refused: so no run with that floor goes on
  pub data Halts (b : ℕ) (t : Configuration) : Type 0 where
    lower : ¬ HoldsUp b t → Halts b t
    refusing : {f : Fault} → Refused rows t f → Halts b t

  pub halted : {b k h n : ℕ} {t u : Configuration} → Halts b t → Goes rows b k h t n u → (n ≡ 0) × (t ≡ u)
  halted z (stay y) = (refl, refl)
  halted (lower z) (move u y w g) = absurd (z u)
  halted (refusing d) (move u y w g) = absurd (not_both rows w d)

  pub one_halt : {b k h k' h' n i : ℕ} {s t u : Configuration} → Goes rows b k h s n t → Halts b t → Goes rows b k' h' s i u → Halts b u → (t ≡ u) × (n ≡ i)
  one_halt {n} {i} g z g' z' = elim (dec_le i n) [
    | yes le ↦ let y = halted z' (after g g' le) in (sym y.1, omega linear)
    | no not-le ↦ let y = halted z (after g' g (omega linear)) in (y.1, omega linear)
  ]

  -- a configuration shows one outcome
  module _ (c : List Control) (r : List Item) (m : Cells) where
    not_up : (t : Configuration) (r' : List Item) (m' : Cells) → t ≡ conf c r' m' → ¬ HoldsUp (suc (length c)) t
    not_up t r' m' q u = let z : HoldsUp (suc (length c)) (conf c r' m') = subst (HoldsUp (suc (length c))) q u in omega linear

    pub shows_halt : (o : Outcome) (t : Configuration) → Shows rows c r m o t → Halts (suc (length c)) t
    shows_halt (a_value v) t q = lower (not_up t (v ∷ r) m q)
    shows_halt (new_cells m') t q = lower (not_up t r m' q)
    shows_halt (a_fault f m') t q = refusing q.0

    too_long : (t : Configuration) (v : Item) (m' : Cells) → t ≡ conf c (v ∷ r) m → t ≡ conf c r m' → ⊥
    too_long t v m' q q' = let z : suc (length r) ≡ length r = ap (λ t. length (results_of t)) (sym q ∙ q') in omega linear

    pub one_outcome : (o o' : Outcome) (t : Configuration) → Shows rows c r m o t → Shows rows c r m o' t → o ≡ o'
    one_outcome (a_value v) (a_value v') t q q' = let z : v ≡ v' = cc in ap a_value z
    one_outcome (a_value v) (new_cells m') t q q' = absurd (too_long t v m' q q')
    one_outcome (a_value v) (a_fault f m') t q q' = absurd (not_up t (v ∷ r) m q q'.2)
    one_outcome (new_cells m') (a_value v) t q q' = absurd (too_long t v m' q' q)
    one_outcome (new_cells m') (new_cells m'') t q q' = let z : m' ≡ m'' = cc in ap new_cells z
    one_outcome (new_cells m') (a_fault f m'') t q q' = absurd (not_up t r m' q q'.2)
    one_outcome (a_fault f m') (a_value v) t q q' = absurd (not_up t (v ∷ r) m q' q.2)
    one_outcome (a_fault f m') (new_cells m'') t q q' = absurd (not_up t r m'' q' q.2)
    one_outcome (a_fault f m') (a_fault g m'') t q q' =
        let z : f ≡ g = one_fault rows q.0 q'.0 in let y : m' ≡ m'' = sym q.1 ∙ q'.1 in cc
