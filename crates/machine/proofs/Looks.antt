-- The looks of a slice, in the shape in which the loop has them.
use Rattle.std.proofs.Common.{◌≡◌, ℕ, zero, suc, ◌+◌, ◌-◌, ◌<◌, Bool, true, false, cond, leb, List, [], ◌∷◌, length, Some, None, Ok, Err, Option, Result, sym, refl, ◌∙◌, subst, subst₂, inl, inr, arith as linear}
use Rattle.std.proofs.lemmas.Bool.Decides.{leb_tells, eqb_tells}
use Rattle.rows.specs.declared.row.Row.{Row}
use Rattle.semantics.specs.declared.item.Control.{Control}
use Rattle.semantics.specs.declared.item.Item.{Item}
use Rattle.semantics.specs.Cells.{Cells}
use Rattle.semantics.specs.Machine.{Configuration, conf}
use Rattle.transition.specs.Exchanges.{Room}
use Rattle.runs.specs.declared.end.Stop.{Stop}
use Rattle.runs.specs.declared.end.End.{End}
use Rattle.runs.specs.declared.end.End.TheVariants.{Finished, Stopped, Limit}
use Rattle.runs.specs.Tries.{Tried, made, no_rule, no_room, no_room_to_read, refused}
use Rattle.runs.specs.Slices.{Board, running, ended, Empty, Serves, finishes, runs_out, pauses, stops, steps}
use Rattle.machine.specs.Goings.{none_left, seen}

-- the test for the finish
one : {A : Type 0} {x y : A} → Some x ≡ Some y → x ≡ y
one e = cc

none_of : {A : Type 0} (xs : List A) → length xs ≡ 0 → xs ≡ []
none_of [] e = refl
none_of (x ∷ xs) e = absurd (omega (linear, e))

apart : true ≡ false → ⊥
apart e = let z : ◌≡◌ {A = ℕ} 0 1 = cc in omega linear

pub emptied : (c : List Control) (r : List Item) (m : Cells) → none_left c r ≡ true → Empty (conf c r m)
emptied c r m e = elim (eqb_tells (length c) 0) [
  | inr q ↦ absurd (apart (sym e ∙ rw q.0))
  | inl q ↦ elim (eqb_tells (length r) 0) [
    | inr z ↦ absurd (apart (sym e ∙ rw (q.0, z.0)))
    | inl z ↦ (none_of c q.1, none_of r z.1)
  ]
]

pub not_emptied : (c : List Control) (r : List Item) (m : Cells) → none_left c r ≡ false → ¬ Empty (conf c r m)
not_emptied c r m e z = apart (sym (rw (z.0, z.1)) ∙ e)

some≢ : (e : End) → ◌≡◌ {A = Option End} None (Some e) → ⊥
some≢ e q = let z : ◌≡◌ {A = ℕ} 0 1 = cc in omega linear

module _ (c : List Control) (r : List Item) (m : Cells) (limit n : ℕ) where
  below : None ≡ cond (leb limit n) (Some Limit) None → n < limit
  below e = elim (leb_tells limit n) [
    | inl q ↦ absurd (some≢ Limit (e ∙ rw q.0))
    | inr q ↦ omega (linear, q.1)
  ]

  -- nothing is seen: the run has not finished, and is below its limit
  pub goes_on : None ≡ seen (none_left c r) n limit → (¬ Empty (conf c r m)) × (n < limit)
  goes_on = by (none_left c r) refl
    where
      by : (b : Bool) → none_left c r ≡ b → None ≡ seen b n limit → (¬ Empty (conf c r m)) × (n < limit)
      by true q e = absurd (some≢ Finished e)
      by false q e = (not_emptied c r m q, below e)

  module _ (rows : ℕ → Option Row) (k h a : ℕ) where
    -- what is seen is how the run ends
    pub ends : {e : End} → Some e ≡ seen (none_left c r) n limit → Serves rows k h limit a n (conf c r m) (ended e n (conf c r m))
    ends {e} = by (none_left c r) refl
      where
        at_limit : Some e ≡ cond (leb limit n) (Some Limit) None → ¬ Empty (conf c r m) → Serves rows k h limit a n (conf c r m) (ended e n (conf c r m))
        at_limit d more = elim (leb_tells limit n) [
          | inl q ↦ let z : e ≡ Limit = one (d ∙ rw q.0) in subst (λ e. Serves rows k h limit a n (conf c r m) (ended e n (conf c r m))) (sym z) (runs_out more q.1)
          | inr q ↦ absurd (some≢ e (sym (d ∙ rw q.0)))
        ]

        by : (b : Bool) → none_left c r ≡ b → Some e ≡ seen b n limit → Serves rows k h limit a n (conf c r m) (ended e n (conf c r m))
        by true q d = subst (λ e. Serves rows k h limit a n (conf c r m) (ended e n (conf c r m))) (sym (one d)) (finishes (emptied c r m q))
        by false q d = at_limit d (not_emptied c r m q)

module _ (rows : ℕ → Option Row) where
  -- a transition that is not made leaves everything where it is
  unmoved : {k h : ℕ} {s t : Configuration} {e : Stop} (a : Result (Unit {0}) Stop) → a ≡ Err e → Tried rows k h s a t → t ≡ s
  unmoved a q (made d f) = absurd (let z : ◌≡◌ {A = ℕ} 0 1 = cc in omega linear)
  unmoved a q (no_rule d) = refl
  unmoved a q (no_room d f) = refl
  unmoved a q (no_room_to_read d f) = refl
  unmoved a q (refused d f) = refl

  module _ (k k' : Room) (same : k' ≡ k) (limit left made : ℕ) (s : Configuration) (more : ¬ Empty s) (below : made < limit) where
    pub pausing : left ≡ 0 → Serves rows k.control k.results limit left made s (running made s)
    pausing e = subst (λ a. Serves rows k.control k.results limit a made s (running made s)) (sym e) (pauses more below)

    here : {a : Result (Unit {0}) Stop} {t : Configuration} → Tried rows k'.control k'.results s a t → Tried rows k.control k.results s a t
    here {a} {t} d = subst (λ (k : Room). Tried rows k.control k.results s a t) same d

    -- one slice less, one count more
    one_on : (a : ℕ) {b : Board} {t : Configuration} → 0 < a → Tried rows k.control k.results s (Ok tt) t →
        Serves rows k.control k.results limit (a - 1) (made + 1) t b → Serves rows k.control k.results limit a made s b
    one_on zero lt d g = absurd (omega (linear, lt))
    one_on (suc a) {b} {t} lt d g =
        let e : suc a - 1 ≡ a = omega linear in
        let q : made + 1 ≡ suc made = omega linear in
        steps more below d (subst₂ (λ i j. Serves rows k.control k.results limit i j t b) e q g)

    stop_at : (a : ℕ) {e : Stop} → 0 < a → Tried rows k.control k.results s (Err e) s →
        Serves rows k.control k.results limit a made s (ended (Stopped e) made s)
    stop_at zero lt d = absurd (omega (linear, lt))
    stop_at (suc a) lt d = stops more below d

    pub stopping : {t : Configuration} {e : Stop} → 0 < left → Tried rows k'.control k'.results s (Err e) t →
        Serves rows k.control k.results limit left made s (ended (Stopped e) made t)
    stopping {t} {e} lt d =
        let q : t ≡ s = unmoved (Err e) refl d in
        subst (λ t. Serves rows k.control k.results limit left made s (ended (Stopped e) made t)) (sym q)
        (stop_at left lt (subst (Tried rows k.control k.results s (Err e)) q (here d)))

    pub stepping : {t : Configuration} {v : Unit {0}} {b : Board} → 0 < left → Tried rows k'.control k'.results s (Ok v) t →
        Serves rows k.control k.results limit (left - 1) (made + 1) t b → Serves rows k.control k.results limit left made s b
    stepping lt d g = one_on left lt (here d) g
