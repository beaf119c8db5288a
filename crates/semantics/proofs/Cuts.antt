-- Where a run is cut does not matter.
use Rattle.std.proofs.Common.{◌≡◌, ℕ, zero, suc, ◌+◌, ◌-◌, ◌<◌, ◌≤◌, cond, leb, List, [], ◌∷◌, Option, refl, ap, subst, inl, inr, arith as linear}
use native.Mathlib.Decide.{dec_le}
use Rattle.std.proofs.lemmas.Bool.Decides.{leb_tells}
use Rattle.rows.specs.declared.row.Row.{Row}
use Rattle.semantics.specs.Machine.{Configuration, Transition}
use Rattle.semantics.specs.Traces.{Takes, none, more}
use Rattle.semantics.specs.Cuts.{largest_slice, total, Halted, Serves, used_up, halts, serves_on, Slices, no_slice, served, turned_down, CutAnywhere, CutsDoNotMatter}
use Rattle.semantics.proofs.Step.{one_transition, machine_is_deterministic}

module _ (rows : ℕ → Option Row) where
  sized : {n n' : ℕ} {s t : Configuration} → n ≡ n' → Serves rows s n t → Serves rows s n' t
  sized {s} {t} e d = subst (λ i. Serves rows s i t) e d

  -- from where there is no transition, a slice leads nowhere
  halted_stays : {n : ℕ} {s t : Configuration} → Halted rows s → Serves rows s n t → s ≡ t
  halted_stays z used_up = refl
  halted_stays z (halts y) = refl
  halted_stays z (serves_on {s'} w d) = absurd (z s' w)

  joined : {a b : ℕ} {s t u : Configuration} → Serves rows s a t → Serves rows t b u → Serves rows s (a + b) u
  joined used_up d = sized (omega linear) d
  joined {a} {b} {s} (halts z) d = subst (λ u. Serves rows s (a + b) u) (halted_stays z d) (halts z)
  joined (serves_on w d) d' = sized (omega linear) (serves_on w (joined d d'))

  one_way : {a b : ℕ} {s t u : Configuration} → Serves rows s a t → Serves rows s b u → a ≡ b → t ≡ u
  one_way used_up used_up e = refl
  one_way used_up (halts y) e = refl
  one_way used_up (serves_on w d) e = absurd (omega linear)
  one_way (halts z) d e = halted_stays z d
  one_way (serves_on w d) used_up e = absurd (omega linear)
  one_way (serves_on {s'} w d) (halts y) e = absurd (y s' w)
  one_way {u} (serves_on w d) (serves_on {n} w' d') e =
      one_way d (subst (λ s. Serves rows s n u) (one_transition rows w' w) d') (omega linear)

  together : {l : List ℕ} {s t : Configuration} → Slices rows s l t → Serves rows s (total l) t
  together no_slice = used_up
  together (served {a} {l} le d ds) = sized (ap (λ n. n + total l) (as_asked a le)) (joined d (together ds))
    where
      as_asked : (a : ℕ) → a ≤ largest_slice → a ≡ cond (leb a largest_slice) a 0
      as_asked a le = elim (leb_tells a largest_slice) [ inl p ↦ rw p.0 | inr p ↦ absurd (omega linear) ]
  together (turned_down {a} {l} lt ds) = sized (as_none a lt) (together ds)
    where
      as_none : (a : ℕ) → largest_slice < a → total l ≡ cond (leb a largest_slice) a 0 + total l
      as_none a lt = elim (leb_tells a largest_slice) [ inl p ↦ absurd (omega linear) | inr p ↦ rw p.0 (omega linear) ]

  -- a run that has halted may be given more
  longer : {a b : ℕ} {s t : Configuration} → Serves rows s a t → Halted rows t → a ≤ b → Serves rows s b t
  longer {a} {b} d z le = sized (let q : a + (b - a) ≡ b = omega linear in q) (joined d (halts z))

  made_all : {a : ℕ} {s t u : Configuration} → Serves rows s a t → Transition rows t u → Takes rows s a t
  made_all used_up w = none
  made_all {u} (halts z) w = absurd (z u w)
  made_all (serves_on w' d) w = more w' (made_all d w)

  -- where a number stands against it or no rule fits, there is no transition; so a slice of any length can be served
  one_slice : (n : ℕ) (s : Configuration) → (t : Configuration) × Serves rows s n t
  one_slice zero s = (s, used_up)
  one_slice (suc n) s = elim ((machine_is_deterministic rows).one_of_three s) [
    | inl d ↦ let r = one_slice n d.0 in (r.0, serves_on d.1 r.1)
    | inr e ↦ elim e [
      | inl f ↦ (s, halts (λ t w. (machine_is_deterministic rows).not_both s t f.0 w f.1))
      | inr z ↦ (s, halts z.no_transition)
    ]
  ]

  all_slices : (l : List ℕ) (s : Configuration) → (t : Configuration) × Slices rows s l t
  all_slices [] s = (s, no_slice)
  all_slices (a ∷ l) s = elim (dec_le a largest_slice) [
    | yes le ↦ let d = one_slice a s in let r = all_slices l d.0 in (r.0, served le d.1 r.1)
    | no not-le ↦ let r = all_slices l s in (r.0, turned_down (omega linear) r.1)
  ]

  cut_anywhere : (s : Configuration) → CutAnywhere rows s
  cut_anywhere s = record {
    leads = λ l. all_slices l s;
    by_sums = λ l l' t u d d' e. one_way (together d) (together d') e;
    by_ends = λ l l' t u d d' z z'. elim (dec_le (total l) (total l')) [
      | yes le ↦ one_way (longer (together d) z le) (together d') refl
      | no not-le ↦ one_way (together d) (longer (together d') z' (omega linear)) refl
    ];
    counts = λ l t u d w. made_all (together d) w;
  }

pub cuts_do_not_matter : CutsDoNotMatter
cuts_do_not_matter = cut_anywhere
