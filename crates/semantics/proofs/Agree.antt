-- The natural rules and the row machine agree.
use Rattle.std.proofs.Common.{◌≡◌, ℕ, suc, ◌+◌, ◌≤◌, ◌⊎◌, List, [], ◌∷◌, length, Option, sym, refl, ◌∙◌, subst, subst₂, inl, inr, arith as linear}
use native.Mathlib.Decide.{dec_le}
use Rattle.rows.specs.declared.row.Sort.{Sort}
use Rattle.rows.specs.declared.row.Sort.TheVariants.{Integer, Boolean, Command}
use Rattle.rows.specs.declared.row.Row.{Row}
use Rattle.rows.specs.Rows.{row_at, last_row, sort_of}
use Rattle.loading.proofs.Laws.{well_formed}
use Rattle.semantics.specs.declared.fault.Fault.{Fault}
use Rattle.semantics.specs.declared.item.Control.{Control}
use Rattle.semantics.specs.declared.item.Control.TheVariants.{Whole}
use Rattle.semantics.specs.declared.item.Item.{Item}
use Rattle.semantics.specs.declared.item.Item.TheVariants as item
use Rattle.semantics.specs.Cells.{Cells}
use Rattle.semantics.specs.Rules.{Outcome, a_value, new_cells, a_fault, Derives, ShowsWithin}
use Rattle.semantics.specs.Machine.{Configuration, conf, Transition, Refused}
use Rattle.semantics.specs.Traces.{Fits, HoldsUp, Goes, stay, move, Takes, none, more, Reaches, reaches}
use Rattle.semantics.specs.Unfinished.{Unfinished}
use Rattle.semantics.specs.Agreement.{Shows, WorksOut, control_need_at, results_need_at, DerivedWithin}
use Rattle.semantics.specs.Agreement.{RulesAreDeterministic, RulesAndMachineAgree, EveryCountSettles, ProgramsRunWell}
use Rattle.semantics.proofs.Shape.{Meets, Stands, stands, meets}
use Rattle.semantics.proofs.Sound.{counted, value_needs, says, does}
use Rattle.semantics.proofs.Fail.{fails}
use Rattle.semantics.proofs.Step.{not_both}
use Rattle.semantics.proofs.Ways.{ends, faults, pends, Ended, ways}
use Rattle.semantics.proofs.Compare.{after, along, beyond, halted, one_halt, shows_halt, one_outcome}

module _ (rows : ℕ → Option Row) (K R : ℕ → ℕ) (met : Meets rows K R) where
  -- what is derived, the machine comes to
  pub follows : {m : Cells} {p n : ℕ} (o : Outcome) → Derives rows m p o n → (c : List Control) (r : List Item) → WorksOut rows (K p) (R p) c r m p o n
  follows {m} {p} {n} (a_value v) d c r =
      let nv = value_needs rows K R met d in
      reaches (counted rows (omega linear) (says rows K R met d (suc (length c)) (K p + length c) (R p + length r) c r (omega linear) (omega linear) (omega linear) (stay (omega linear)))) refl
  follows {m} {p} {n} (new_cells m') d c r =
      reaches (counted rows (omega linear) (does rows K R met d (suc (length c)) (K p + length c) (R p + length r) c r (omega linear) (omega linear) (omega linear) (stay (omega linear)))) refl
  follows {m} {p} {n} (a_fault f m') d c r =
      fails rows K R met d (suc (length c)) (K p + length c) (R p + length r) c r (omega linear) (omega linear) (omega linear)

  -- two outcomes over the same stacks are one
  meet : {p n i : ℕ} (o o' : Outcome) (c : List Control) (r : List Item) (m : Cells) → WorksOut rows (K p) (R p) c r m p o n → WorksOut rows (K p) (R p) c r m p o' i → (o ≡ o') × (n ≡ i)
  meet o o' c r m (reaches {t} g z) (reaches {t = u} g' z') =
      let y = one_halt rows g (shows_halt rows c r m o t z) g' (shows_halt rows c r m o' u z') in
      (one_outcome rows c r m o o' u (subst (Shows rows c r m o) y.0 z) z', y.1)

  pub determined : (m : Cells) (p n i : ℕ) (o o' : Outcome) → Derives rows m p o n → Derives rows m p o' i → (o ≡ o') × (n ≡ i)
  determined m p n i o o' d d' = meet o o' [] [] m (follows o d [] []) (follows o' d' [] [])

  -- what is still unfinished after N has no outcome within N
  module _ {m : Cells} {p N : ℕ} (w : Unfinished rows K R m p N) where
    beyond_N : {n : ℕ} (o : Outcome) (c : List Control) (r : List Item) → WorksOut rows (K p) (R p) c r m p o n →
        Reaches rows (suc (length c)) (K p + length c) (R p + length r) (HoldsUp (suc (length c))) (conf (Whole p ∷ c) r m) N → ¬ ShowsWithin o n N
    beyond_N {n} (a_value v) c r (reaches {t} g z) (reaches {t = u} g' up) le =
        let y = halted rows (shows_halt rows c r m (a_value v) t z) (after rows g' g le) in
        let x : HoldsUp (suc (length c)) (conf c (v ∷ r) m) = subst (HoldsUp (suc (length c))) (sym y.1 ∙ z) up in omega linear
    beyond_N {n} (new_cells m') c r (reaches {t} g z) (reaches {t = u} g' up) le =
        let y = halted rows (shows_halt rows c r m (new_cells m') t z) (after rows g' g le) in
        let x : HoldsUp (suc (length c)) (conf c r m') = subst (HoldsUp (suc (length c))) (sym y.1 ∙ z) up in omega linear
    beyond_N {n} (a_fault f m') c r (reaches {t} g z) (reaches {t = u} g' up) lt =
        let y = halted rows (shows_halt rows c r m (a_fault f m') t z) (after rows g' g (omega linear)) in omega linear

    pub no_outcome : (n : ℕ) (o : Outcome) → Derives rows m p o n → ¬ ShowsWithin o n N
    no_outcome n o d le = beyond_N o [] [] (follows o d [] []) (w [] []) le

  -- no transition is left
  pub no_more : {j : ℕ} {s t : Configuration} {r : List Item} {m' : Cells} → s ≡ conf [] r m' → Takes rows s j t → (j ≡ 0) × (t ≡ conf [] r m')
  no_more q none = (refl, q)
  no_more {r} {m'} q (more {s'} w g) = let z : Transition rows (conf [] r m') s' = subst (λ s. Transition rows s s') q w in elim z [ ]

  pub none_refused : {j : ℕ} {s t : Configuration} {f : Fault} → Refused rows s f → Takes rows s j t → j ≡ 0
  none_refused d none = refl
  none_refused d (more w g) = absurd (not_both rows w d)

  -- nor has a row an outcome within N where N transitions from it alone leave control with something to do
  outlasts_by : {n N : ℕ} {t : Configuration} (m : Cells) (p : ℕ) (o : Outcome) → WorksOut rows (K p) (R p) [] [] m p o n →
      Takes rows (conf (Whole p ∷ []) [] m) N t → HoldsUp 1 t → ¬ ShowsWithin o n N
  outlasts_by m p (a_value v) (reaches d z) g up le =
      let y = no_more z (beyond rows d g le) in let x : HoldsUp 1 (conf [] (v ∷ []) m) = subst (HoldsUp 1) y.1 up in omega linear
  outlasts_by m p (new_cells m') (reaches d z) g up le =
      let y = no_more z (beyond rows d g le) in let x : HoldsUp 1 (conf [] [] m') = subst (HoldsUp 1) y.1 up in omega linear
  outlasts_by m p (a_fault f m') (reaches d z) g up lt =
      let y = none_refused z.0 (beyond rows d g (omega linear)) in omega linear

  pub outlasts : {t : Configuration} (m : Cells) (p n N : ℕ) (o : Outcome) → Derives rows m p o n →
      Takes rows (conf (Whole p ∷ []) [] m) N t → HoldsUp 1 t → ¬ ShowsWithin o n N
  outlasts m p n N o d g up = outlasts_by m p o (follows o d [] []) g up

  -- an end of its sort is an outcome
  ended : (s : Sort) {m : Cells} {p i N : ℕ} → Ended rows s m p i → i ≤ N → DerivedWithin rows m p N
  ended Integer {i} d le = (a_value (item.Number d.0), i, d.1, le)
  ended Boolean {i} d le = (a_value (item.Truth d.0), i, d.1, le)
  ended Command {i} d le = (new_cells d.0, i, d.1, le)

  pub either : (p : ℕ) (s : Sort) → Stands rows p s → (m : Cells) (N : ℕ) → DerivedWithin rows m p N ⊎ Unfinished rows K R m p N
  either p s gd m N = elim (ways rows K R met N p s gd m) [
    | ends i d le ↦ inl (ended s d le)
    | faults {f} {m'} {i} d lt ↦ inl (a_fault f m', i, d, lt)
    | pends w ↦ inr (λ c r. w (suc (length c)) (K p + length c) (R p + length r) c r (omega linear) (omega linear) (omega linear))
  ]

  -- what the machine comes to is derived
  module _ (p : ℕ) (s : Sort) (gd : Stands rows p s) (c : List Control) (r : List Item) (m : Cells) where
    back_from : (o : Outcome) (n : ℕ) → WorksOut rows (K p) (R p) c r m p o n → DerivedWithin rows m p (suc n) ⊎ Unfinished rows K R m p (suc n) → Derives rows m p o n
    back_from o n g (inl d) =
        let y = meet o d.0 c r m g (follows d.0 d.2 c r) in
        subst₂ (Derives rows m p) (sym y.0) (sym y.1) d.2
    back_from o n (reaches {t} g z) (inr w) = from (w c r)
      where
        from : Reaches rows (suc (length c)) (K p + length c) (R p + length r) (HoldsUp (suc (length c))) (conf (Whole p ∷ c) r m) (suc n) → Derives rows m p o n
        from (reaches g' up) = let y = halted rows (shows_halt rows c r m o t z) (after rows g' g (omega linear)) in absurd (omega linear)

    pub back : (o : Outcome) (n : ℕ) → WorksOut rows (K p) (R p) c r m p o n → Derives rows m p o n
    back o n g = back_from o n g (either p s gd m (suc n))

  -- a program's run
  module _ (p : ℕ) (gd : Stands rows p Command) (m : Cells) where
    abbrev start : Configuration
    start = conf (Whole p ∷ []) [] m

    abbrev GoesWell : Configuration → Type 0
    GoesWell t = (((m : Cells) × (t ≡ conf [] [] m)) ⊎ (((u : Configuration) × Transition rows t u) ⊎ ((f : Fault) × Refused rows t f))) × Fits (K p) (R p) t

    at_fit : (k h : ℕ) (t : Configuration) → k ≡ K p → h ≡ R p → Fits k h t → Fits (K p) (R p) t
    at_fit k h t ek eh z = subst₂ (λ k h. Fits k h t) ek eh z

    -- the run goes on to u, of which it is known how it stands
    before_end : {b k h j : ℕ} {t u : Configuration} {m' : Cells} → k ≡ K p → h ≡ R p → u ≡ conf [] [] m' → Goes rows b k h t j u → GoesWell t
    before_end {k} {h} {t} {m'} ek eh q (stay z) = (inl (m', q), at_fit k h t ek eh z)
    before_end {k} {h} {t} ek eh q (move {s'} up z w g) = (inr (inl (s', w)), at_fit k h t ek eh z)

    before_fault : {b k h j : ℕ} {t u : Configuration} {f : Fault} → k ≡ K p → h ≡ R p → Refused rows u f → Goes rows b k h t j u → GoesWell t
    before_fault {k} {h} {t} {f} ek eh d (stay z) = (inr (inr (f, d)), at_fit k h t ek eh z)
    before_fault {k} {h} {t} ek eh d (move {s'} up z w g) = (inr (inl (s', w)), at_fit k h t ek eh z)

    in_between : {b k h j : ℕ} {t u : Configuration} → k ≡ K p → h ≡ R p → 1 ≤ j → Goes rows b k h t j u → GoesWell t
    in_between ek eh le (stay z) = absurd (omega linear)
    in_between {k} {h} {t} ek eh le (move {s'} up z w g) = (inr (inl (s', w)), at_fit k h t ek eh z)

    well_by_end : {m' : Cells} {n i : ℕ} {t : Configuration} → Takes rows start n t → WorksOut rows (K p) (R p) [] [] m p (new_cells m') i → GoesWell t
    well_by_end {n} {i} g (reaches d z) = elim (dec_le n i) [
      | yes le ↦ before_end (omega linear) (omega linear) z (along rows d g le)
      | no not-le ↦ let y = (no_more z (beyond rows d g (omega linear))).0 in absurd (omega linear)
    ]

    well_by_fault : {m' : Cells} {f : Fault} {n i : ℕ} {t : Configuration} → Takes rows start n t → WorksOut rows (K p) (R p) [] [] m p (a_fault f m') i → GoesWell t
    well_by_fault {n} {i} g (reaches d z) = elim (dec_le n i) [
      | yes le ↦ before_fault (omega linear) (omega linear) z.0 (along rows d g le)
      | no not-le ↦ let y = none_refused z.0 (beyond rows d g (omega linear)) in absurd (omega linear)
    ]

    well_within : {n : ℕ} {t : Configuration} → Takes rows start n t → Reaches rows 1 (K p + 0) (R p + 0) (HoldsUp 1) start (suc n) → GoesWell t
    well_within {n} g (reaches d up) = in_between (omega linear) (omega linear) (omega linear) (along rows d g (omega linear))

    pub runs_well : {n : ℕ} {t : Configuration} → Takes rows start n t → GoesWell t
    runs_well {n} {t} g = elim (ways rows K R met (suc n) p Command gd m) [
      | ends i d le ↦ well_by_end g (follows (new_cells d.0) d.1 [] [])
      | faults {f} {m'} d lt ↦ well_by_fault g (follows (a_fault f m') d [] [])
      | pends w ↦ well_within g (w 1 (K p + 0) (R p + 0) [] [] (omega linear) (omega linear) (omega linear))
    ]

-- the same of a loaded table
pub rules_are_deterministic : RulesAreDeterministic
rules_are_deterministic table loaded m p n n' o o' d d' = determined (row_at table) (control_need_at table) (results_need_at table) (meets table loaded) m p n n' o o' d d'

pub rules_and_machine_agree : RulesAndMachineAgree
rules_and_machine_agree table loaded p h c r m o n =
    let w = (well_formed table loaded).there p h in (
      λ d. follows (row_at table) (control_need_at table) (results_need_at table) (meets table loaded) o d c r,
      λ g. back (row_at table) (control_need_at table) (results_need_at table) (meets table loaded) p (sort_of w.0) (stands table loaded p w.0 w.1) c r m o n g,
    )

pub every_count_settles : EveryCountSettles
every_count_settles table loaded p h m N =
    let w = (well_formed table loaded).there p h in
    record {
      either = either (row_at table) (control_need_at table) (results_need_at table) (meets table loaded) p (sort_of w.0) (stands table loaded p w.0 w.1) m N;
      not_both = λ d u. no_outcome (row_at table) (control_need_at table) (results_need_at table) (meets table loaded) u d.1 d.0 d.2 d.3;
    }

pub programs_run_well : ProgramsRunWell
programs_run_well table loaded m n t g =
    let w = (well_formed table loaded).program in
    let y = runs_well (row_at table) (control_need_at table) (results_need_at table) (meets table loaded) (last_row table)
    (subst (Stands (row_at table) (last_row table)) w.2 (stands table loaded (last_row table) w.0 w.1)) m g in
    record { never_stuck = y.0; fits = y.1 }
