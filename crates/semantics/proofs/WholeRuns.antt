-- A program's whole run, by plain transitions.
use Rattle.std.proofs.Common.{◌≡◌, ℕ, suc, ◌+◌, ◌≤◌, ◌⊎◌, List, [], ◌∷◌, length, Option, sym, refl, ap, ◌∙◌, subst, subst₂, inl, inr, arith as linear}
use native.Mathlib.Decide.{dec_le}
use Rattle.rows.specs.declared.row.Sort.TheVariants.{Command}
use Rattle.rows.specs.declared.row.Row.{Row}
use Rattle.rows.specs.Rows.{row_at, last_row}
use Rattle.loading.specs.Questions.{Loaded}
use Rattle.loading.proofs.Laws.{well_formed}
use Rattle.semantics.specs.declared.fault.Fault.{Fault}
use Rattle.semantics.specs.declared.item.Control.TheVariants.{Whole}
use Rattle.semantics.specs.declared.item.Item.{Item}
use Rattle.semantics.specs.Cells.{Cells}
use Rattle.semantics.specs.Rules.{Outcome, a_value, new_cells, a_fault, Derives, ShowsWithin, Executes, Faults}
use Rattle.semantics.specs.Machine.{Configuration, conf, results_of, cells_of, Refused}
use Rattle.semantics.specs.Traces.{HoldsUp, Goes, stay, move, Takes, none, more, Reaches, reaches}
use Rattle.semantics.specs.Unfinished.{Unfinished}
use Rattle.semantics.specs.Agreement.{WorksOut, control_need_at, results_need_at, DerivedWithin}
use Rattle.semantics.specs.WholeRuns.{WholeRuns, WholeRunsAgree}
use Rattle.semantics.proofs.Shape.{Meets, Stands, stands, meets}
use Rattle.semantics.proofs.Step.{one_fault, not_both}
use Rattle.semantics.proofs.Compare.{along, beyond}
use Rattle.semantics.proofs.Agree.{follows, either, no_more, none_refused}

module _ (rows : ℕ → Option Row) where
  pub plain : {b k h n : ℕ} {s t : Configuration} → Goes rows b k h s n t → Takes rows s n t
  plain (stay z) = none
  plain (move up z w g) = more w (plain g)

  -- no transitions lead nowhere, and one leads somewhere
  nowhere : {b k h j : ℕ} {t u : Configuration} → Goes rows b k h t j u → j ≡ 0 → t ≡ u
  nowhere (stay z) q = refl
  nowhere (move up z w g) q = absurd (omega linear)

  somewhere : {b k h j : ℕ} {t u : Configuration} {f : Fault} → Goes rows b k h t j u → 1 ≤ j → ¬ Refused rows t f
  somewhere (stay z) le d = omega linear
  somewhere (move up z w g) le d = not_both rows w d

  stood : {j : ℕ} {t u : Configuration} → Takes rows t j u → j ≡ 0 → t ≡ u
  stood none q = refl
  stood (more w g) q = absurd (omega linear)

  not_at_end : {r : List Item} {m : Cells} {f : Fault} → ¬ Refused rows (conf [] r m) f
  not_at_end d = elim d [ ]

  module _ (K R : ℕ → ℕ) (met : Meets rows K R) (p : ℕ) (gd : Stands rows p Command) (m : Cells) where
    abbrev start : Configuration
    start = conf (Whole p ∷ []) [] m

    finished_takes : {m' : Cells} {n : ℕ} → WorksOut rows (K p) (R p) [] [] m p (new_cells m') n → Takes rows start n (conf [] [] m')
    finished_takes {n} (reaches g z) = subst (λ t. Takes rows start n t) z (plain g)

    pub finishing_takes : (m' : Cells) (n : ℕ) → Executes rows m p m' n → Takes rows start n (conf [] [] m')
    finishing_takes m' n d = finished_takes (follows rows K R met (new_cells m') d [] [])

    faulted_takes : {f : Fault} {m' : Cells} {n : ℕ} → WorksOut rows (K p) (R p) [] [] m p (a_fault f m') n →
        (t : Configuration) × Takes rows start n t × Refused rows t f × (cells_of t ≡ m')
    faulted_takes (reaches {t} g z) = (t, plain g, z.0, z.1)

    pub faulting_takes : (f : Fault) (m' : Cells) (n : ℕ) → Faults rows m p f m' n → (t : Configuration) × Takes rows start n t × Refused rows t f × (cells_of t ≡ m')
    faulting_takes f m' n d = faulted_takes (follows rows K R met (a_fault f m') d [] [])

    -- from a run that empties the stacks to the derivation
    finished_by : {m' : Cells} {n i : ℕ} (o : Outcome) → Takes rows start n (conf [] [] m') → Derives rows m p o i → i ≤ n → WorksOut rows (K p) (R p) [] [] m p o i → Executes rows m p m' n
    finished_by {m'} (a_value v) g d le (reaches w z) =
        let y = no_more rows K R met z (beyond rows w g le) in
        let x : ◌≡◌ {A = ℕ} 0 1 = ap (λ t. length (results_of t)) y.1 in absurd (omega linear)
    finished_by {m'} {n} {i} (new_cells m'') g d le (reaches w z) =
        let y = no_more rows K R met z (beyond rows w g le) in
        let q : m'' ≡ m' = sym (ap cells_of y.1) in let q' : i ≡ n = omega linear in
        subst₂ (λ m' n. Executes rows m p m' n) q q' d
    finished_by {m'} (a_fault f m'') g d le (reaches w z) =
        let y = none_refused rows K R met z.0 (beyond rows w g le) in
        let x = stood (beyond rows w g le) y in
        absurd (not_at_end (subst (λ t. Refused rows t f) x z.0))

    finished_from : {m' : Cells} {n : ℕ} → Takes rows start n (conf [] [] m') → DerivedWithin rows m p n ⊎ Unfinished rows K R m p n → Executes rows m p m' n
    finished_from {m'} {n} g (inl d) = finished_by d.0 g d.2 (within d.0 d.1 d.3) (follows rows K R met d.0 d.2 [] [])
      where
        within : (o : Outcome) (i : ℕ) → ShowsWithin o i n → i ≤ n
        within (a_value v) i h = h
        within (new_cells m'') i h = h
        within (a_fault f m'') i h = omega linear
    finished_from {m'} {n} g (inr w) = from (w [] [])
      where
        from : Reaches rows 1 (K p + 0) (R p + 0) (HoldsUp 1) start n → Executes rows m p m' n
        from (reaches d up) =
            let q = nowhere (along rows d g (omega linear)) (omega linear) in
            let z : HoldsUp 1 (conf [] [] m') = subst (HoldsUp 1) (sym q) up in absurd (omega linear)

    pub finishing_derived : (m' : Cells) (n : ℕ) → Takes rows start n (conf [] [] m') → Executes rows m p m' n
    finishing_derived m' n g = finished_from g (either rows K R met p Command gd m n)

    -- from a run that is refused to the derivation
    faulted_by : {f : Fault} {t : Configuration} {n i : ℕ} (o : Outcome) → Takes rows start n t → Refused rows t f → Derives rows m p o i → i ≤ suc n →
        WorksOut rows (K p) (R p) [] [] m p o i → Faults rows m p f (cells_of t) n
    faulted_by {f} {n} {i} (a_value v) g r d le (reaches w z) = elim (dec_le i n) [
      | yes le' ↦ let y = no_more rows K R met z (beyond rows w g le') in absurd (not_at_end (subst (λ t. Refused rows t f) y.1 r))
      | no not-le ↦ absurd (somewhere (along rows w g (omega linear)) (omega linear) r)
    ]
    faulted_by {f} {n} {i} (new_cells m'') g r d le (reaches w z) = elim (dec_le i n) [
      | yes le' ↦ let y = no_more rows K R met z (beyond rows w g le') in absurd (not_at_end (subst (λ t. Refused rows t f) y.1 r))
      | no not-le ↦ absurd (somewhere (along rows w g (omega linear)) (omega linear) r)
    ]
    faulted_by {f} {t} {n} {i} (a_fault f' m'') g r d le (reaches {t = u} w z) = elim (dec_le i n) [
      | yes le' ↦
          let y = none_refused rows K R met z.0 (beyond rows w g le') in
          let x : u ≡ t = stood (beyond rows w g le') y in
          let q : f' ≡ f = one_fault rows (subst (λ t. Refused rows t f') x z.0) r in
          let q' : m'' ≡ cells_of t = sym z.1 ∙ ap cells_of x in let q'' : i ≡ n = omega linear in
          subst (λ f. Faults rows m p f (cells_of t) n) q (subst₂ (λ m'' n. Faults rows m p f' m'' n) q' q'' d)
      | no not-le ↦ absurd (somewhere (along rows w g (omega linear)) (omega linear) r)
    ]

    faulted_from : {f : Fault} {t : Configuration} {n : ℕ} → Takes rows start n t → Refused rows t f → DerivedWithin rows m p (suc n) ⊎ Unfinished rows K R m p (suc n) →
        Faults rows m p f (cells_of t) n
    faulted_from {n} g r (inl d) = faulted_by d.0 g r d.2 (within d.0 d.1 d.3) (follows rows K R met d.0 d.2 [] [])
      where
        within : (o : Outcome) (i : ℕ) → ShowsWithin o i (suc n) → i ≤ suc n
        within (a_value v) i h = h
        within (new_cells m'') i h = h
        within (a_fault f m'') i h = omega linear
    faulted_from {f} {t} {n} g r (inr w) = from (w [] [])
      where
        from : Reaches rows 1 (K p + 0) (R p + 0) (HoldsUp 1) start (suc n) → Faults rows m p f (cells_of t) n
        from (reaches d up) = absurd (somewhere (along rows d g (omega linear)) (omega linear) r)

    pub faulting_derived : (f : Fault) (t : Configuration) (n : ℕ) → Takes rows start n t → Refused rows t f → Faults rows m p f (cells_of t) n
    faulting_derived f t n g r = faulted_from g r (either rows K R met p Command gd m (suc n))

module _ (table : List ℕ) (loaded : Loaded table) where
  pub program_stands : Stands (row_at table) (last_row table) Command
  program_stands =
      let w = (well_formed table loaded).program in
      subst (Stands (row_at table) (last_row table)) w.2 (stands table loaded (last_row table) w.0 w.1)

  module _ (m : Cells) where
    pub whole_runs : WholeRuns table m
    whole_runs =
        let rows = row_at table in let K = control_need_at table in let R = results_need_at table in let met = meets table loaded in
        let p = last_row table in
        record {
          finishing = λ m' n. (finishing_takes rows K R met p program_stands m m' n, finishing_derived rows K R met p program_stands m m' n);
          faulting = λ f m' n. (
            faulting_takes rows K R met p program_stands m f m' n,
            λ z. subst (λ m'. Faults rows m p f m' n) z.3 (faulting_derived rows K R met p program_stands m f z.0 n z.1 z.2),
          );
        }

pub whole_runs_agree : WholeRunsAgree
whole_runs_agree = whole_runs
