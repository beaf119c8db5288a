-- A run that was begun and gone on with once has a history, and what is answered of it.
use Rattle.std.proofs.Common.{◌≡◌, ℕ, ◌≤◌, List, [], ◌∷◌, Some, None, Ok, Err, Option, Result, sym, ◌∙◌, subst, subst₂, arith as linear, le-leb}
use mathlib.Core.Path.{fun_ext}
use Rattle.rows.specs.Rows.{row_at, last_row}
use Rattle.loading.specs.declared.needs.Needs.{Needs}
use Rattle.loading.specs.Questions.{Loaded}
use Rattle.loading.specs.Stacks.{needs_at}
use Rattle.semantics.specs.Cells.{Cells}
use Rattle.semantics.specs.Cuts.{largest_slice}
use Rattle.semantics.specs.Machine.{Configuration, cells_of}
use Rattle.semantics.specs.Agreement.{control_need_at, results_need_at}
use Rattle.semantics.specs.Worked.{Case, cells_with, Worked}
use Rattle.transition.specs.Exchanges.{Room}
use Rattle.runs.specs.Slices.{Board, GoesOn}
use Rattle.runs.specs.Histories.{Admits, History, rests, goes_on}
use Rattle.machine.specs.declared.run.BeginRefusal.{BeginRefusal}
use Rattle.machine.specs.declared.run.Ended.{Ended}
use Rattle.machine.specs.declared.run.Progress.{Progress}
use Rattle.machine.specs.declared.run.Running.{Running}
use Rattle.machine.specs.States.{board_of}
use Rattle.machine.specs.Begins.{first_no, Begins, begins, refuses}
use Rattle.worked.specs.Claimed.{Claimed, ClaimedAnswer, Poses}
use Rattle.worked.specs.Outcomes.{Tells, ComesTo}
use Rattle.worked.proofs.Claims.{not_running, ends_as_claimed}

-- ---- begin, and one go-on

-- on stacks of k places; they have as many once the run is begun
module _ (table : List ℕ) (k k' : Room) (same : k' ≡ k) (limit : ℕ) (s : Configuration) where
  abbrev Run : Board → Type 0
  Run = History table k.control k.results limit (cells_of s) (largest_slice ∷ [])

  abbrev Slice : Room → Running → Configuration → Board → Type 0
  Slice k r t b = GoesOn (row_at table) k.control k.results r.limit largest_slice r.count t b

  begun : {t : Configuration} {b : Board} (r : Running) → Begins table k.control k.results limit s (Ok r) t → Slice k r t b → Run b
  begun r (begins e a) g = record { admitted = a; went = goes_on g rests }

  -- the run comes to a progress, which is then known as q
  pub served : {t : Configuration} (u : Configuration) {p : Progress} (q : Progress) (r : Running) {a : Result Running BeginRefusal} → a ≡ Ok r →
      Begins table k.control k.results limit s a t → Slice k' r t (board_of p u) → p ≡ q → Run (board_of q u)
  served {t} u {p} q r is d g e =
      subst (λ q. Run (board_of q u)) e
      (begun r (subst (λ a. Begins table k.control k.results limit s a t) is d) (subst (λ k. Slice k r t (board_of p u)) same g))

module _ (table : List ℕ) (k h limit : ℕ) where
  no_refusal : Admits table k h limit → first_no table k h limit ≡ None
  no_refusal a =
      rw (
        le-leb 1 limit a.from,
        le-leb limit 1000000000 a.to,
        le-leb (needs_at table (last_row table)).control k a.control,
        le-leb (needs_at table (last_row table)).results h a.results,
      )

  -- begin refuses only what it does not admit
  pub not_admitted : {s t : Configuration} {e : BeginRefusal} → Begins table k h limit s (Err e) t → Admits table k h limit → ⊥
  not_admitted (refuses {e} q) a =
      let w : Some e ≡ None = sym q ∙ no_refusal a in
      let z : ◌≡◌ {A = ℕ} 0 1 = cc in omega linear

-- ---- the answer, on as many places as the table needs

module _ (table : List ℕ) (k h limit : ℕ) (m m' : Cells) where
  abbrev K : ℕ
  K = control_need_at table (last_row table)

  abbrev H : ℕ
  H = results_need_at table (last_row table)

  comes_to : (r : Option Ended) → Loaded table → K ≤ k → H ≤ h → Tells table K H limit m m' r → ComesTo table k h limit m m' r
  comes_to (Some e) loaded deep wide t =
      let a = t.2.admitted in
      (loaded, record { from = a.from; to = a.to; control = deep; results = wide }, t)
  comes_to None loaded deep wide t = λ _ a. t (record { from = a.from; to = a.to; control = omega linear; results = omega linear })

  -- the table is in a place, and the stacks have as many places as loading answered
  pub settled :
      {t : List ℕ} {i j : ℕ} (r : Option Ended) (n : Needs) → Loaded table → t ≡ table → n ≡ needs_at table (last_row table) →
      i ≡ n.control → j ≡ n.results → n.control ≤ k → n.results ≤ h → Tells t i j limit m m' r → ComesTo table k h limit m m' r
  settled {t} {i} {j} r n loaded holds exact deep wide le le' told =
      let le₁ : K ≤ k = subst (λ (n : Needs). n.control ≤ k) exact le in
      let le₂ : H ≤ h = subst (λ (n : Needs). n.results ≤ h) exact le' in
      let on-places : Tells t n.control n.results limit m m' r = subst₂ (λ i j. Tells t i j limit m m' r) deep wide told in
      let on-needs : Tells t K H limit m m' r = subst (λ (n : Needs). Tells t n.control n.results limit m m' r) exact on-places in
      comes_to r loaded le₁ le₂ (subst (λ t. Tells t K H limit m m' r) holds on-needs)

  as_posed : {l : List ℕ} {b : Board} (c : Case) → Poses c table k h limit m → (i j : ℕ) → History table i j limit m l b → History c.table i j c.limit (cells_with c.start) l b
  as_posed {l} {b} c p i j w =
      subst (λ t. History t i j c.limit (cells_with c.start) l b) p.table
      (subst (λ n. History table i j n (cells_with c.start) l b) p.limited
      (subst (λ m. History table i j limit m l b) (fun_ext p.cells) w))

  pub claimed : (r : Option Ended) → ComesTo table k h limit m m' r → (c : Case) → Worked c → Poses c table k h limit m → ClaimedAnswer c m' r
  claimed (Some e) t c w p =
      subst (Claimed c e.end e.count) t.2.1
      (ends_as_claimed c w (subst (λ n. n ≤ largest_slice) p.limited p.short) K H e.end e.count t.2.0 (as_posed c p K H t.2.2))
  claimed None t c w p =
      let q = t (subst Loaded (sym p.table) w.loaded) p.admitted in
      not_running c w (subst (λ n. n ≤ largest_slice) p.limited p.short) K H q.0 q.1.0 (as_posed c p K H q.1.2)
