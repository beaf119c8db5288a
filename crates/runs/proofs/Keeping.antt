-- A board with a history keeps to the rules.
use Rattle.std.proofs.Common.{◌≡◌, ℕ, ◌<◌, List, sym, refl, ap, ◌∙◌, subst, subst₂, arith as linear}
use Rattle.rows.specs.Rows.{row_at}
use Rattle.loading.specs.Questions.{Loaded}
use Rattle.semantics.specs.Cells.{Cells}
use Rattle.semantics.specs.Machine.{Configuration, cells_of}
use Rattle.semantics.specs.Traces.{Goes, Takes}
use Rattle.semantics.specs.Cuts.{total}
use Rattle.semantics.specs.WholeRuns.{program_over}
use Rattle.semantics.proofs.WholeRuns.{plain}
use Rattle.runs.specs.declared.end.Stop.TheVariants as stop
use Rattle.runs.specs.declared.end.End.{End}
use Rattle.runs.specs.declared.end.End.TheVariants.{Finished, Stopped, Limit}
use Rattle.runs.specs.Slices.{Board, running, ended}
use Rattle.runs.specs.Histories.{History}
use Rattle.runs.specs.Promise.{Ended, Ends, count_of, left_of, DeriveNeither, Kept}
use Rattle.runs.proofs.Courses.{Comes, there, under_way, keeps}
use Rattle.runs.proofs.Fates.{K, H, Told, Fate, SomeFate, finishing, faulting, some_fate}

-- a board that has ended has one end, one count and one state of its cells
ends_ended : (b : Board) (e : End) (n : ℕ) (m : Cells) → Ends b e n m → Ended b
ends_ended (running i s) e n m q = absurd q
ends_ended (ended f i s) e n m q = tt

ends_once : (b : Board) (e e' : End) (n n' : ℕ) (m m' : Cells) → Ends b e n m → Ends b e' n' m' → (e ≡ e') × (n ≡ n') × (m ≡ m')
ends_once (running i s) e e' n n' m m' q q' = absurd q
ends_once (ended f i s) e e' n n' m m' q q' = (sym q.0 ∙ q'.0, sym q.1 ∙ q'.1, sym q.2 ∙ q'.2)

-- what is known of a board by its course
module _ (table : List ℕ) (limit : ℕ) {k h : ℕ} {e : End} {N : ℕ} {s t : Configuration} where
  pub settled : {a : ℕ} {b : Board} → Comes (row_at table) limit k h e N s t a b → Ended b → b ≡ ended e N t
  settled (there q) x = ap (λ n. ended e n t) q
  settled (under_way q g f p lt) x = absurd x

  ends_so : {a : ℕ} {b : Board} {m : Cells} → Comes (row_at table) limit k h e N s t a b → cells_of t ≡ m → Ended b → Ends b e N m
  ends_so (there q) z x = (refl, q, z)
  ends_so (under_way q g f p lt) z x = absurd x

  counts_so : {a n : ℕ} {b : Board} {u : Configuration} → Comes (row_at table) limit k h e N s t a b → b ≡ running n u → (n ≡ a) × (n < limit)
  counts_so (there q) z = let y : ◌≡◌ {A = ℕ} 0 1 = cc in absurd (omega linear)
  counts_so {n} (under_way {n = i} q g f p lt) z = let y : i ≡ n = ap count_of z in omega linear

  leaves_so : {a : ℕ} {b : Board} → Comes (row_at table) limit k h e N s t a b → Goes (row_at table) 1 k h s N t → Takes (row_at table) s (count_of b) (left_of b)
  leaves_so (there q) d = subst (λ n. Takes (row_at table) s n t) (sym q) (plain (row_at table) d)
  leaves_so (under_way q g f p lt) d = g

module _ (table : List ℕ) (m : Cells) (limit k h : ℕ) (l : List ℕ) (b : Board) (history : History table k h limit m l b) where
  pub on_course : {e : End} {N : ℕ} {m' : Cells} (w : Fate table m limit e N m') →
      Comes (row_at table) limit (K table) (H table) e N (program_over table m) w.last (total l) b
  on_course w = keeps table k h limit (K table) (H table) history.admitted.control history.admitted.results
      history.admitted.from w.trace w.within w.final history.went

  comes : {e : End} {N : ℕ} {m' : Cells} → Fate table m limit e N m' → Ended b → Ends b e N m'
  comes w x = ends_so table limit (on_course w) w.cells x

  -- what the board's own end is, the rules say
  tells : {e : End} {N : ℕ} {m' : Cells} → Fate table m limit e N m' → (e₁ : End) (n : ℕ) (m₁ : Cells) → Ends b e₁ n m₁ → Told table m limit e₁ n m₁
  tells {e} {N} {m'} w e₁ n m₁ q =
      let z = ends_once b e e₁ N n m' m₁ (comes w (ends_ended b e₁ n m₁ q)) q in
      subst (λ e. Told table m limit e n m₁) z.0 (subst₂ (Told table m limit e) z.1 z.2 w.told)

  runs_out_only : {e : End} {N : ℕ} {m' : Cells} → Fate table m limit e N m' → Ended b → DeriveNeither table m limit → (m₁ : Cells) × Ends b Limit limit m₁
  runs_out_only {e = Finished} {N} {m'} w x z = absurd (z.0 m' N w.told)
  runs_out_only {e = Stopped stop.Stuck} w x z = absurd w.told
  runs_out_only {e = Stopped (stop.Fault f)} {N} {m'} w x z = absurd (z.1 f m' N w.told)
  runs_out_only {e = Limit} {N} {m'} w x z = (m', subst (λ n. Ends b Limit n m') w.told (comes w x))

  module _ (loaded : Loaded table) where
    derive_neither : (m₁ : Cells) → Ends b Limit limit m₁ → DeriveNeither table m limit
    derive_neither m₁ q = let x = ends_ended b Limit limit m₁ q in (
      λ m' n d. let z = (ends_once b Limit Finished limit n m₁ m' q (comes (finishing table m limit loaded d.0 d.1) x)).0 in
          let y : ◌≡◌ {A = ℕ} 0 1 = cc in omega linear,
      λ f m' n d. let z = (ends_once b Limit (Stopped (stop.Fault f)) limit n m₁ m' q (comes (faulting table m limit loaded d.0 d.1) x)).0 in
          let y : ◌≡◌ {A = ℕ} 0 1 = cc in omega linear,
    )

    kept_by : SomeFate table m limit → Kept table m limit l b
    kept_by w = record {
      finishes = λ x m' n. (tells w.3 Finished n m', λ d. comes (finishing table m limit loaded d.0 d.1) x);
      faults = λ x f m' n. (tells w.3 (Stopped (stop.Fault f)) n m', λ d. comes (faulting table m limit loaded d.0 d.1) x);
      runs_out = λ x. (λ q. derive_neither q.0 q.1, runs_out_only w.3 x);
      at_limit = tells w.3 Limit;
      never_stuck = tells w.3 (Stopped stop.Stuck);
      counts = λ n s. counts_so table limit (on_course w.3);
      leaves = leaves_so table limit (on_course w.3) w.3.trace;
    }

pub kept : (table : List ℕ) → Loaded table → (m : Cells) (limit k h : ℕ) (l : List ℕ) (b : Board) → History table k h limit m l b → Kept table m limit l b
kept table loaded m limit k h l b history = kept_by table m limit k h l b history loaded (some_fate table m limit loaded)
