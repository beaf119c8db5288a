-- The worked runs, by computing.
use Rattle.std.proofs.Common.{◌≡◌, ℕ, zero, suc, ◌≤◌, List, [], ◌∷◌, length, ℤ, IfSome, Some, None, Ok, Err, Option, Result, ap, subst, ap₂, arith as linear}
use Rattle.cells.specs.declared.fault.StoreFault.{StoreFault}
use Rattle.rows.specs.declared.row.Row.{Row}
use Rattle.rows.specs.Rows.{row_at, last_row, sort_at}
use Rattle.loading.specs.declared.needs.Needs.{Needs}
use Rattle.loading.specs.Questions.{Loaded}
use Rattle.loading.specs.Stacks.{needs_at, needs_below}
use Rattle.semantics.specs.declared.item.Control.{Control}
use Rattle.semantics.specs.declared.item.Control.TheVariants.{Whole}
use Rattle.semantics.specs.Faults.{number_of, row_of, location_of}
use Rattle.semantics.specs.Cells.{Cells, read}
use Rattle.semantics.specs.Machine.{Configuration, conf, Transition}
use Rattle.semantics.specs.Traces.{HoldsUp, Takes, none, more}
use Rattle.semantics.specs.Agreement.{control_need_at, results_need_at}
use Rattle.semantics.specs.Worked.{Case, cells_with, Hold, Ends, finishes, faults, runs_out, Worked, Each}
use Rattle.semantics.specs.Casebook.{twelve_runs, refused_runs, RunsEndAsStated}
use Rattle.semantics.proofs.Deciding.{both, so, le?, lt?, same?, same_integer?, the}
use Rattle.semantics.proofs.Shape.{meets}
use Rattle.semantics.proofs.Step.{Move, goes, refused, stuck, step, Shown, shown}
use Rattle.semantics.proofs.Agree.{outlasts}
use Rattle.semantics.proofs.Loads.{loaded?}
use Rattle.semantics.proofs.Evaluate.{Found, a_number, a_truth, cells, a_fault, nothing, derive}

-- N transitions of the machine, and control not empty after them
pub data Lasts (rows : ℕ → Option Row) (s : Configuration) (N : ℕ) : Type 0 where
  lasts : {t : Configuration} → Takes rows s N t → HoldsUp 1 t → Lasts rows s N

abbrev is_up : (rows : ℕ → Option Row) (s : Configuration) → Option (Lasts rows s 0)
is_up rows (conf [] r m) = None
is_up rows (conf (i ∷ c) r m) = Some (lasts none (up i c))
  where
    up : (i : Control) (c : List Control) → 1 ≤ length (i ∷ c)
    up i c = omega linear

abbrev goes_on : (rows : ℕ → Option Row) (s : Configuration) (N : ℕ) (w : Move) → Shown rows s w → ((t : Configuration) → Option (Lasts rows t N)) → Option (Lasts rows s (suc N))
goes_on rows s N (goes t) d k = so (longer d) (k t)
  where
    longer : {t : Configuration} → Transition rows s t → Lasts rows t N → Lasts rows s (suc N)
    longer d (lasts g up) = lasts (more d g) up
goes_on rows s N (refused f) d k = None
goes_on rows s N stuck d k = None

abbrev trace : (rows : ℕ → Option Row) (N : ℕ) (s : Configuration) → Option (Lasts rows s N)
trace rows zero s = is_up rows s
trace rows (suc N) s = goes_on rows s N (step rows s) (shown rows s) (trace rows N)

abbrev is_read? : (v : Result ℤ StoreFault) (a : ℤ) → Option (v ≡ Ok a)
is_read? (Ok b) a = so (ap Ok) (same_integer? b a)
is_read? (Err f) a = None

abbrev hold? : (m : Cells) (left : List (ℕ × ℤ)) → Option (Hold m left)
hold? m [] = Some tt
hold? m (s ∷ ss) = both (is_read? (read m s.0) s.1) (hold? m ss)

module _ (rows : ℕ → Option Row) (m : Cells) (p limit : ℕ) (left : List (ℕ × ℤ)) where
  -- an end that was found is the one that is claimed
  claimed : {e e' r r' l l' n n' : ℕ} → (((e ≡ e') × (r ≡ r')) × ((l ≡ l') × (n ≡ n'))) → Ends rows m p limit left e r l n → Ends rows m p limit left e' r' l' n'
  claimed {e} {e'} {r} {r'} {l} {l'} {n} {n'} q d =
      subst (λ e. Ends rows m p limit left e r' l' n') q.0.0
      (subst (λ r. Ends rows m p limit left e r l' n') q.0.1
      (subst (λ l. Ends rows m p limit left e r l n') q.1.0
      (subst (λ n. Ends rows m p limit left e r l n) q.1.1 d)))

  abbrev as_claimed : (e e' r r' l l' n n' : ℕ) → Option (Ends rows m p limit left e r l n) → Option (Ends rows m p limit left e' r' l' n')
  as_claimed e e' r r' l l' n n' d =
      so (λ z. claimed z.0 z.1) (both (both (both (same? e e') (same? r r')) (both (same? l l') (same? n n'))) d)

  abbrev found_end : (e r l n : ℕ) → Found rows m p → Option (Ends rows m p limit left e r l n)
  found_end e r l n (a_number a i d) = None
  found_end e r l n (a_truth t i d) = None
  found_end e r l n (cells m' i d) = as_claimed 0 e 0 r 0 l i n (so (λ z. finishes d z.0 z.1) (both (le? i limit) (hold? m' left)))
  found_end e r l n (a_fault f m' i d) =
      as_claimed (number_of f) e (row_of f) r (location_of f) l i n (so (λ z. faults d z.0 z.1) (both (lt? i limit) (hold? m' left)))
  found_end e r l n nothing = None

same_needs : (a b : Needs) → a.control ≡ b.control → a.results ≡ b.results → a ≡ b
same_needs a b p q = ap₂ (λ k h. let n : Needs = record { control = k; results = h } in n) p q

module _ (c : Case) (loaded : Loaded c.table) where
  abbrev rows : ℕ → Option Row
  rows = row_at c.table

  abbrev m : Cells
  m = cells_with c.start

  abbrev p : ℕ
  p = last_row c.table

  abbrev Claimed : Type 0
  Claimed = Ends rows m p c.limit c.left c.end c.row c.location c.count

  out : Lasts rows (conf (Whole p ∷ []) [] m) c.limit → Ends rows m p c.limit c.left 19 0 0 c.limit
  out (lasts g up) = runs_out (λ o n d. outlasts rows (control_need_at c.table) (results_need_at c.table) (meets c.table loaded) m p n c.limit o d g up)

  -- a claim of the number 19 is tried on the machine, any other on the rules
  abbrev ends_by : (limited : Option (c.end ≡ 19)) → Option Claimed
  ends_by None = found_end rows m p c.limit c.left c.end c.row c.location c.count (derive rows 50 p m)
  ends_by (Some q) =
      as_claimed rows m p c.limit c.left 19 c.end 0 c.row 0 c.location c.limit c.count
      (so out (trace rows c.limit (conf (Whole p ∷ []) [] m)))

  abbrev needed? : (o : Option Needs) → Option (IfSome o (λ n. needs_at c.table p ≡ n))
  needed? None = Some tt
  needed? (Some n) =
      so (λ q. same_needs (needs_at c.table p) n q.0 q.1)
      (both (same? (needs_at c.table p).control n.control) (same? (needs_at c.table p).results n.results))

abbrev verified_by : (c : Case) → Option (Loaded c.table) → Option (Worked c)
verified_by c None = None
verified_by c (Some l) = so (λ z. record { loaded = l; ends = z.0; needed = z.1 }) (both (ends_by c l (same? c.end 19)) (needed? c l c.needs))

abbrev verify : (c : Case) → Option (Worked c)
verify c = verified_by c (loaded? c.table)

abbrev verify_all : (cs : List Case) → Option (Each Worked cs)
verify_all [] = Some tt
verify_all (c ∷ cs) = both (verify c) (verify_all cs)

pub runs_end_as_stated : RunsEndAsStated
unfolding sort_at needs_at needs_below
runs_end_as_stated = (the (verify_all twelve_runs) tt, the (verify_all refused_runs) tt)
