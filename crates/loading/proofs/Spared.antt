-- The needs of the rows of a table, worked out from row 0 upward: a row adds at most two places.
use Rattle.std.proofs.Common.{◌≡◌, ℕ, zero, suc, ◌+◌, ◌*◌, ◌<◌, ◌≤◌, eqb, List, length, set, replicate, Some, None, Option, sym, refl, ap, ◌∙◌, subst, ⊎_elim, add-one, arith, get_or-set_other, get_or-set_same}
use mathlib.Core.Path.{fun_ext}
use Rattle.std.proofs.lemmas.Bool.{cases_eq, cond_both, cond-true, cond-false, eqb-true, eqb-false, eq-eqb, ne_eqb}
use Rattle.loading.specs.declared.needs.Needs.{Needs}
use Rattle.rows.specs.declared.row.Row.{Row}
use Rattle.rows.specs.declared.row.Row.TheVariants as row
use Rattle.rows.specs.Rows.{row_at}
use Rattle.loading.specs.Stacks.{needed, nothing, of_row, needs_below, needs_at}
use Rattle.loading.specs.Surveys.{known_of}

-- what n rows can need: two places for each
abbrev pub Within : ℕ → Needs → Type 0
Within n x = (x.control ≤ 2 * n) × (x.results ≤ 2 * n)

module _ (f : ℕ → Needs) (n : ℕ) (low : (x : ℕ) → Within n (f x)) where
  needed_within : (r : Row) → Within (suc n) (needed f r)
  needed_within (row.Number _) = (omega arith, omega arith)
  needed_within (row.Contents _) = (omega arith, omega arith)
  needed_within (row.Arithmetic o x y) = let a = low x in let b = low y in (omega arith, omega arith)
  needed_within (row.Truth _) = (omega arith, omega arith)
  needed_within (row.Comparison o x y) = let a = low x in let b = low y in (omega arith, omega arith)
  needed_within (row.Not x) = let a = low x in (omega arith, omega arith)
  needed_within (row.And x y) = let a = low x in let b = low y in (omega arith, omega arith)
  needed_within row.Skip = (omega arith, omega arith)
  needed_within (row.Assignment l x) = let a = low x in (omega arith, omega arith)
  needed_within (row.Sequence x y) = let a = low x in let b = low y in (omega arith, omega arith)
  needed_within (row.Choice c x y) = let d = low c in let a = low x in let b = low y in (omega arith, omega arith)
  needed_within (row.Loop c x) = let d = low c in let a = low x in (omega arith, omega arith)

  of_row_within : (o : Option Row) → Within (suc n) (of_row f o)
  of_row_within None = (omega arith, omega arith)
  of_row_within (Some r) = needed_within r

pub needs_within : (table : List ℕ) (n k : ℕ) → Within n (needs_below table n k)
unfolding needs_below
needs_within table zero k = (omega arith, omega arith)
needs_within table (suc n) k =
    let low = needs_within table n in
    cond_both (eqb k n) _ _ (Within (suc n)) (λ _. of_row_within (needs_below table n) n low (row_at table n))
    (λ _. let h = low k in (omega arith, omega arith))

-- the list before the first row
pub known_none : (n k : ℕ) → known_of (replicate n nothing) k ≡ nothing
known_none zero k = refl
known_none (suc n) zero = refl
known_none (suc n) (suc k) = known_none n k

-- the needs before the first row
pub needs_none : (table : List ℕ) (k : ℕ) → needs_below table 0 k ≡ nothing
unfolding needs_below
needs_none table k = refl

-- once the row p is worked out, from a list that has the needs of the rows below it
module _ (table : List ℕ) (known : List Needs) (p : ℕ) (same : (k : ℕ) → known_of known k ≡ needs_below table p k)
    (r : Row) (row : row_at table p ≡ Some r) (v : Needs) (is : v ≡ needed (known_of known) r) where
  -- what it needs
  pub more_within : Within (suc p) v
  more_within = rw is (needed_within (known_of known) p (λ k. rw (same k) (needs_within table p k)) r)

  -- the list with that
  pub known_more : p < length known → (k : ℕ) → known_of (set known p v) k ≡ needs_below table (p + 1) k
  unfolding needs_below
  known_more within k =
      let here : v ≡ of_row (needs_below table p) (row_at table p) = is ∙ ap (λ f. needed f r) (fun_ext same) ∙ sym (ap (of_row (needs_below table p)) row) in
      rw add-one
      (cond_both (eqb k p) _ _ (λ n. known_of (set known p v) k ≡ n)
      (λ e. subst (λ i. known_of (set known p v) i ≡ of_row (needs_below table p) (row_at table p)) (sym (eqb-true k p e)) (get_or-set_same known p v nothing within ∙ here))
      (λ e. get_or-set_other known p k v nothing (eqb-false k p e) ∙ same k))

-- the needs of a row are worked out once, when its turn comes
pub needs_stay : (table : List ℕ) (n p : ℕ) → p < n → needs_below table n p ≡ needs_at table p
unfolding needs_below needs_at
needs_stay table zero p h = absurd (omega arith)
needs_stay table (suc n) p h =
    ⊎_elim (λ e. subst (λ i. needs_below table (suc i) p ≡ needs_at table p) e refl)
    (λ ne. cond-false (eqb p n) (of_row (needs_below table n) (row_at table n)) (needs_below table n p) (ne_eqb p n ne) ∙ needs_stay table n p (omega arith))
    (cases_eq p n)

-- and then they come from the needs of the rows below it
pub needs_then : (table : List ℕ) (p : ℕ) → needs_at table p ≡ of_row (needs_below table p) (row_at table p)
unfolding needs_below needs_at
needs_then table p = cond-true (eqb p p) (of_row (needs_below table p) (row_at table p)) (needs_below table p p) (eq-eqb p p refl)
