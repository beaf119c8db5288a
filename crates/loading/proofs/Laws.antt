-- What the layers above may use of a loaded table, without opening what loading asks.
use Rattle.std.proofs.Common.{◌≡◌, ℕ, zero, suc, ◌+◌, ◌<◌, ltb, List, Some, None, sym, refl, ap, ◌∙◌, ⊎_elim, arith}
use Rattle.std.proofs.lemmas.Bool.{cases_Bool, ltb-true, cond-false}
use Rattle.std.specs.Option.{option_map}
use Rattle.rows.specs.declared.row.Sort.{Sort}
use Rattle.rows.specs.declared.row.Sort.TheVariants.{Command}
use Rattle.loading.specs.declared.needs.Needs.{Needs}
use Rattle.loading.specs.declared.refusal.Refusal.TheVariants as no
use Rattle.rows.specs.declared.row.Row.{Row}
use Rattle.rows.specs.declared.row.Row.TheVariants as row
use Rattle.rows.specs.Parts.{EachPart, HasSort, SoundParts}
use Rattle.loading.specs.Questions.{Loaded}
use Rattle.rows.specs.Rows.{rows, last_row, row_at, words_at, decoded, sort_of, sort_at, then}
use Rattle.loading.specs.Stacks.{needed, of_row, needs_below, needs_at, MeetsNeeds, Settled}
use Rattle.loading.specs.WellFormed.{WellFormed}
use Rattle.loading.specs.Surveys.{RowPasses}
use Rattle.loading.proofs.Spared.{needs_stay, needs_then}
use Rattle.loading.proofs.Passing.{each_part, each_both, parts_lower, parts_sorted, row_within, spelt_at}

module _ (table : List ℕ) (loaded : Loaded table) where
  passes : (p : ℕ) → p < rows table → RowPasses table p
  passes p h = (loaded (no.Kind p) h, loaded (no.Unused p) h, loaded (no.Range p) h, loaded (no.Forward p) h, loaded (no.Mismatch p) h)

  -- every row of the table decodes
  pub row_there : (p : ℕ) → p < rows table → (r : Row) × (row_at table p ≡ Some r)
  row_there p h =
      let s = spelt_at table p (passes p h) (λ _ _. Unit {0}) in (s.spelt_row, row_within table p h ∙ s.spells)

  -- and no other
  pub row_inside : (p : ℕ) (r : Row) → row_at table p ≡ Some r → p < rows table
  row_inside p r e =
      ⊎_elim (ltb-true p (rows table))
      (λ b.
      let n = ap (λ o. then o decoded) (cond-false (ltb p (rows table)) (Some (words_at table p)) None b) in
      let z : ◌≡◌ {A = ℕ} 0 1 = cc in absurd (omega arith))
      (cases_Bool (ltb p (rows table)))

  has_sort : (s : Sort) (x : ℕ) → x < rows table → sort_at table x ≡ Some s → HasSort table s x
  unfolding sort_at
  has_sort s x h e =
      let r = row_there x h in
      let there = ap (option_map sort_of) r.1 in
      let same : sort_of r.0 ≡ s = cc in
      (r.0, r.1, same)

  -- the rows that a row names lie below it and are of the sorts that it asks
  pub parts_sound : (p : ℕ) (r : Row) → row_at table p ≡ Some r → SoundParts table p r
  parts_sound p r e =
      let h = row_inside p r e in
      let d : decoded (words_at table p) ≡ Some r = sym (row_within table p h) ∙ e in
      each_both (λ s x. x < p) (λ s x. sort_at table x ≡ Some s) (λ s x. (x < p) × HasSort table s x)
      (λ s x lt k. (lt, has_sort s x (omega arith) k)) r
      (parts_lower table p (passes p h) r d) (parts_sorted table p (passes p h) r d)

  -- the last row is there and is a command
  pub last_there : last_row table + 1 ≡ rows table
  last_there = let h = loaded no.Length tt in omega arith

  pub last_command : HasSort table Command (last_row table)
  last_command = has_sort Command (last_row table) (let h = last_there in omega arith) (loaded (no.NotCommand (last_row table)) last_there)

-- a row needs the same where its parts do
needed_same : (f g : ℕ → Needs) (r : Row) → EachPart (λ _ x. f x ≡ g x) r → needed f r ≡ needed g r
needed_same f g (row.Number _) q = refl
needed_same f g (row.Contents _) q = refl
needed_same f g (row.Arithmetic o x y) q = cc
needed_same f g (row.Truth _) q = refl
needed_same f g (row.Comparison o x y) q = cc
needed_same f g (row.Not x) q = cc
needed_same f g (row.And x y) q = cc
needed_same f g row.Skip q = refl
needed_same f g (row.Assignment l x) q = cc
needed_same f g (row.Sequence x y) q = cc
needed_same f g (row.Choice b x y) q = cc
needed_same f g (row.Loop b x) q = cc

module _ (table : List ℕ) (loaded : Loaded table) where
  part_lower : (p : ℕ) (r : Row) → row_at table p ≡ Some r → EachPart (λ _ x. x < p) r
  part_lower p r e = each_part (λ s x. (x < p) × HasSort table s x) (λ _ x. x < p) (λ s x q. q.0) r (parts_sound table loaded p r e)

  -- the needs of a loaded table meet the equation of every row
  pub needs_meet : MeetsNeeds table (needs_at table)
  needs_meet p r e =
      needs_then table p
      ∙ ap (of_row (needs_below table p)) e
      ∙ needed_same (needs_below table p) (needs_at table) r
      (each_part (λ _ x. x < p) (λ _ x. needs_below table p x ≡ needs_at table x) (λ s x h. needs_stay table p x h) r (part_lower p r e))

  module _ (f : ℕ → Needs) (meets : MeetsNeeds table f) where
    agree : (n p : ℕ) → p < n → p < rows table → f p ≡ needs_at table p
    agree zero p h within = absurd (omega arith)
    agree (suc n) p h within =
        let r = row_there table loaded p within in
        meets p r.0 r.1
        ∙ needed_same f (needs_at table) r.0
        (each_part (λ _ x. x < p) (λ _ x. f x ≡ needs_at table x) (λ s x lt. agree n x (omega arith) (omega arith)) r.0 (part_lower p r.0 r.1))
        ∙ sym (needs_meet p r.0 r.1)

  pub needs_settled : Settled table (needs_at table)
  needs_settled = record { meets = needs_meet; only = λ f meets p. agree f meets (suc p) p (omega arith) }

  pub well_formed : WellFormed table
  well_formed =
      let h = loaded no.Length tt in
      record {
        sized = (omega arith, omega arith);
        there = row_there table loaded;
        parts = parts_sound table loaded;
        program = last_command table loaded;
        settled = needs_settled;
      }
