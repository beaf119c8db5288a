-- A row that passes: it is there, and its parts lie below it and are of the sorts that it asks.
use Rattle.std.proofs.Common.{◌≡◌, ℕ, ◌<◌, ltb, List, Some, None, ap, subst}
use Rattle.std.proofs.lemmas.Bool.{lt-ltb, cond-true}
use Rattle.rows.specs.declared.row.Sort.{Sort}
use Rattle.rows.specs.declared.row.Row.{Row}
use Rattle.rows.specs.declared.row.Row.TheVariants as row
use Rattle.rows.specs.Parts.{EachPart}
use Rattle.loading.specs.Questions.{OnPart, OfRow}
use Rattle.loading.specs.Surveys.{RowPasses}
use Rattle.rows.specs.Rows.{rows, row_at, kind_of, words_at, decoded, sort_at, then}
use Rattle.loading.proofs.EachKind.{SpeltAs, passing_spells}

-- what follows of each part from two facts
pub each_both : (Q R P : Sort → ℕ → Type 0) → ((s : Sort) (x : ℕ) → Q s x → R s x → P s x) → (r : Row) → EachPart Q r → EachPart R r → EachPart P r
each_both Q R P f (row.Number _) q t = tt
each_both Q R P f (row.Contents _) q t = tt
each_both Q R P f (row.Arithmetic o x y) q t = (f _ x q.0 t.0, f _ y q.1 t.1)
each_both Q R P f (row.Truth _) q t = tt
each_both Q R P f (row.Comparison o x y) q t = (f _ x q.0 t.0, f _ y q.1 t.1)
each_both Q R P f (row.Not x) q t = f _ x q t
each_both Q R P f (row.And x y) q t = (f _ x q.0 t.0, f _ y q.1 t.1)
each_both Q R P f row.Skip q t = tt
each_both Q R P f (row.Assignment l x) q t = f _ x q t
each_both Q R P f (row.Sequence x y) q t = (f _ x q.0 t.0, f _ y q.1 t.1)
each_both Q R P f (row.Choice b x y) q t = (f _ b q.0 t.0, f _ x q.1 t.1, f _ y q.2 t.2)
each_both Q R P f (row.Loop b x) q t = (f _ b q.0 t.0, f _ x q.1 t.1)

-- what follows of each part from one
pub each_part : (Q P : Sort → ℕ → Type 0) → ((s : Sort) (x : ℕ) → Q s x → P s x) → (r : Row) → EachPart Q r → EachPart P r
each_part Q P f r q = each_both Q Q P (λ s x h _. f s x h) r q q

module _ (table : List ℕ) (p : ℕ) (passes : RowPasses table p) where
  pub spelt_at : (Q : Sort → ℕ → Type 0) → SpeltAs Q (words_at table p) (kind_of (words_at table p).kind)
  spelt_at Q = passing_spells Q (words_at table p) passes.0 passes.2

  -- what holds of each word that names a part holds of each part
  pub parts_at : (Q : Sort → ℕ → Type 0) → OfRow (OnPart Q) (words_at table p) → (r : Row) → decoded (words_at table p) ≡ Some r → EachPart Q r
  parts_at Q q r e =
      let s = spelt_at Q in
      let f = s.spells in
      let same : s.spelt_row ≡ r = cc in
      subst (EachPart Q) same (s.parts q)

  pub parts_lower : (r : Row) → decoded (words_at table p) ≡ Some r → EachPart (λ _ x. x < p) r
  parts_lower = parts_at (λ _ x. x < p) passes.3

  pub parts_sorted : (r : Row) → decoded (words_at table p) ≡ Some r → EachPart (λ s x. sort_at table x ≡ Some s) r
  parts_sorted = parts_at (λ s x. sort_at table x ≡ Some s) passes.4

pub row_within : (table : List ℕ) (p : ℕ) → p < rows table → row_at table p ≡ decoded (words_at table p)
row_within table p h = ap (λ o. then o decoded) (cond-true (ltb p (rows table)) (Some (words_at table p)) None (lt-ltb p (rows table) h))
