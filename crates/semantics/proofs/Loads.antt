-- Whether a table is loaded, by computing.
use Rattle.std.proofs.Common.{◌≡◌, ℕ, zero, suc, ◌-◌, ◌%◌, ◌<◌, ◌≤◌, List, length, IfSome, Some, None, Option, refl, ap, subst, arith as linear}
use native.Mathlib.Decide.{dec_lt}
use Rattle.rows.specs.declared.row.Sort.{Sort}
use Rattle.rows.specs.declared.row.Sort.TheVariants.{Integer, Boolean, Command}
use Rattle.rows.specs.declared.words.Words.{Words}
use Rattle.rows.specs.Rows.{rows, words_at, sort_at}
use Rattle.loading.specs.declared.layout.Field.{Field}
use Rattle.loading.specs.declared.layout.Field.TheVariants.{Unused, Number, Location, Operator, Relation, Truth, Part}
use Rattle.loading.specs.declared.layout.Layout.{Layout}
use Rattle.loading.specs.declared.refusal.Refusal.TheVariants as no
use Rattle.loading.specs.Layouts.{layout_of}
use Rattle.loading.specs.Surveys.{RowPasses}
use Rattle.loading.specs.Questions.{Clear, InRange, OnPart, Lower, Sorted, Each, OfRow, Loaded}
use Rattle.semantics.proofs.Deciding.{both, so, le?, lt?, same?}

abbrev same_sort? : (s t : Sort) → Option (s ≡ t)
same_sort? Integer Integer = Some refl
same_sort? Integer Boolean = None
same_sort? Integer Command = None
same_sort? Boolean Integer = None
same_sort? Boolean Boolean = Some refl
same_sort? Boolean Command = None
same_sort? Command Integer = None
same_sort? Command Boolean = None
same_sort? Command Command = Some refl

abbrev is_sort? : (o : Option Sort) (s : Sort) → Option (o ≡ Some s)
is_sort? None s = None
is_sort? (Some t) s = so (ap Some) (same_sort? t s)

abbrev clear? : (f : Field) (w : ℕ) → Option (Clear f w)
clear? Unused w = same? w 0
clear? Number w = Some tt
clear? Location w = Some tt
clear? Operator w = Some tt
clear? Relation w = Some tt
clear? Truth w = Some tt
clear? (Part s) w = Some tt

abbrev in_range? : (f : Field) (w : ℕ) → Option (InRange f w)
in_range? Unused w = Some tt
in_range? Number w = Some tt
in_range? Location w = lt? w 256
in_range? Operator w = lt? w 4
in_range? Relation w = lt? w 3
in_range? Truth w = lt? w 2
in_range? (Part s) w = Some tt

abbrev on_part? : (Q : Sort → ℕ → Type 0) → ((s : Sort) (x : ℕ) → Option (Q s x)) → (f : Field) (w : ℕ) → Option (OnPart Q f w)
on_part? Q q Unused w = Some tt
on_part? Q q Number w = Some tt
on_part? Q q Location w = Some tt
on_part? Q q Operator w = Some tt
on_part? Q q Relation w = Some tt
on_part? Q q Truth w = Some tt
on_part? Q q (Part s) w = q s w

abbrev three : {A B C : Type 0} → Option A → Option B → Option C → Option (A × B × C)
three None b c = None
three (Some a) None c = None
three (Some a) (Some b) None = None
three (Some a) (Some b) (Some c) = Some (a, b, c)

abbrev by_layout : (Q : Field → ℕ → Type 0) → ((f : Field) (w : ℕ) → Option (Q f w)) → (w : Words) (o : Option Layout) → Option (IfSome o (Each Q w))
by_layout Q q w None = Some tt
by_layout Q q w (Some l) = three (q l.a w.a) (q l.b w.b) (q l.c w.c)

abbrev of_row? : (Q : Field → ℕ → Type 0) → ((f : Field) (w : ℕ) → Option (Q f w)) → (w : Words) → Option (OfRow Q w)
of_row? Q q w = by_layout Q q w (layout_of w.kind)

module _ (table : List ℕ) where
  abbrev five : {A B C D E : Type 0} → Option A → Option (B × C) → Option (D × E) → Option (A × B × C × D × E)
  five None bc de = None
  five (Some a) None de = None
  five (Some a) (Some bc) None = None
  five (Some a) (Some bc) (Some de) = Some (a, bc.0, bc.1, de.0, de.1)

  abbrev row_passes? : (p : ℕ) → Option (RowPasses table p)
  row_passes? p =
      let w = words_at table p in
      five (le? w.kind 11)
      (both (of_row? Clear clear? w) (of_row? InRange in_range? w))
      (both (of_row? (Lower p) (on_part? (λ s x. x < p) (λ s x. lt? x p)) w)
      (of_row? (Sorted table) (on_part? (λ s x. sort_at table x ≡ Some s) (λ s x. is_sort? (sort_at table x) s)) w))

  pub one_more : (n : ℕ) → (((p : ℕ) → p < n → RowPasses table p) × RowPasses table n) → (p : ℕ) → p < suc n → RowPasses table p
  one_more n h p lt = elim (dec_lt p n) [
    | yes le ↦ h.0 p le
    | no not-le ↦ let q : n ≡ p = omega linear in subst (RowPasses table) q h.1
  ]

  abbrev rows_pass? : (n : ℕ) → Option ((p : ℕ) → p < n → RowPasses table p)
  rows_pass? zero = Some (λ p lt. absurd (omega linear))
  rows_pass? (suc n) = so (one_more n) (both (rows_pass? n) (row_passes? n))

  abbrev length? : Option ((length table % 4 ≡ 0) × (4 ≤ length table) × (length table ≤ 16384))
  length? = three (same? (length table % 4) 0) (le? 4 (length table)) (le? (length table) 16384)

  abbrev AskedAll : Type 0
  AskedAll =
      ((length table % 4 ≡ 0) × (4 ≤ length table) × (length table ≤ 16384))
      × ((p : ℕ) → p < rows table → RowPasses table p)
      × (sort_at table (rows table - 1) ≡ Some Command)

  pub all_asked : AskedAll → Loaded table
  all_asked h no.Length a = h.0
  all_asked h (no.Kind p) a = (h.1 p a).0
  all_asked h (no.Unused p) a = (h.1 p a).1
  all_asked h (no.Range p) a = (h.1 p a).2
  all_asked h (no.Forward p) a = (h.1 p a).3
  all_asked h (no.Mismatch p) a = (h.1 p a).4
  all_asked h (no.NotCommand p) a = let q : rows table - 1 ≡ p = omega linear in subst (λ p. sort_at table p ≡ Some Command) q h.2

  abbrev pub loaded? : Option (Loaded table)
  loaded? = so all_asked (three length? (rows_pass? (rows table)) (is_sort? (sort_at table (rows table - 1)) Command))
