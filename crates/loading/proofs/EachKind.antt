-- Cases on the kind of a row: the row that passing words spell, and its parts.
use Rattle.std.proofs.Common.{◌≡◌, ℕ, ◌<◌, ◌≤◌, Some, None, Option, IfSome, refl, ap, arith, w32, to_z}
use Rattle.std.proofs.lemmas.Bool.{lt-ltb}
use Rattle.std.proofs.lemmas.Bool.Decides.{nat_tests}
use Rattle.std.specs.Option.{option_map}
use Rattle.rows.specs.declared.kind.Kind.{Kind}
use Rattle.rows.specs.declared.kind.Kind.TheVariants as kind
use Rattle.rows.specs.declared.row.Sort.{Sort}
use Rattle.rows.specs.declared.words.Words.{Words}
use Rattle.rows.specs.declared.row.Row.{Row}
use Rattle.rows.specs.declared.row.Row.TheVariants as row
use Rattle.rows.specs.Parts.{EachPart}
use Rattle.rows.specs.Rows.{kind_of, operator_of, relation_of, truth_of, spelt, then}
use Rattle.loading.specs.Layouts.{layout_for}
use Rattle.loading.specs.Questions.{OnPart, OfRow, InRange, Each}

there : {A : Type 0} (o : Option A) → (o ≡ None → ⊥) → (x : A) × (o ≡ Some x)
there None f = absurd (f refl)
there (Some x) f = (x, refl)

kind_there : (n : ℕ) → n ≤ 11 → kind_of n ≡ None → ⊥
kind_there n h e = grind (arith, nat_tests)

operator_there : (a : ℕ) → a < 4 → operator_of a ≡ None → ⊥
operator_there a h e = grind (arith, nat_tests)

relation_there : (a : ℕ) → a < 3 → relation_of a ≡ None → ⊥
relation_there a h e = grind (arith, nat_tests)

truth_there : (a : ℕ) → a < 2 → truth_of a ≡ None → ⊥
truth_there a h e = grind (arith, nat_tests)

module _ (Q : Sort → ℕ → Type 0) (w : Words) where
  -- what the words spell as a row of that kind: a row, whose parts Q holds of where it holds of the words that name them
  pub record SpeltAs (k : Option Kind) : Type 0 where
    pub spelt_row : Row
    pub spells : then k (spelt w) ≡ Some spelt_row
    pub parts : IfSome (option_map layout_for k) (Each (OnPart Q) w) → EachPart Q spelt_row

  spelt_as : (k : Option Kind) → (k ≡ None → ⊥) → IfSome (option_map layout_for k) (Each InRange w) → SpeltAs k
  spelt_as None f h = absurd (f refl)
  spelt_as (Some kind.Number) f h = record { spelt_row = row.Number (to_z w32 w.a); spells = refl; parts = λ q. tt }
  spelt_as (Some kind.Contents) f h = record { spelt_row = row.Contents w.a; spells = rw (lt-ltb w.a 256 h.0); parts = λ q. tt }
  spelt_as (Some kind.Arithmetic) f h =
      let o = there (operator_of w.a) (operator_there w.a h.0) in
      record { spelt_row = row.Arithmetic o.0 w.b w.c; spells = ap (option_map (λ n. row.Arithmetic n w.b w.c)) o.1; parts = λ q. (q.1, q.2) }
  spelt_as (Some kind.Truth) f h =
      let t = there (truth_of w.a) (truth_there w.a h.0) in
      record { spelt_row = row.Truth t.0; spells = ap (option_map row.Truth) t.1; parts = λ q. tt }
  spelt_as (Some kind.Comparison) f h =
      let r = there (relation_of w.a) (relation_there w.a h.0) in
      record { spelt_row = row.Comparison r.0 w.b w.c; spells = ap (option_map (λ n. row.Comparison n w.b w.c)) r.1; parts = λ q. (q.1, q.2) }
  spelt_as (Some kind.Not) f h = record { spelt_row = row.Not w.a; spells = refl; parts = λ q. q.0 }
  spelt_as (Some kind.And) f h = record { spelt_row = row.And w.a w.b; spells = refl; parts = λ q. (q.0, q.1) }
  spelt_as (Some kind.Skip) f h = record { spelt_row = row.Skip; spells = refl; parts = λ q. tt }
  spelt_as (Some kind.Assignment) f h =
      record { spelt_row = row.Assignment w.a w.b; spells = rw (lt-ltb w.a 256 h.0); parts = λ q. q.1 }
  spelt_as (Some kind.Sequence) f h = record { spelt_row = row.Sequence w.a w.b; spells = refl; parts = λ q. (q.0, q.1) }
  spelt_as (Some kind.Choice) f h = record { spelt_row = row.Choice w.a w.b w.c; spells = refl; parts = λ q. q }
  spelt_as (Some kind.Loop) f h = record { spelt_row = row.Loop w.a w.b; spells = refl; parts = λ q. (q.0, q.1) }

  -- passing words spell a row
  pub passing_spells : w.kind ≤ 11 → OfRow InRange w → SpeltAs (kind_of w.kind)
  passing_spells k h = spelt_as (kind_of w.kind) (kind_there w.kind k) h
