-- What a program place holds: the table of the one row skip is loaded, and so is every table in a place.
use Rattle.std.proofs.Common.{◌≡◌, ℕ, ◌<◌, List, [], ◌∷◌, IfSome, Some, None, Option, Ok, refl, subst, arith}
use mathlib.Core.Logic.{∥∥₁_elim}
use std.HLevel.{Π_prop}
use base.Stored.{Coded-set}
use denote.Struct.Props.{props}
use Rattle.loading.specs.declared.layout.Field.{Field}
use Rattle.loading.specs.declared.layout.Field.TheVariants as field
use Rattle.loading.specs.declared.layout.Layout.{Layout}
use Rattle.std.specs.contracts.option.Option as option
use Rattle.rows.specs.contracts.row.Sort as sort
use Rattle.rows.specs.declared.row.Sort.{Sort}
use Rattle.rows.specs.declared.row.Sort.TheVariants.{Command}
use Rattle.table.specs.declared.program.Program.{Program}
use Rattle.loading.specs.declared.refusal.Refusal.{Refusal}
use Rattle.loading.specs.declared.refusal.Refusal.TheVariants as no
use Rattle.rows.specs.declared.words.Words.{Words}
use Rattle.loading.specs.Layouts.{layout_of}
use Rattle.table.specs.Places.{table_of}
use Rattle.loading.specs.Loading.{Answers}
use Rattle.loading.specs.Stacks.{needs_below, needs_at}
use Rattle.loading.specs.Questions.{Yes, Loaded, OfRow, Each, Clear, InRange, OnPart, Lower, Sorted}
use Rattle.rows.specs.Rows.{words_at, sort_at}

abbrev pub skip_table : List ℕ
skip_table = 7 ∷ 0 ∷ 0 ∷ 0 ∷ []

only_row : (P : ℕ → Type 0) → P 0 → (p : ℕ) → p < 1 → P p
only_row P h p within = let e : 0 ≡ p = omega arith in subst P e h

pub skip_loaded : Loaded skip_table
unfolding sort_at
skip_loaded no.Length h = (refl, omega arith, omega arith)
skip_loaded (no.Kind p) h = only_row (λ n. Yes skip_table (no.Kind n)) (omega arith) p h
skip_loaded (no.Unused p) h = only_row (λ n. Yes skip_table (no.Unused n)) (refl, refl, refl) p h
skip_loaded (no.Range p) h = only_row (λ n. Yes skip_table (no.Range n)) (tt, tt, tt) p h
skip_loaded (no.Forward p) h = only_row (λ n. Yes skip_table (no.Forward n)) (tt, tt, tt) p h
skip_loaded (no.Mismatch p) h = only_row (λ n. Yes skip_table (no.Mismatch n)) (tt, tt, tt) p h
skip_loaded (no.NotCommand p) h = only_row (λ n. Yes skip_table (no.NotCommand n)) refl p (omega arith)

pub skip_accepted : Answers skip_table (Ok (record { control = 1; results = 0 }))
unfolding needs_below needs_at
skip_accepted = (skip_loaded, refl)

-- A yes is known in at most one way, so a place's table may be used as loaded in every proof.

clear_once : (f : Field) (w : ℕ) → IsProp (Clear f w)
clear_once field.Unused w = hlevel props
clear_once field.Number w = hlevel props
clear_once field.Location w = hlevel props
clear_once field.Operator w = hlevel props
clear_once field.Relation w = hlevel props
clear_once field.Truth w = hlevel props
clear_once (field.Part s) w = hlevel props

range_once : (f : Field) (w : ℕ) → IsProp (InRange f w)
range_once field.Unused w = hlevel props
range_once field.Number w = hlevel props
range_once field.Location w = hlevel props
range_once field.Operator w = hlevel props
range_once field.Relation w = hlevel props
range_once field.Truth w = hlevel props
range_once (field.Part s) w = hlevel props

part_once : (Q : Sort → ℕ → Type 0) → ((s : Sort) (x : ℕ) → IsProp (Q s x)) → (f : Field) (w : ℕ) → IsProp (OnPart Q f w)
part_once Q q field.Unused w = hlevel props
part_once Q q field.Number w = hlevel props
part_once Q q field.Location w = hlevel props
part_once Q q field.Operator w = hlevel props
part_once Q q field.Relation w = hlevel props
part_once Q q field.Truth w = hlevel props
part_once Q q (field.Part s) w = q s w

sort_once : (x y : Option Sort) → IsProp (x ≡ y)
sort_once = Coded-set (option.the_row sort.the_row).coded

row_once : (Q : Field → ℕ → Type 0) → ((f : Field) (w : ℕ) → IsProp (Q f w)) → (w : Words) → IsProp (OfRow Q w)
row_once Q q w = at (layout_of w.kind)
  where
    at : (l : Option Layout) → IsProp (IfSome l (Each Q w))
    at None = hlevel props
    at (Some l) = hlevel (props, q)

yes_once : (table : List ℕ) (e : Refusal) → IsProp (Yes table e)
yes_once table no.Length = hlevel props
yes_once table (no.Kind p) = hlevel props
yes_once table (no.Unused p) = row_once Clear clear_once (words_at table p)
yes_once table (no.Range p) = row_once InRange range_once (words_at table p)
yes_once table (no.Forward p) = row_once (Lower p) (part_once (λ s x. x < p) (λ s x. hlevel props)) (words_at table p)
yes_once table (no.Mismatch p) =
    row_once (Sorted table) (part_once (λ s x. sort_at table x ≡ Some s) (λ s x. sort_once (sort_at table x) (Some s))) (words_at table p)
yes_once table (no.NotCommand p) = sort_once (sort_at table p) (Some Command)

pub loaded : (table : List ℕ) → ∥ Loaded table ∥₁ → Loaded table
loaded table h = ∥∥₁_elim h (Π_prop (λ e. Π_prop (λ _. yes_once table e))) (λ l. l)

-- the table in a place is loaded
pub held : (place : Program) → Loaded (table_of place)
held place = loaded (table_of place) place.loaded
