-- The seven questions of loading: when each is asked, in which order, and what a yes says.
-- A question and its row are told apart by the refusal that a no gives.
use Rattle.std.specs.Prelude.{◌≡◌, ℕ, ◌+◌, ◌*◌, ◌%◌, ◌<◌, ◌≤◌, ◌⊎◌, List, length, IfSome, Some}
use Rattle.rows.specs.declared.row.Sort.{Sort}
use Rattle.rows.specs.declared.row.Sort.TheVariants.{Command}
use Rattle.loading.specs.declared.layout.Field.{Field}
use Rattle.loading.specs.declared.layout.Field.TheVariants.{Unused, Number, Location, Operator, Relation, Truth, Part}
use Rattle.loading.specs.declared.layout.Layout.{Layout}
use Rattle.rows.specs.declared.words.Words.{Words}
use Rattle.loading.specs.declared.refusal.Refusal.{Refusal}
use Rattle.loading.specs.declared.refusal.Refusal.TheVariants as no
use Rattle.loading.specs.Layouts.{layout_of}
use Rattle.rows.specs.Rows.{rows, words_at, sort_at}

abbrev pub number_of : Refusal → ℕ
number_of no.Length = 1
number_of (no.Kind p) = 2
number_of (no.Unused p) = 3
number_of (no.Range p) = 4
number_of (no.Forward p) = 5
number_of (no.Mismatch p) = 6
number_of (no.NotCommand p) = 7

abbrev pub row_of : Refusal → ℕ
row_of no.Length = 0
row_of (no.Kind p) = p
row_of (no.Unused p) = p
row_of (no.Range p) = p
row_of (no.Forward p) = p
row_of (no.Mismatch p) = p
row_of (no.NotCommand p) = p

-- What a yes says of one word w that stands for a field.

-- question 3
abbrev pub Clear : Field → ℕ → Type 0
Clear Unused w = w ≡ 0
Clear Number w = Unit {0}
Clear Location w = Unit {0}
Clear Operator w = Unit {0}
Clear Relation w = Unit {0}
Clear Truth w = Unit {0}
Clear (Part s) w = Unit {0}

-- question 4
abbrev pub InRange : Field → ℕ → Type 0
InRange Unused w = Unit {0}
InRange Number w = Unit {0}
InRange Location w = w < 256
InRange Operator w = w < 4
InRange Relation w = w < 3
InRange Truth w = w < 2
InRange (Part s) w = Unit {0}

-- Q holds of a word that names a part, with the part's sort
abbrev pub OnPart : (Sort → ℕ → Type 0) → Field → ℕ → Type 0
OnPart Q Unused w = Unit {0}
OnPart Q Number w = Unit {0}
OnPart Q Location w = Unit {0}
OnPart Q Operator w = Unit {0}
OnPart Q Relation w = Unit {0}
OnPart Q Truth w = Unit {0}
OnPart Q (Part s) w = Q s w

-- question 5, asked of the row p
abbrev pub Lower : ℕ → Field → ℕ → Type 0
Lower p = OnPart (λ s x. x < p)

-- question 6
abbrev pub Sorted : List ℕ → Field → ℕ → Type 0
Sorted table = OnPart (λ s x. sort_at table x ≡ Some s)

-- each of a row's three words passes
abbrev pub Each : (Field → ℕ → Type 0) → Words → Layout → Type 0
Each Q w l = Q l.a w.a × Q l.b w.b × Q l.c w.c

-- one of them does
abbrev pub Any : (Field → ℕ → Type 0) → Words → Layout → Type 0
Any Q w l = Q l.a w.a ⊎ Q l.b w.b ⊎ Q l.c w.c

-- each of the three words passes, where the row's kind says what they stand for
abbrev pub OfRow : (Field → ℕ → Type 0) → Words → Type 0
OfRow Q w = IfSome (layout_of w.kind) (Each Q w)

abbrev pub Yes : List ℕ → Refusal → Type 0
Yes table no.Length = (length table % 4 ≡ 0) × (4 ≤ length table) × (length table ≤ 16384)
Yes table (no.Kind p) = (words_at table p).kind ≤ 11
Yes table (no.Unused p) = OfRow Clear (words_at table p)
Yes table (no.Range p) = OfRow InRange (words_at table p)
Yes table (no.Forward p) = OfRow (Lower p) (words_at table p)
Yes table (no.Mismatch p) = OfRow (Sorted table) (words_at table p)
Yes table (no.NotCommand p) = sort_at table p ≡ Some Command

-- the questions that there are for a table: 2 to 6 of each row, 7 of the last
abbrev pub Asked : List ℕ → Refusal → Type 0
Asked table no.Length = Unit {0}
Asked table (no.Kind p) = p < rows table
Asked table (no.Unused p) = p < rows table
Asked table (no.Range p) = p < rows table
Asked table (no.Forward p) = p < rows table
Asked table (no.Mismatch p) = p < rows table
Asked table (no.NotCommand p) = p + 1 ≡ rows table

-- when it is asked: 1 first, then 2 to 6 row by row, 7 after them all
abbrev pub turn : Refusal → ℕ
turn e = row_of e * 5 + number_of e

-- every question that there is gets a yes
abbrev pub Loaded : List ℕ → Type 0
Loaded table = (e : Refusal) → Asked table e → Yes table e

-- this one gets a no, and each that is asked before it a yes
pub record FirstNo (table : List ℕ) (e : Refusal) : Type 0 where
  pub asked : Asked table e
  pub answer : Yes table e → ⊥
  pub before : (d : Refusal) → Asked table d → turn d < turn e → Yes table d
