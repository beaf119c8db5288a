-- The rows that a row names, each with the sort that is asked of it.
use Rattle.std.specs.Prelude.{◌≡◌, ℕ, ◌<◌, List, Some}
use Rattle.rows.specs.declared.row.Sort.{Sort}
use Rattle.rows.specs.declared.row.Sort.TheVariants.{Integer, Boolean, Command}
use Rattle.rows.specs.declared.row.Row.{Row}
use Rattle.rows.specs.declared.row.Row.TheVariants as row
use Rattle.rows.specs.Rows.{row_at, sort_of}

-- Q holds of each part, with its sort
abbrev pub EachPart : (Sort → ℕ → Type 0) → Row → Type 0
EachPart Q (row.Number n) = Unit {0}
EachPart Q (row.Contents l) = Unit {0}
EachPart Q (row.Arithmetic o x y) = Q Integer x × Q Integer y
EachPart Q (row.Truth t) = Unit {0}
EachPart Q (row.Comparison r x y) = Q Integer x × Q Integer y
EachPart Q (row.Not x) = Q Boolean x
EachPart Q (row.And x y) = Q Boolean x × Q Boolean y
EachPart Q row.Skip = Unit {0}
EachPart Q (row.Assignment l x) = Q Integer x
EachPart Q (row.Sequence x y) = Q Command x × Q Command y
EachPart Q (row.Choice b x y) = Q Boolean b × Q Command x × Q Command y
EachPart Q (row.Loop b x) = Q Boolean b × Q Command x

-- the table has a row x, and it is of that sort
abbrev pub HasSort : List ℕ → Sort → ℕ → Type 0
HasSort table s x = (r : Row) × (row_at table x ≡ Some r) × (sort_of r ≡ s)

-- each row that the row p names lies below it and is of the sort that is asked
abbrev pub SoundParts : List ℕ → ℕ → Row → Type 0
SoundParts table p = EachPart (λ s x. (x < p) × HasSort table s x)
