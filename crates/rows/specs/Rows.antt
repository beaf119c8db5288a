-- The words of a table's rows, and the rows that they spell.
use Rattle.std.specs.Prelude.{ℕ, ◌+◌, ◌-◌, ◌*◌, ◌/◌, Bool, true, false, cond, List, length, Some, None, Option, ◌==◌, nat_lt, slice_index}
use Rattle.std.specs.Int.{w32}
use Rattle.std.proofs.Common.{to_z}
use Rattle.std.specs.Option.{option_map}
use Rattle.rows.specs.declared.kind.Kind.{Kind}
use Rattle.rows.specs.declared.kind.Kind.TheVariants as kind
use Rattle.rows.specs.declared.row.Sort.{Sort}
use Rattle.rows.specs.declared.row.Sort.TheVariants.{Integer, Boolean, Command}
use Rattle.rows.specs.declared.row.Operator.{Operator}
use Rattle.rows.specs.declared.row.Operator.TheVariants.{Plus, Minus, Times, Over}
use Rattle.rows.specs.declared.row.Relation.{Relation}
use Rattle.rows.specs.declared.row.Relation.TheVariants.{Greater, Less, Equal}
use Rattle.rows.specs.declared.row.Row.{Row}
use Rattle.rows.specs.declared.row.Row.TheVariants as row
use Rattle.rows.specs.declared.words.Words.{Words}

-- the value where the number is the key, else what the other says
abbrev pub case : {A : Type 0} → ℕ → ℕ → A → A → A
case n key value other = cond (n == key) value other

-- how many whole rows the words make
abbrev pub rows : List ℕ → ℕ
rows table = length table / 4

abbrev pub last_row : List ℕ → ℕ
last_row table = rows table - 1

-- the words of the row that these four are
abbrev pub words_in : List ℕ → Words
words_in row = record { kind = slice_index row 0; a = slice_index row 1; b = slice_index row 2; c = slice_index row 3 }

-- the words of the row p
abbrev pub words_at : List ℕ → ℕ → Words
words_at table p =
    record {
      kind = slice_index table (p * 4);
      a = slice_index table (p * 4 + 1);
      b = slice_index table (p * 4 + 2);
      c = slice_index table (p * 4 + 3);
    }

abbrev pub words_of : List ℕ → ℕ → Option Words
words_of table p = cond (nat_lt p (rows table)) (Some (words_at table p)) None

-- what follows from a value, where there is one
abbrev pub then : {A B : Type 0} → Option A → (A → Option B) → Option B
then None f = None
then (Some x) f = f x

-- the kind of that number
abbrev pub kind_of : ℕ → Option Kind
kind_of n =
    case n 0 (Some kind.Number)
    (case n 1 (Some kind.Contents)
    (case n 2 (Some kind.Arithmetic)
    (case n 3 (Some kind.Truth)
    (case n 4 (Some kind.Comparison)
    (case n 5 (Some kind.Not)
    (case n 6 (Some kind.And)
    (case n 7 (Some kind.Skip)
    (case n 8 (Some kind.Assignment)
    (case n 9 (Some kind.Sequence)
    (case n 10 (Some kind.Choice)
    (case n 11 (Some kind.Loop) None)))))))))))

abbrev pub operator_of : ℕ → Option Operator
operator_of a = case a 0 (Some Plus) (case a 1 (Some Minus) (case a 2 (Some Times) (case a 3 (Some Over) None)))

abbrev pub relation_of : ℕ → Option Relation
relation_of a = case a 0 (Some Greater) (case a 1 (Some Less) (case a 2 (Some Equal) None))

abbrev pub truth_of : ℕ → Option Bool
truth_of a = case a 0 (Some false) (case a 1 (Some true) None)

-- the row where the location is one of the 256
abbrev pub located : ℕ → Row → Option Row
located l r = cond (nat_lt l 256) (Some r) None

-- the row that the words spell, read as a row of that kind
abbrev pub spelt : Words → Kind → Option Row
spelt w kind.Number = Some (row.Number (to_z w32 w.a))
spelt w kind.Contents = located w.a (row.Contents w.a)
spelt w kind.Arithmetic = option_map (λ o. row.Arithmetic o w.b w.c) (operator_of w.a)
spelt w kind.Truth = option_map row.Truth (truth_of w.a)
spelt w kind.Comparison = option_map (λ r. row.Comparison r w.b w.c) (relation_of w.a)
spelt w kind.Not = Some (row.Not w.a)
spelt w kind.And = Some (row.And w.a w.b)
spelt w kind.Skip = Some row.Skip
spelt w kind.Assignment = located w.a (row.Assignment w.a w.b)
spelt w kind.Sequence = Some (row.Sequence w.a w.b)
spelt w kind.Choice = Some (row.Choice w.a w.b w.c)
spelt w kind.Loop = Some (row.Loop w.a w.b)

-- the row that the words spell, where they spell one
abbrev pub decoded : Words → Option Row
decoded w = then (kind_of w.kind) (spelt w)

-- the row p of the table, where it has one and its words spell one
abbrev pub row_at : List ℕ → ℕ → Option Row
row_at table p = then (words_of table p) decoded

abbrev pub sort_of : Row → Sort
sort_of (row.Number n) = Integer
sort_of (row.Contents l) = Integer
sort_of (row.Arithmetic o x y) = Integer
sort_of (row.Truth t) = Boolean
sort_of (row.Comparison r x y) = Boolean
sort_of (row.Not x) = Boolean
sort_of (row.And x y) = Boolean
sort_of row.Skip = Command
sort_of (row.Assignment l x) = Command
sort_of (row.Sequence x y) = Command
sort_of (row.Choice b x y) = Command
sort_of (row.Loop b x) = Command

-- the sort of the row p, where there is one
unfoldable pub sort_at : List ℕ → ℕ → Option Sort
sort_at table p = option_map sort_of (row_at table p)
