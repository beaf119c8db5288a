-- Lines and columns of a text.
use Rattle.std.specs.Prelude.{◌≡◌, ℕ, ◌+◌, ◌-◌, ◌<◌, ◌≤◌, min, List, length, take, count_by, ◌≢◌, nat_eq, slice_index}
use Rattle.fields.specs.declared.place.Place.{Place}

-- how many line feeds there are
abbrev pub feeds : List ℕ → ℕ
feeds text = count_by (λ b. nat_eq b 10) text

-- the last line of the text begins there: at the start or after a line feed, and no line feed follows
pub record BeginsLine (text : List ℕ) (begin : ℕ) : Type 0 where
  pub within : begin ≤ length text
  pub after : 0 < begin → slice_index text (begin - 1) ≡ 10
  pub last : (k : ℕ) → begin ≤ k → k < length text → slice_index text k ≢ 10

-- the bytes before an offset; all of them where it lies past the end
abbrev pub before : List ℕ → ℕ → List ℕ
before text offset = take (min offset (length text)) text

-- The line's number is one more than the line feeds before the offset,
-- and the column one more than the bytes between the line's beginning and the offset.
pub record AtPlace (text : List ℕ) (offset : ℕ) (p : Place) : Type 0 where
  pub line : p.line ≡ feeds (before text offset) + 1
  pub column : (begin : ℕ) × BeginsLine (before text offset) begin × (p.column + begin ≡ length (before text offset) + 1)
