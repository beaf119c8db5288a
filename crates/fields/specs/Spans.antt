-- The fields of a text: its longest runs of bytes that are no white space, each named by where it starts and ends.
use Rattle.std.specs.Prelude.{ℕ, ◌-◌, ◌<◌, ◌≤◌, List, [], ◌∷◌, length, take, drop, slice_index}
use Rattle.fields.specs.declared.span.Span.{Span}
use Rattle.fields.specs.Blanks.{Blank, BlankBetween, SolidBetween}

-- f is the first field that begins at an offset or after it
pub record Next (text : List ℕ) (from : ℕ) (f : Span) : Type 0 where
  -- it has a byte at least, and lies in the text
  pub order : (from ≤ f.start) × (f.start < f.end) × (f.end ≤ length text)
  -- nothing but white space is passed over
  pub passed : BlankBetween text from f.start
  -- it has none in it
  pub solid : SolidBetween text f.start f.end
  -- and the text ends there, or white space follows
  pub closed : f.end < length text → Blank (slice_index text f.end)

-- only white space follows
abbrev pub NoMore : List ℕ → ℕ → Type 0
NoMore text from = BlankBetween text from (length text)

-- the fields follow each other in the text, from an offset on, with none left out between them
abbrev pub InTurn : List ℕ → ℕ → List Span → Type 0
InTurn text from [] = Unit {0}
InTurn text from (f ∷ fs) = Next text from f × InTurn text f.end fs

-- where the last of them ends; the offset itself where there are none
abbrev pub reached : ℕ → List Span → ℕ
reached from [] = from
reached from (f ∷ fs) = reached f.end fs

-- the fields of the text: all that there are, in their order
abbrev pub FieldsOf : List ℕ → List Span → Type 0
FieldsOf text fs = InTurn text 0 fs × NoMore text (reached 0 fs)

-- the bytes of a field
abbrev pub bytes_of : List ℕ → Span → List ℕ
bytes_of text f = take (f.end - f.start) (drop f.start text)
