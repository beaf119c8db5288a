-- A text read as a list of numbers.
use Rattle.std.specs.Prelude.{◌≡◌, ℕ, List, [], ◌∷◌, ◌++◌, map}
use Rattle.std.specs.List.{AllByRecursion}
use Rattle.fields.specs.declared.read.ReadError.{ReadError}
use Rattle.fields.specs.declared.read.ReadError.TheVariants.{NoNumber, Memory}
use Rattle.fields.specs.declared.span.Span.{Span}
use Rattle.fields.specs.Numbers.{Word, number_of}
use Rattle.fields.specs.Spans.{Next, InTurn, FieldsOf, reached, bytes_of}

-- each field is a number that fits 32 bits
abbrev pub Words : List ℕ → List Span → Type 0
Words text fs = AllByRecursion (λ f. Word (bytes_of text f)) fs

-- the numbers that the fields write
abbrev pub values_of : List ℕ → List Span → List ℕ
values_of text fs = map (λ f. number_of (bytes_of text f)) fs

-- the numbers are those that the text's fields write, all of them and in order
pub record Values (text : List ℕ) (vs : List ℕ) : Type 0 where
  pub fields : List Span
  pub all : FieldsOf text fields
  -- the text has no other list of fields
  pub sole : (gs : List Span) → FieldsOf text gs → gs ≡ fields
  pub words : Words text fields
  pub same : vs ≡ values_of text fields

-- this field of the text is no number that fits 32 bits, and each one before it is
pub record FirstBad (text : List ℕ) (f : Span) : Type 0 where
  pub before : List Span
  pub turn : InTurn text 0 before
  pub next : Next text (reached 0 before) f
  -- whatever the fields of the text are, they begin so
  pub begins : (gs : List Span) → FieldsOf text gs → (rest : List Span) × (gs ≡ (before ++ f ∷ []) ++ rest)
  pub words : Words text before
  pub bad : Word (bytes_of text f) → ⊥

-- why reading stops; it says nothing of when memory is wanting
abbrev pub Stops : List ℕ → ReadError → Type 0
Stops text (NoNumber f) = FirstBad text f
Stops text Memory = Unit {0}
