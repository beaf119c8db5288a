-- The words of a line.
use Rattle.std.specs.Prelude.{◌≡◌, ℕ, ◌-◌, ◌<◌, ◌≤◌, ◌⊎◌, List, map, length, take, slice_index, slice_index_or}
use Rattle.std.specs.Borrow.{Bor}
use Rattle.std.specs.List.{AllByRecursion}
use Rattle.fields.specs.declared.span.Span.{Span}
use Rattle.fields.specs.Blanks.{Blank}
use Rattle.fields.specs.Spans.{FieldsOf, bytes_of}
use Rattle.job_line.specs.declared.wrong.Wrong.{Wrong}
use Rattle.job_line.specs.declared.wrong.Wrong.TheVariants.{BadByte, Missing, TooMany, Memory}

-- what the references point to
abbrev pub texts : List (Bor (List ℕ)) → List (List ℕ)
texts ws = map (λ w. w.now) ws

-- a byte that a line may have outside of comments: space to tilde, the tab and the carriage return
abbrev pub Plain : ℕ → Type 0
Plain b = ((32 ≤ b) × (b ≤ 126)) ⊎ (b ≡ 9) ⊎ (b ≡ 13)

-- a comment can begin there: a number sign, and either the line begins with it or a blank stands before it
pub record MarksComment (line : List ℕ) (k : ℕ) : Type 0 where
  pub sign : slice_index_or line k 0 ≡ 35
  pub begins : 0 < k → Blank (slice_index line (k - 1))

-- the first place where a comment can begin, or the line's end where there is none
pub record CodeEnds (line : List ℕ) (r : ℕ) : Type 0 where
  pub within : r ≤ length line
  pub comment : r < length line → MarksComment line r
  pub none : (k : ℕ) → k < r → MarksComment line k → ⊥

-- what stands before the comment
abbrev pub CodeOf : List ℕ → List ℕ → Type 0
CodeOf line code = (end : ℕ) × CodeEnds line end × (code ≡ take end line)

-- the bytes of the text's fields, of which there is one list
pub record WordsOf (text : List ℕ) (ws : List (List ℕ)) : Type 0 where
  pub fields : List Span
  pub all : FieldsOf text fields
  pub sole : (gs : List Span) → FieldsOf text gs → gs ≡ fields
  pub same : ws ≡ map (bytes_of text) fields

-- the line's words: those of what stands before its comment, all of whose bytes are plain
pub record LineWords (line : List ℕ) (ws : List (List ℕ)) : Type 0 where
  pub code : List ℕ
  pub front : CodeOf line code
  pub plain : AllByRecursion Plain code
  pub words : WordsOf code ws

-- why a line is not cut into words; it says nothing of when memory is wanting
pub data RefusesWords (line : List ℕ) : Wrong → Type 0 where
  bad_byte : (code : List ℕ) → CodeOf line code → (AllByRecursion Plain code → ⊥) → RefusesWords line BadByte
  no_memory : RefusesWords line Memory

-- why so many words are not as many as are wanted
pub data Miscounted (have want : ℕ) : Wrong → Type 0 where
  few : have < want → Miscounted have want Missing
  many : want < have → Miscounted have want TooMany
