-- The message for a word that is no number.
use Rattle.std.specs.Prelude.{◌≡◌, ℕ, ◌+◌, ◌/◌, ◌%◌, Bool, cond, not, ◌&&◌, List, [], ◌∷◌, ◌++◌, length, take, codes, decimal, ◌==◌, nat_le, nat_lt}
use Rattle.std.specs.List.{flat_map}
use Rattle.fields.specs.declared.place.Place.{Place}
use Rattle.fields.specs.declared.span.Span.{Span}
use Rattle.fields.specs.Places.{AtPlace}
use Rattle.fields.specs.Spans.{bytes_of}

-- 0 to 9, then a to f
abbrev pub hex_digit : ℕ → ℕ
hex_digit n = cond (nat_lt n 10) (48 + n) (87 + n)

-- a byte that prints stands for itself, but for the backslash, which begins a code
abbrev pub plain : ℕ → Bool
plain b = nat_le 33 b && (nat_le b 126 && not (b == 92))

-- a backslash, an x and two hexadecimal digits
abbrev pub code_of : ℕ → List ℕ
code_of b = 92 ∷ 120 ∷ hex_digit (b / 16) ∷ hex_digit (b % 16) ∷ []

abbrev pub shown_byte : ℕ → List ℕ
shown_byte b = cond (plain b) (b ∷ []) (code_of b)

-- a long word is cut after 32 bytes
abbrev pub shortened : List ℕ → List ℕ
shortened word = cond (nat_le (length word) 32) (flat_map shown_byte word) (flat_map shown_byte (take 32 word) ++ codes "...")

abbrev pub complaint_of : Place → List ℕ → List ℕ
complaint_of p word = codes "line " ++ (decimal p.line ++ (codes ", column " ++ (decimal p.column ++ (codes ": " ++ (word ++ codes " is no 32-bit number")))))

-- the message names the line and the column where the field begins, and shows its bytes
pub record Complains (text : List ℕ) (f : Span) (message : List ℕ) : Type 0 where
  pub place : Place
  pub here : AtPlace text f.start place
  pub told : message ≡ complaint_of place (shortened (bytes_of text f))
