-- The make of a board's store, as it is printed.
use Rattle.std.specs.Prelude.{ℕ, ◌<◌, List, ◌++◌, codes, decimal}
use Rattle.std.proofs.Common.{refl, sym, arith}
use Rattle.fields.proofs.Decimals.{number_of-decimal, word_decimal}
use Rattle.job_line.specs.declared.make.Make.{Make}
use Rattle.job_line.specs.Makes.{Byte, Writes}

abbrev pub text_of : Make → List ℕ
text_of Make.Sheet = codes "sheet"
text_of (Make.Cover a b) = codes "cover:" ++ (decimal a ++ (codes ":" ++ decimal b))
text_of (Make.Neighbours n) = codes "neighbours:" ++ decimal n
text_of Make.Pairs = codes "pairs"

-- its parameters are locations
abbrev pub Located : Make → Type 0
Located Make.Sheet = Unit {0}
Located (Make.Cover a b) = (a < 256) × (b < 256)
Located (Make.Neighbours n) = n < 256
Located Make.Pairs = Unit {0}

byte_decimal : (n : ℕ) → n < 256 → Byte (decimal n)
byte_decimal n h = (word_decimal n (omega arith), omega (arith, number_of-decimal n (omega arith)))

-- what is printed is a word that writes the make
pub text_writes : (m : Make) → Located m → Writes (text_of m) m
text_writes Make.Sheet h = refl
text_writes Make.Pairs h = refl
text_writes (Make.Cover a b) h = (
  decimal a ++ (codes ":" ++ decimal b),
  refl,
  (decimal a, decimal b, refl, byte_decimal a h.0, byte_decimal b h.1, sym (number_of-decimal a (omega arith)), sym (number_of-decimal b (omega arith))),
)
text_writes (Make.Neighbours n) h = (decimal n, refl, byte_decimal n h, sym (number_of-decimal n (omega arith)))

abbrev pub MakesPrintAsWritten : Type 0
MakesPrintAsWritten = (m : Make) → Located m → Writes (text_of m) m
