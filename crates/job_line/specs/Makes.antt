-- The make of a board's store, as a word writes it.
use Rattle.std.specs.Prelude.{◌≡◌, ℕ, ◌<◌, ◌⊎◌, List, ◌∷◌, ◌++◌, codes, ◌≢◌}
use Rattle.fields.specs.Numbers.{Word, number_of}
use Rattle.job_line.specs.Splits.{Lacks, Parted}
use Rattle.job_line.specs.declared.make.Kind.{Kind}
use Rattle.job_line.specs.declared.make.Make.{Make}
use Rattle.job_line.specs.declared.wrong.Wrong.{Wrong}
use Rattle.job_line.specs.declared.wrong.Wrong.TheVariants.{UnknownMake, BadParameters}

-- digits that write a number from 0 to 255
abbrev pub Byte : List ℕ → Type 0
Byte w = Word w × (number_of w < 256)

-- two such numbers, with a colon between them
abbrev pub FromTo : List ℕ → ℕ → ℕ → Type 0
FromTo p a b = (x : List ℕ) × (y : List ℕ) × (p ≡ x ++ 58 ∷ y) × Byte x × Byte y × (a ≡ number_of x) × (b ≡ number_of y)

abbrev pub name_of : Kind → List ℕ
name_of Kind.Sheet = codes "sheet"
name_of Kind.Cover = codes "cover"
name_of Kind.Neighbours = codes "neighbours"
name_of Kind.Pairs = codes "pairs"

-- the word is a name alone, or a name, a colon and its parameters
abbrev pub Writes : List ℕ → Make → Type 0
Writes w Make.Sheet = w ≡ codes "sheet"
Writes w Make.Pairs = w ≡ codes "pairs"
Writes w (Make.Cover a b) = (p : List ℕ) × (w ≡ codes "cover" ++ 58 ∷ p) × FromTo p a b
Writes w (Make.Neighbours n) = (p : List ℕ) × (w ≡ codes "neighbours" ++ 58 ∷ p) × Byte p × (n ≡ number_of p)

-- it is the name of no make
pub record Unnamed (n : List ℕ) (e : Wrong) : Type 0 where
  pub told : e ≡ UnknownMake
  pub none : (k : Kind) → n ≢ name_of k

-- it writes no make
pub record Unmade (w : List ℕ) (e : Wrong) : Type 0 where
  pub told : e ≡ BadParameters
  pub none : (m : Make) → Writes w m → ⊥

-- the name ends at the first colon, or with the word
abbrev pub Named : List ℕ → List ℕ → Type 0
Named w n = (Lacks 58 w × (n ≡ w)) ⊎ ((p : List ℕ) × Parted 58 w n p)

-- Why a word is refused: its name is unknown, or the name is that of a make, and yet the word writes none.
abbrev pub RefusesMake : List ℕ → Wrong → Type 0
RefusesMake w e = (n : List ℕ) × Named w n × (Unnamed n e ⊎ (((k : Kind) × (n ≡ name_of k)) × Unmade w e))
