-- The numbers that bytes write in decimal digits.
use Rattle.std.specs.Prelude.{ℕ, ◌+◌, ◌-◌, ◌*◌, ◌^◌, ◌<◌, ◌≤◌, List, [], ◌∷◌, length}

-- the digits 0 to 9 are the bytes 48 to 57
abbrev pub Digit : ℕ → Type 0
Digit c = (48 ≤ c) × (c ≤ 57)

abbrev pub Digits : List ℕ → Type 0
Digits [] = Unit {0}
Digits (c ∷ cs) = Digit c × Digits cs

-- the number that digits write: each counts ten times as much as the one after it
abbrev pub number_of : List ℕ → ℕ
number_of [] = 0
number_of (c ∷ cs) = (c - 48) * 10 ^ length cs + number_of cs

-- one digit or more, and the number fits 32 bits
abbrev pub Word : List ℕ → Type 0
Word bytes = (0 < length bytes) × Digits bytes × (number_of bytes < 2 ^ 32)
