-- The numbers that bytes write in decimal digits with a sign.
use Rattle.std.specs.Prelude.{ℕ, ◌^◌, ◌<◌, ◌≤◌, Bool, cond, List, [], ◌∷◌, ℤ, pos, neg_ℤ, MatchBool, ◌==◌}
use Rattle.fields.specs.Numbers.{Word, number_of}

-- the minus sign
abbrev pub sign : ℕ → Bool
sign c = c == 45

-- digits, after a sign or none, and the number lies from - 2^31 up to 2^31 - 1
abbrev pub Integer : List ℕ → Type 0
Integer [] = ⊥
Integer (c ∷ cs) = MatchBool (sign c) (Word cs × (number_of cs ≤ 2 ^ 31)) (Word (c ∷ cs) × (number_of (c ∷ cs) < 2 ^ 31))

-- the number that they write; 0 for no bytes
abbrev pub integer_of : List ℕ → ℤ
integer_of [] = pos 0
integer_of (c ∷ cs) = cond (sign c) (neg_ℤ (pos (number_of cs))) (pos (number_of (c ∷ cs)))
