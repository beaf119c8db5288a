-- Reading a number digit by digit: the number so far, and the digits that are left.
use Rattle.std.proofs.Common.{◌≡◌, ℕ, suc, ◌+◌, ◌-◌, ◌*◌, ◌^◌, ◌<◌, List, ◌∷◌, length, sym, ap, mul_assoc, add-mul, le-mul_of_pos_right, arith}
use native.Mathlib.Nat.{pow-succ', one-le-pow}
use Rattle.fields.specs.Numbers.{Digit, Digits, number_of}

-- the number so far and the digits that are left write the whole, and what was read were digits
pub record Leftover (n : ℕ) (rest whole : List ℕ) : Type 0 where
  pub value : n * 10 ^ length rest + number_of rest ≡ number_of whole
  pub back : Digits rest → Digits whole
  pub on : Digits whole → Digits rest
  pub small : n < 2 ^ 32

-- the weight of the number so far falls by ten, and the digit's is its own
weigh : (n d k : ℕ) → n * 10 ^ suc k + d * 10 ^ k ≡ (n * 10 + d) * 10 ^ k
weigh n d k = rw pow-succ' (rw add-mul (ap (λ x. x + d * 10 ^ k) (sym (mul_assoc n 10 (10 ^ k)))))

module _ {n c : ℕ} {cs whole : List ℕ} (left : Leftover n (c ∷ cs) whole) where
  next_value : (n * 10 + (c - 48)) * 10 ^ length cs + number_of cs ≡ number_of whole
  next_value = omega (arith, left.value, weigh n (c - 48) (length cs))

  pub left_more : Digit c × (n * 10 + (c - 48) < 2 ^ 32) → Leftover (n * 10 + (c - 48)) cs whole
  left_more d = record { value = next_value; back = λ h. left.back (d.0, h); on = λ h. (left.on h).1; small = d.1 }

  -- the number can only grow
  pub left_refused : (Digit c × (n * 10 + (c - 48) < 2 ^ 32) → ⊥) → Digits whole × (number_of whole < 2 ^ 32) → ⊥
  left_refused never h =
      never ((left.on h.0).0, omega (arith, h.1, next_value, le-mul_of_pos_right (n * 10 + (c - 48)) (one-le-pow (length cs) 10 (omega arith))))
