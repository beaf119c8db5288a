-- Bytes cut in two at a byte: how, and that there is no other way.
use Rattle.std.proofs.Common.{◌≡◌, ◌≢◌, ℕ, zero, suc, ◌<◌, ◌≤◌, List, [], ◌∷◌, ◌++◌, length, get_or, take, refl, arith}
use Rattle.fields.specs.Numbers.{Digits}
use Rattle.job_line.specs.Splits.{Lacks}

-- no such byte stands before that place
pub lacks_before : (text : List ℕ) (i byte : ℕ) → i ≤ length text → ((k : ℕ) → k < i → get_or text k 0 ≢ byte) → Lacks byte (take i text)
lacks_before text zero byte within others = tt
lacks_before [] (suc i) byte within others = tt
lacks_before (c ∷ text) (suc i) byte within others = (others 0 (omega arith), lacks_before text i byte (omega arith) (λ k h. others (suc k) (omega arith)))

-- the byte is one of the whole's
pub lacks_none : (byte : ℕ) (front back : List ℕ) → Lacks byte (front ++ byte ∷ back) → ⊥
lacks_none byte [] back h = h.0 refl
lacks_none byte (c ∷ front) back h = lacks_none byte front back h.1

pub one_parting : (byte : ℕ) (a b x y : List ℕ) → a ++ byte ∷ b ≡ x ++ byte ∷ y → Lacks byte a → Lacks byte x → (a ≡ x) × (b ≡ y)
one_parting byte [] b [] y e p q = (refl, cc)
one_parting byte [] b (d ∷ x) y e p q = absurd (q.0 (cc))
one_parting byte (c ∷ a) b [] y e p q = absurd (p.0 (cc))
one_parting byte (c ∷ a) b (d ∷ x) y e p q =
    let tails : a ++ byte ∷ b ≡ x ++ byte ∷ y = cc in
    let more = one_parting byte a b x y tails p.1 q.1 in
    let front = more.0 in
    ((cc), more.1)

-- no digit is a colon
pub digits_lack : (w : List ℕ) → Digits w → Lacks 58 w
digits_lack [] h = tt
digits_lack (c ∷ cs) h = (λ e. omega (arith, e, h.0.1), digits_lack cs h.1)
