-- Small questions that are answered by computing: some proof, or none.
use Rattle.std.proofs.Common.{◌≡◌, ℕ, suc, ◌<◌, ◌≤◌, Bool, true, false, T, eqb, leb, ℤ, pos, negsuc, Some, None, Option, sym, refl, ap, subst, eqb→eq, leb→le}

abbrev pub both : {A B : Type 0} → Option A → Option B → Option (A × B)
both None b = None
both (Some a) None = None
both (Some a) (Some b) = Some (a, b)

abbrev pub so : {A B : Type 0} → (A → B) → Option A → Option B
so f None = None
so f (Some a) = Some (f a)

pub holds : (b t : Bool) → b ≡ t → T t → T b
holds b t q h = subst T (sym q) h

abbrev pub le_by : (m n : ℕ) (t : Bool) → leb m n ≡ t → Option (m ≤ n)
le_by m n true q = Some (leb→le m n (holds (leb m n) true q tt))
le_by m n false q = None

abbrev pub le? : (m n : ℕ) → Option (m ≤ n)
le? m n = le_by m n (leb m n) refl

abbrev pub lt? : (m n : ℕ) → Option (m < n)
lt? m n = le? (suc m) n

abbrev pub same_by : (m n : ℕ) (t : Bool) → eqb m n ≡ t → Option (m ≡ n)
same_by m n true q = Some (eqb→eq m n (holds (eqb m n) true q tt))
same_by m n false q = None

abbrev pub same? : (m n : ℕ) → Option (m ≡ n)
same? m n = same_by m n (eqb m n) refl

abbrev pub same_integer? : (a b : ℤ) → Option (a ≡ b)
same_integer? (pos m) (pos n) = so (ap pos) (same? m n)
same_integer? (pos m) (negsuc n) = None
same_integer? (negsuc m) (pos n) = None
same_integer? (negsuc m) (negsuc n) = so (ap negsuc) (same? m n)

abbrev pub is_there : {A : Type 0} → Option A → Bool
is_there None = false
is_there (Some a) = true

-- what was found
pub the : {A : Type 0} (o : Option A) → T (is_there o) → A
the None h = absurd h
the (Some a) h = a
