-- Makes and their names.
use Rattle.std.proofs.Common.{◌≡◌, ℕ, List, ◌∷◌, ◌++◌, get_or, codes, Some, None, Option, MatchOption, MatchResult, refl, ap, subst, inl, inr, arith}
use Rattle.std.specs.Option.{ok_or}
use Rattle.job_line.specs.declared.make.Kind.{Kind}
use Rattle.job_line.specs.declared.make.Make.{Make}
use Rattle.job_line.specs.declared.wrong.Wrong.{Wrong}
use Rattle.job_line.specs.declared.wrong.Wrong.TheVariants.{BadParameters}
use Rattle.job_line.specs.Makes.{FromTo, name_of, Writes, Named, Unnamed, RefusesMake}
use Rattle.job_line.specs.Splits.{Lacks, Parted}
use Rattle.job_line.proofs.Covers.{NoParameters}

pub cover_written : (k : Kind) (p : List ℕ) (a b : ℕ) → k ≡ Kind.Cover → FromTo p a b → Writes (name_of k ++ 58 ∷ p) (Make.Cover a b)
cover_written k p a b e h = (p, ap (λ (x : Kind). name_of x ++ 58 ∷ p) e, h)

pub no_cover : (p : List ℕ) → NoParameters p → (m : Make) → Writes (codes "cover" ++ 58 ∷ p) m → ⊥
no_cover p never Make.Sheet h = let z : ◌≡◌ {A = ℕ} 0 1 = cc in omega arith
no_cover p never Make.Pairs h = let z : ◌≡◌ {A = ℕ} 0 1 = cc in omega arith
no_cover p never (Make.Neighbours n) h = omega (arith, ap (λ (w : List ℕ). get_or w 0 0) h.1)
no_cover p never (Make.Cover a b) h =
    let e = h.1 in
    let same : h.0 ≡ p = cc in
    never a b (subst (λ (q : List ℕ). FromTo q a b) same h.2)

-- a word that has a name and parameters, and one that has a name alone
pub with_parameters : {w n p : List ℕ} → Parted 58 w n p → Named w n
with_parameters {p = p} parted = inr (p, parted)

pub name_alone : {w : List ℕ} → Lacks 58 w → Named w w
name_alone lacks = inl (lacks, refl)

pub unnamed : {w n : List ℕ} {e : Wrong} → Named w n → Unnamed n e → RefusesMake w e
unnamed {n = n} named none = (n, named, inl none)

-- what is made of the kind that the name is of, where the word is so spelled
pub made : (w n spelled : List ℕ) (k : Kind) (o : Option Make) → Named w n → n ≡ name_of k → spelled ≡ w → MatchOption o ((m : Make) → Writes spelled m → ⊥) (Writes spelled) → MatchResult (ok_or o BadParameters) (Writes w) (RefusesMake w)
made w n spelled k None named is same none =
    (n, named, inr ((k, is), record { told = refl; none = subst (λ (x : List ℕ). (m : Make) → Writes x m → ⊥) same none }))
made w n spelled k (Some m) named is same writes = subst (λ (x : List ℕ). Writes x m) same writes
