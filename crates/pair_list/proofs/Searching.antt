-- The search for a location's pair.
use Rattle.std.proofs.Common.{◌≡◌, ℕ, zero, suc, ◌+◌, ◌*◌, ◌<◌, ◌≤◌, Bool, true, false, List, [], ◌∷◌, length, get_or, ℤ, pos, Some, None, Option, MatchOption, IsTrue, IsSomeAnd, IfSome, refl, ap, ◌∙◌, sym, subst, inl, inr, arith}
use Rattle.std.specs.Option.{option_map}
use Rattle.std.specs.Fn.{Called}
use Rattle.std.specs.List.{IsSubsliceAt}
use Rattle.std.specs.Iterator.Runs.{Run, AllItemsGive, IsFirstToGive, CallKeepsClosure, ItemsMapToExactChunks}
use Rattle.std.proofs.iter.runs.Made.{at-is}
use Rattle.std.proofs.lemmas.Option.{slice_get_cases}
use denote.Ref.{Bor}
use denote.Param.Members.{Mut}
use Rattle.pair_list.specs.Pairs.{names, place}

-- the word that begins pair k names l
abbrev pub begins : List ℤ → ℕ → ℕ → Bool
begins ws l k = names (get_or ws (k * 2) (pos 0)) l

later : (a n : ℤ) (ws : List ℤ) (l k : ℕ) → begins (a ∷ n ∷ ws) l (suc k) ≡ begins ws l k
later a n ws l k = let two : suc k * 2 ≡ suc (suc (k * 2)) = omega arith in ap (λ i. names (get_or (a ∷ n ∷ ws) i (pos 0)) l) two

none_place : (l : ℕ) (ws : List ℤ) → ((k : ℕ) → k * 2 + 1 < length ws → begins ws l k ≡ false) → place ws l ≡ None
none_place l [] miss = refl
none_place l (a ∷ []) miss = refl
none_place l (a ∷ n ∷ ws) miss = rw (miss 0 (omega arith)) (ap (option_map (λ i. suc (suc i))) (none_place l ws (λ k low. sym (later a n ws l k) ∙ miss (suc k) (omega arith))))

first_place : (l : ℕ) (ws : List ℤ) (i : ℕ) → i * 2 + 1 < length ws → begins ws l i ≡ true → ((k : ℕ) → k < i → begins ws l k ≡ false) → place ws l ≡ Some (2 * i + 1)
first_place l [] i low hit miss = absurd (omega arith)
first_place l (a ∷ []) i low hit miss = absurd (omega arith)
first_place l (a ∷ n ∷ ws) zero low hit miss = rw hit
first_place l (a ∷ n ∷ ws) (suc i) low hit miss =
    let more : suc (suc (2 * i + 1)) ≡ 2 * suc i + 1 = omega arith in
    let rest = first_place l ws i (omega arith) (sym (later a n ws l i) ∙ hit) (λ k below. sym (later a n ws l k) ∙ miss (suc k) (omega arith)) in
    rw (miss 0 (omega arith)) (ap (option_map (λ j. suc (suc j))) rest ∙ ap Some more)

module _ {S : Type 0} {steps : S → Option (Bor (List ℤ)) → S → Type 0} (p : Run steps) (ws : List ℤ) (l : ℕ) (pairs : ItemsMapToExactChunks p (λ x. x.now) 2 ws)
    {F : Type 0} (g : Mut F (Bor (List ℤ) × Unit {0}) Bool) (f : F) (keeps : CallKeepsClosure g f)
    (tells : (x : Bor (List ℤ)) (r : Bool) → Called g f (x, tt) r f → r ≡ names (get_or x.now 0 (pos 0)) l) where
  item : (k : ℕ) → k < p.len → (x : Bor (List ℤ)) × (p.at k ≡ Some x)
  item k low = elim ((slice_get_cases p.items k).1) [ inl h ↦ (h.0, at-is p k ∙ h.2) | inr h ↦ absurd (omega (arith, p.long, h.0)) ]

  -- what the closure answered at place k is whether that pair's word names l
  answered : (k : ℕ) (r : Bool) (x : Bor (List ℤ)) → p.at k ≡ Some x → Called g f (x, tt) r f → (k * 2 + 1 < length ws) × (begins ws l k ≡ r)
  answered k r x at called =
      let chunk = subst (λ o. IfSome o (λ (x : Bor (List ℤ)). (length x.now ≡ 2) × (k * 2 + 2 ≤ length ws) × IsSubsliceAt 2 ws (k * 2) x.now)) at (pairs.2 k) in
      let word : get_or x.now 0 (pos 0) ≡ get_or ws (k * 2 + 0) (pos 0) = chunk.2.2 0 (pos 0) (omega arith) in
      let place : k * 2 + 0 ≡ k * 2 = omega arith in
      (omega (arith, chunk.1), ap (λ i. names (get_or ws i (pos 0)) l) (sym place) ∙ ap (λ w. names w l) (sym word) ∙ sym (tells x r called))

  -- the place of the pair that the search found
  pub pair_found : (r : Option ℕ) → MatchOption r (IsTrue p.whole × AllItemsGive p g f false) (λ i. (p.len ≡ i + 1) × IsFirstToGive p g f true false i) → option_map (λ k. 2 * k + 1) r ≡ place ws l
  pair_found None h = sym (none_place l ws (λ k low.
      let x = item k (omega (arith, pairs.1 h.0)) in
      (answered k false x.0 x.1 (subst (λ o. IfSome o (λ y. Called g f (y, tt) false f)) x.1 (h.1 keeps k))).1))
  pair_found (Some i) h =
      let first = h.1 keeps in
      let x = item i (omega arith) in
      let hit = answered i true x.0 x.1 (subst (λ o. IsSomeAnd o (λ y. Called g f (y, tt) true f)) x.1 first.0) in
      sym (first_place l ws i hit.0 hit.1 (λ k below.
      let y = item k (omega arith) in
      (answered k false y.0 y.1 (subst (λ o. IsSomeAnd o (λ z. Called g f (z, tt) false f)) y.1 (first.1 k below))).1))
