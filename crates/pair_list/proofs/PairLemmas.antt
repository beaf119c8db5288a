-- Writing a number in a list of pairs.
use Rattle.std.proofs.Common.{◌≡◌, ℕ, suc, ◌<◌, Bool, true, false, cond, List, [], ◌∷◌, length, set, ℤ, pos, negsuc, Some, None, Option, refl, arith, rules}
use Rattle.std.proofs.lemmas.Bool.Decides.{nat_tests}
use Rattle.std.specs.Option.{option_map}
use Rattle.pair_list.specs.Pairs.{names, place, pair_cells}
use Rattle.cells.specs.Putting.{accepts, put_left}

-- a word names one location at most
names_one : (a : ℤ) (k l : ℕ) → names a l ≡ true → names a k ≡ true → k ≡ l
names_one (pos m) k l p q = grind (arith, nat_tests)
names_one (negsuc m) k l p q = cc

-- a place lies in the list
place_inside : (l : ℕ) (ws : List ℤ) (i : ℕ) → place ws l ≡ Some i → i < length ws
place_inside l [] i e = cc
place_inside l (a ∷ []) i e = cc
place_inside l (a ∷ n ∷ ws) i e = let more = place_inside l ws in search rules

-- a place is one location's
place_one : (k l : ℕ) (ws : List ℤ) (i : ℕ) → place ws l ≡ Some i → place ws k ≡ Some i → k ≡ l
place_one k l [] i e f = cc
place_one k l (a ∷ []) i e f = cc
place_one k l (a ∷ n ∷ ws) i e f = let more = place_one k l ws in let word = names_one a k l in search rules

module _ (l : ℕ) (n : ℤ) (k : ℕ) where
  kept_if :
      (b : Bool) (a m : ℤ) (ws : List ℤ) (o : Option ℕ) →
      ((j : ℕ) → o ≡ Some j → place (set ws j n) k ≡ place ws k) →
      (i : ℕ) → cond b (Some 1) (option_map (λ j. suc (suc j)) o) ≡ Some i →
      place (set (a ∷ m ∷ ws) i n) k ≡ place (a ∷ m ∷ ws) k
  kept_if true a m ws o more i e = search rules
  kept_if false a m ws None more i e = cc
  kept_if false a m ws (Some j) more i e = search (rules, more j refl)

  -- writing a number moves no place
  place_kept : (ws : List ℤ) (i : ℕ) → place ws l ≡ Some i → place (set ws i n) k ≡ place ws k
  place_kept [] i e = refl
  place_kept (a ∷ []) i e = cc
  place_kept (a ∷ m ∷ ws) i e = kept_if (names a l) a m ws (place ws l) (place_kept ws) i e

module _ (ws : List ℤ) (l i : ℕ) (at : place ws l ≡ Some i) (n : ℤ) where
  pub set_writes : l < 256 → accepts (pair_cells ws l) n ≡ true → pair_cells (set ws i n) l ≡ put_left (pair_cells ws l) n
  set_writes small ok = let kept = place_kept l n l ws i at in let inside = place_inside l ws i at in search rules

  pub set_spares : (k : ℕ) → (k ≡ l → ⊥) → pair_cells (set ws i n) k ≡ pair_cells ws k
  set_spares k ne = let kept = place_kept l n k ws i at in let one = place_one k l ws i at in search rules
