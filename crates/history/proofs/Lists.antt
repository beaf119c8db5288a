-- A list of which one element after the other is replaced: what is done, and what is left.
use Rattle.std.proofs.Common.{◌≡◌, ℕ, suc, ◌+◌, ◌<◌, ◌≤◌, List, [], ◌∷◌, ◌++◌, length, get_or, take, drop, set, ◌∙◌, append_assoc, append-nil, add-one, arith as linear, take_all, drop-cons, take-suc-set, drop-set-lt}

module _ {A : Type 0} where
  pub all_done : (n : ℕ) (xs : List A) → length xs ≤ n → take n xs ++ [] ≡ xs
  all_done n xs le = append-nil (take n xs) ∙ take_all n xs le

  module _ (xs : List A) (i : ℕ) (y : A) (lt : i < length xs) where
    pub one_done : (ys : List A) → take (i + 1) (set xs i y) ++ ys ≡ take i xs ++ (y ∷ ys)
    one_done ys = rw (add-one, take-suc-set xs i y lt, append_assoc)

    pub one_left : (d : A) → drop i xs ≡ get_or xs i d ∷ drop (i + 1) (set xs i y)
    one_left d =
        let later : i < suc i = omega linear in
        rw (add-one, drop-set-lt (suc i) xs i y later) (drop-cons xs i d lt)
