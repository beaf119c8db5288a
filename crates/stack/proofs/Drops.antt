-- What stands past the top of a stack.
use Rattle.std.proofs.Common.{◌≡◌, ℕ, ◌+◌, List, [], ◌∷◌, drop, sym, refl, ◌∙◌}
use Rattle.std.proofs.lemmas.List.{drop-drop}
use Rattle.stack.specs.Contents.{rest}

module _ {T : Type 0} where
  past_first : (xs : List T) → drop 1 xs ≡ rest xs
  past_first [] = refl
  past_first (x ∷ xs) = refl

  -- past the topmost item
  pub rest_past : (i : ℕ) (xs : List T) → drop (i + 1) xs ≡ rest (drop i xs)
  rest_past i xs = sym (drop-drop 1 i xs) ∙ past_first (drop i xs)
