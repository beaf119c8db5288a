-- Items laid one after the other, from the last to the first.
use Rattle.std.proofs.Common.{◌≡◌, ℕ, suc, ◌+◌, ◌-◌, ◌<◌, ◌≤◌, List, [], ◌∷◌, ◌++◌, length, drop, set, ap, ◌∙◌, arith, length-append, append_assoc}
use Rattle.std.specs.List.{push}
use Rattle.std.proofs.lemmas.List.{drop-set, length-drop}

module _ {T : Type 0} where
  -- an item written just below the top stands on top
  pub laid : (xs : List T) (i : ℕ) (x : T) → 0 < i → i ≤ length xs → drop (i - 1) (set xs (i - 1) x) ≡ x ∷ drop i xs
  laid xs i x p h =
      let l : i - 1 < length xs = omega arith in
      let e : (i - 1) + 1 ≡ i = omega arith in
      drop-set xs (i - 1) x l ∙ ap (λ k. x ∷ drop k xs) e

  -- the last of those that are left comes before those that are done
  pub one_left : (all left left' done : List T) (h : T) → all ≡ left ++ done → left ≡ push left' h → all ≡ left' ++ (h ∷ done)
  one_left all left left' done h e q = e ∙ ap (λ l. l ++ done) q ∙ append_assoc left' (h ∷ []) done

  -- while one is left, there is room below the top
  pub room_left : (all left done old xs : List T) (i : ℕ) (h : T) → all ≡ left ++ (h ∷ done) → drop i xs ≡ done ++ old → i ≤ length xs →
      length all + length old ≤ length xs → 0 < i
  room_left all left done old xs i h e d w fits =
      let a : length all ≡ length left + suc (length done) = ap length e ∙ length-append left (h ∷ done) in
      let b : length (drop i xs) ≡ length done + length old = ap length d ∙ length-append done old in
      omega (arith, a, b, length-drop i xs, w, fits)
