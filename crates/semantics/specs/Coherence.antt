-- Control and results that belong together: every `Finish p` will find among the results what the row p has laid there.
-- It is asked from the top down, of whatever the items above will have left.
use Rattle.std.specs.Prelude.{◌≡◌, ℕ, Bool, List, [], ◌∷◌, ℤ, Some, None, Option}
use Rattle.rows.specs.declared.row.Sort.{Sort}
use Rattle.rows.specs.declared.row.Sort.TheVariants.{Integer, Boolean, Command}
use Rattle.rows.specs.declared.row.Row.{Row}
use Rattle.rows.specs.declared.row.Row.TheVariants as row
use Rattle.rows.specs.Rows.{sort_of}
use Rattle.semantics.specs.declared.item.Control.{Control}
use Rattle.semantics.specs.declared.item.Control.TheVariants.{Whole, Finish}
use Rattle.semantics.specs.declared.item.Item.{Item}
use Rattle.semantics.specs.declared.item.Item.TheVariants as item
use Rattle.semantics.specs.Machine.{Configuration, conf}

-- a row of that sort leaves on r what `Rest` asks for
abbrev pub Leaves : Sort → (List Item → Type 0) → List Item → Type 0
Leaves Integer Rest r = (a : ℤ) → Rest (item.Number a ∷ r)
Leaves Boolean Rest r = (t : Bool) → Rest (item.Truth t ∷ r)
Leaves Command Rest r = Rest r

abbrev pub BeforeWhole : Option Row → (List Item → Type 0) → List Item → Type 0
BeforeWhole None Rest r = ⊥
BeforeWhole (Some w) Rest r = Leaves (sort_of w) Rest r

-- what the row's own operator finds on the results, and what it then leaves
abbrev pub BeforeFinish : Option Row → (List Item → Type 0) → List Item → Type 0
BeforeFinish None Rest r = ⊥
BeforeFinish (Some (row.Number a)) Rest r = ⊥
BeforeFinish (Some (row.Contents l)) Rest r = ⊥
BeforeFinish (Some (row.Arithmetic o x y)) Rest r = (a : ℤ) × (b : ℤ) × (r₁ : List Item) × (r ≡ item.Number b ∷ item.Number a ∷ r₁) × Leaves Integer Rest r₁
BeforeFinish (Some (row.Truth t)) Rest r = ⊥
BeforeFinish (Some (row.Comparison o x y)) Rest r = (a : ℤ) × (b : ℤ) × (r₁ : List Item) × (r ≡ item.Number b ∷ item.Number a ∷ r₁) × Leaves Boolean Rest r₁
BeforeFinish (Some (row.Not x)) Rest r = (t : Bool) × (r₁ : List Item) × (r ≡ item.Truth t ∷ r₁) × Leaves Boolean Rest r₁
BeforeFinish (Some (row.And x y)) Rest r = (s : Bool) × (t : Bool) × (r₁ : List Item) × (r ≡ item.Truth t ∷ item.Truth s ∷ r₁) × Leaves Boolean Rest r₁
BeforeFinish (Some row.Skip) Rest r = ⊥
BeforeFinish (Some (row.Assignment l x)) Rest r = (a : ℤ) × (r₁ : List Item) × (r ≡ item.Number a ∷ item.Location l ∷ r₁) × Rest r₁
BeforeFinish (Some (row.Sequence x y)) Rest r = ⊥
BeforeFinish (Some (row.Choice b x y)) Rest r = (t : Bool) × (r₁ : List Item) × (r ≡ item.Truth t ∷ item.Row x ∷ item.Row y ∷ r₁) × Rest r₁
BeforeFinish (Some (row.Loop b x)) Rest r = (t : Bool) × (r₁ : List Item) × (r ≡ item.Truth t ∷ item.Row b ∷ item.Row x ∷ r₁) × Rest r₁

module _ (rows : ℕ → Option Row) where
  -- at the end nothing is left
  abbrev pub Belong : List Control → List Item → Type 0
  Belong [] r = r ≡ []
  Belong (Whole p ∷ c) r = BeforeWhole (rows p) (Belong c) r
  Belong (Finish p ∷ c) r = BeforeFinish (rows p) (Belong c) r

  abbrev pub Coherent : Configuration → Type 0
  Coherent (conf c r m) = Belong c r
