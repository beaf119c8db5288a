-- What a row's own operator finds on top of the results, where it finds what it should.
use Rattle.std.specs.Prelude.{ℕ, Bool, cond, ◌&&◌, List, [], ◌∷◌, drop, ℤ, Some, None, Option, ◌==◌, nat_eq}
use Rattle.semantics.specs.declared.item.Item.{Item}
use Rattle.semantics.specs.declared.item.Item.TheVariants as item

abbrev pub both : {A B : Type 0} → Option A → Option B → Option (A × B)
both None b = None
both (Some x) None = None
both (Some x) (Some y) = Some (x, y)

-- the first of two, where the second passes the test
abbrev pub first_if : {A B : Type 0} → (B → Bool) → Option (A × B) → Option A
first_if test None = None
first_if test (Some ab) = cond (test ab.1) (Some ab.0) None

-- the item, where it is of that kind
abbrev pub as_number : Item → Option ℤ
as_number (item.Number n) = Some n
as_number (item.Truth t) = None
as_number (item.Location l) = None
as_number (item.Row p) = None

abbrev pub as_truth : Item → Option Bool
as_truth (item.Number n) = None
as_truth (item.Truth t) = Some t
as_truth (item.Location l) = None
as_truth (item.Row p) = None

abbrev pub as_location : Item → Option ℕ
as_location (item.Number n) = None
as_location (item.Truth t) = None
as_location (item.Location l) = Some l
as_location (item.Row p) = None

abbrev pub as_row : Item → Option ℕ
as_row (item.Number n) = None
as_row (item.Truth t) = None
as_row (item.Location l) = None
as_row (item.Row p) = Some p

-- the topmost item, where there is one and it is of the kind
abbrev pub topmost : {A : Type 0} → (Item → Option A) → List Item → Option A
topmost kind [] = None
topmost kind (i ∷ r) = kind i

-- the two topmost, where both are
abbrev pub topmost_two : {A : Type 0} → (Item → Option A) → List Item → Option (A × A)
topmost_two kind r = both (topmost kind r) (topmost kind (drop 1 r))

abbrev pub number_for : ℕ → List Item → Option ℤ
number_for l r = first_if (λ k. nat_eq k l) (both (topmost as_number r) (topmost as_location (drop 1 r)))

-- the truth value of a condition, over the two rows that wait for it
abbrev pub decided : ℕ → ℕ → List Item → Option Bool
decided x y r =
    first_if (λ qs. (qs.0 == x) && qs.1 == y)
    (both (topmost as_truth r) (both (topmost as_row (drop 1 r)) (topmost as_row (drop 2 r))))
