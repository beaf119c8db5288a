-- The neighbours: the cells of two stores, parted at a location s.
use Rattle.std.specs.Prelude.{ℕ, ◌-◌, cond, ℤ, nat_lt}
use Rattle.cells.specs.declared.cell.Cell.{Cell}
use Rattle.cells.specs.Cells.{Lawful, Bounded, at_locations}
use Rattle.cells.specs.Putting.{after_put}
use Rattle.cells.specs.Meets.{either_lawful, located_lawful, located_bounded}

-- below s the first's cell, from s on the second's, counted from s
abbrev pub parted : ℕ → (ℕ → Cell) → (ℕ → Cell) → ℕ → Cell
parted s a b k = cond (nat_lt k s) (a k) (b (k - s))

abbrev pub side_by_side : ℕ → (ℕ → Cell) → (ℕ → Cell) → ℕ → Cell
side_by_side s a b = at_locations (parted s a b)

-- the cells of the two stores, after a put of n at l: one of them has it, the other is left alone
abbrev pub first_after : ℕ → (ℕ → Cell) → ℕ → ℤ → ℕ → Cell
first_after s a l n k = cond (nat_lt l s) (after_put a l n k) (a k)

abbrev pub second_after : ℕ → (ℕ → Cell) → ℕ → ℤ → ℕ → Cell
second_after s b l n k = cond (nat_lt l s) (b k) (after_put b (l - s) n k)

pub side_lawful :
    (s : ℕ) (a b : ℕ → Cell) → ((k : ℕ) → Lawful (a k)) → ((k : ℕ) → Lawful (b k)) →
    (k : ℕ) → Lawful (side_by_side s a b k)
side_lawful s a b p q k = located_lawful (parted s a b) k (either_lawful (nat_lt k s) (a k) (b (k - s)) (p k) (q (k - s)))

pub side_bounded : (s : ℕ) (a b : ℕ → Cell) → Bounded (side_by_side s a b)
side_bounded s a b = located_bounded (parted s a b)
