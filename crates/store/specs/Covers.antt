-- The cover: the cells of another store, those from f to t fixed.
use Rattle.std.specs.Prelude.{ℕ, Bool, cond, ◌&&◌, ℤ, nat_le}
use Rattle.cells.specs.declared.cell.Cell.{Cell}
use Rattle.cells.specs.declared.cell.Cell.TheVariants.{Unknown}
use Rattle.cells.specs.Cells.{Lawful, Bounded, fixed}
use Rattle.cells.specs.Putting.{after_put}
use Rattle.cells.specs.Meets.{either_lawful, fixed_lawful, either_same}

-- the location k lies from f to t, both included
abbrev pub covers : ℕ → ℕ → ℕ → Bool
covers f t k = nat_le f k && nat_le k t

abbrev pub covered : ℕ → ℕ → (ℕ → Cell) → ℕ → Cell
covered f t c k = cond (covers f t k) (fixed (c k)) (c k)

-- the cells of the store beneath, after a put of n at l: a covered location is not handed on
abbrev pub under_after : ℕ → ℕ → (ℕ → Cell) → ℕ → ℤ → ℕ → Cell
under_after f t c l n k = cond (covers f t l) (c k) (after_put c l n k)

pub covered_lawful : (f t : ℕ) (c : ℕ → Cell) → ((k : ℕ) → Lawful (c k)) → (k : ℕ) → Lawful (covered f t c k)
covered_lawful f t c p k = either_lawful (covers f t k) (fixed (c k)) (c k) (fixed_lawful (c k) (p k)) (p k)

pub covered_bounded : (f t : ℕ) (c : ℕ → Cell) → Bounded c → Bounded (covered f t c)
covered_bounded f t c p k h = rw (p k h) (either_same (covers f t k) Unknown)
