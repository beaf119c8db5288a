-- The known cells of a store, from the lowest location up.
use Rattle.std.specs.Prelude.{◌≡◌, ℕ, ◌+◌, ◌<◌, ◌≤◌, Some, None, Option}
use Rattle.cells.specs.declared.cell.KnownCell.{KnownCell}
use Rattle.cells.specs.declared.cell.Cell.{Cell}
use Rattle.cells.specs.declared.cell.Cell.TheVariants.{Unknown, Known}

-- no location from m up to l, and without l, is known
abbrev pub NoneBetween : (ℕ → Cell) → ℕ → ℕ → Type 0
NoneBetween c m l = (k : ℕ) → m ≤ k → k < l → c k ≡ Unknown

-- the lowest known location from m on, with its cell; or none is known from m on
abbrev pub NextKnown : (ℕ → Cell) → ℕ → Option (ℕ × KnownCell) → Type 0
NextKnown c m None = (k : ℕ) → m ≤ k → c k ≡ Unknown
NextKnown c m (Some p) = (m ≤ p.0) × (c p.0 ≡ Known p.1) × NoneBetween c m p.0

-- the next search begins past what was found, or past all locations
abbrev pub GoesPast : Option (ℕ × KnownCell) → ℕ → Type 0
GoesPast None m = m ≡ 256
GoesPast (Some p) m = m ≡ p.0 + 1
