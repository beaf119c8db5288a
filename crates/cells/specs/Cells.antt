-- A cell, its parts, and the law that every cell of a store meets.
-- What a store stands for is a function from locations to cells, unknown past the 256.
use Rattle.std.specs.Prelude.{◌≡◌, ℕ, ◌<◌, ◌≤◌, Bool, true, cond, ◌&&◌, ℤ, pos, negsuc, int_le, nat_lt, Option, Some, None}
use Rattle.cells.specs.declared.cell.Mark.TheVariants.{Free, Fixed}
use Rattle.cells.specs.declared.cell.KnownCell.{KnownCell}
use Rattle.cells.specs.declared.cell.Cell.{Cell}
use Rattle.cells.specs.declared.cell.Cell.TheVariants.{Unknown, Known}

-- the number lies within the limits, both included
abbrev pub within : KnownCell → ℤ → Bool
within h n = int_le h.lowest n && int_le n h.highest

-- what the cell holds, if anything, lies within its limits
abbrev pub content_within : KnownCell → Option ℤ → Bool
content_within h None = true
content_within h (Some n) = within h n

-- the law of limits
abbrev pub Lawful : Cell → Type 0
Lawful Unknown = Unit {0}
Lawful (Known h) = content_within h h.content ≡ true

-- free, and with limits that every number of 32 bits lies within
abbrev pub widest : Option ℤ → KnownCell
widest v = record { lowest = negsuc 2147483647; highest = pos 2147483647; mark = Free; content = v }

-- the cell with another content, its limits and mark as they were
abbrev pub with_content : Cell → Option ℤ → Cell
with_content Unknown v = Unknown
with_content (Known h) v = Known (record { lowest = h.lowest; highest = h.highest; mark = h.mark; content = v })

-- the cell fixed, its limits and content as they were
abbrev pub fixed : Cell → Cell
fixed Unknown = Unknown
fixed (Known h) = Known (record { lowest = h.lowest; highest = h.highest; mark = Fixed; content = h.content })

-- the cell where the test holds, else unknown
abbrev pub known_if : Bool → Cell → Cell
known_if b c = cond b c Unknown

-- the cells at the 256 locations, and unknown past them
abbrev pub at_locations : (ℕ → Cell) → ℕ → Cell
at_locations c k = known_if (nat_lt k 256) (c k)

-- there is no location past 255
abbrev pub Bounded : (ℕ → Cell) → Type 0
Bounded c = (k : ℕ) → 256 ≤ k → c k ≡ Unknown

-- the 256 cells agree, each in every part
abbrev pub EqualCells : (ℕ → Cell) → (ℕ → Cell) → Type 0
EqualCells c d = (k : ℕ) → k < 256 → c k ≡ d k
