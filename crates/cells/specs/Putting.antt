-- Putting a number at a location: what it leaves in the cells, and, apart from that, what it answers.
use Rattle.std.specs.Prelude.{ℕ, Bool, true, false, cond, ◌&&◌, ℤ, Ok, Err, Result, ◌==◌, Some}
use Rattle.cells.specs.declared.cell.Mark.{Mark}
use Rattle.cells.specs.declared.cell.Mark.TheVariants.{Free, Fixed}
use Rattle.cells.specs.declared.cell.Cell.{Cell}
use Rattle.cells.specs.declared.cell.Cell.TheVariants.{Unknown, Known}
use Rattle.cells.specs.declared.fault.StoreFault.{StoreFault}
use Rattle.cells.specs.declared.fault.StoreFault.TheVariants.{UnknownLocation, FixedCell, OutsideLimits}
use Rattle.cells.specs.Cells.{within, with_content}

-- ---- what it leaves

abbrev pub free : Mark → Bool
free Free = true
free Fixed = false

-- a number is accepted by a known cell that is free and has it within its limits
abbrev pub accepts : Cell → ℤ → Bool
accepts Unknown n = false
accepts (Known h) n = free h.mark && within h n

-- what a put of n leaves in the cell that it is made at: an accepted number is its content
abbrev pub put_left : Cell → ℤ → Cell
put_left c n = cond (accepts c n) (with_content c (Some n)) c

-- all cells after a put of n at l: those of other locations are as they were
abbrev pub after_put : (ℕ → Cell) → ℕ → ℤ → ℕ → Cell
after_put c l n k = cond (k == l) (put_left (c l) n) (c k)

-- ---- what it answers

-- the questions about a known cell: is it free (15), does the number lie within its limits (16)?
abbrev pub admission_known : Mark → Bool → ℕ → Result (Unit {0}) StoreFault
admission_known Fixed inside l = Err (FixedCell l)
admission_known Free false l = Err (OutsideLimits l)
admission_known Free true l = Ok tt

-- the first no that a put of n at l meets, where c is its cell; the location's being known (13) is asked before all
abbrev pub admission : Cell → ℕ → ℤ → Result (Unit {0}) StoreFault
admission Unknown l n = Err (UnknownLocation l)
admission (Known h) l n = admission_known h.mark (within h n) l

-- what a put answers: the first no, or, accepted, nothing more than that
abbrev pub put_answer : Cell → ℕ → ℤ → Result (Unit {0}) StoreFault
put_answer c l n = admission c l n
