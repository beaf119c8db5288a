-- Reading a location: is it known (13), does its cell hold a number (14)?
use Rattle.std.specs.Prelude.{ℕ, ℤ, Err, Result}
use Rattle.std.specs.Option.{ok_or}
use Rattle.cells.specs.declared.cell.Cell.{Cell}
use Rattle.cells.specs.declared.cell.Cell.TheVariants.{Unknown, Known}
use Rattle.cells.specs.declared.fault.StoreFault.{StoreFault}
use Rattle.cells.specs.declared.fault.StoreFault.TheVariants.{UnknownLocation, UnsetCell}

-- what reading the location l gives, where c is its cell
abbrev pub reading : Cell → ℕ → Result ℤ StoreFault
reading Unknown l = Err (UnknownLocation l)
reading (Known h) l = ok_or h.content (UnsetCell l)
