-- The questions that are asked of a cell: the number and the location of each, told apart by the fault that a no gives.
use Rattle.std.specs.Prelude.{ℕ}
use Rattle.cells.specs.declared.fault.StoreFault.{StoreFault}
use Rattle.cells.specs.declared.fault.StoreFault.TheVariants.{UnknownLocation, UnsetCell, FixedCell, OutsideLimits}

abbrev pub number_of : StoreFault → ℕ
number_of (UnknownLocation l) = 13
number_of (UnsetCell l) = 14
number_of (FixedCell l) = 15
number_of (OutsideLimits l) = 16

abbrev pub location_of : StoreFault → ℕ
location_of (UnknownLocation l) = l
location_of (UnsetCell l) = l
location_of (FixedCell l) = l
location_of (OutsideLimits l) = l

-- the same no, at the location l
abbrev pub relocated : StoreFault → ℕ → StoreFault
relocated (UnknownLocation k) l = UnknownLocation l
relocated (UnsetCell k) l = UnsetCell l
relocated (FixedCell k) l = FixedCell l
relocated (OutsideLimits k) l = OutsideLimits l
