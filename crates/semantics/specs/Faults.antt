-- What a fault tells: the number, the row and the location, case by case.
use Rattle.std.specs.Prelude.{ℕ}
use Rattle.cells.specs.Faults as store
use Rattle.semantics.specs.declared.fault.Cause.{Cause}
use Rattle.semantics.specs.declared.fault.Cause.TheVariants.{Store, Arithmetic}
use Rattle.semantics.specs.declared.fault.Fault.{Fault}
use Rattle.semantics.specs.Arithmetic.{arithmetic_number}

abbrev pub cause_number : Cause → ℕ
cause_number (Store f) = store.number_of f
cause_number (Arithmetic f) = arithmetic_number f

abbrev pub cause_location : Cause → ℕ
cause_location (Store f) = store.location_of f
cause_location (Arithmetic f) = 0

abbrev pub number_of : Fault → ℕ
number_of f = cause_number f.cause

abbrev pub row_of : Fault → ℕ
row_of f = f.row

abbrev pub location_of : Fault → ℕ
location_of f = cause_location f.cause

-- the fault that the cause is at the row p
abbrev pub fault_at : ℕ → Cause → Fault
fault_at p c = record { row = p; cause = c }
