-- Cells, as the rules and the machine read and write them: what a store stands for, with the store's own questions.
use Rattle.std.specs.Prelude.{ℕ, ℤ, Result}
use Rattle.cells.specs.declared.cell.Cell.{Cell}
use Rattle.cells.specs.declared.fault.StoreFault.{StoreFault}
use Rattle.cells.specs.Reading.{reading}
use Rattle.cells.specs.Putting.{put_answer, after_put}

abbrev pub Cells : Type 0
Cells = ℕ → Cell

-- what reading the location l gives: its number, or the first no
abbrev pub read : Cells → ℕ → Result ℤ StoreFault
read m l = reading (m l) l

-- what a put of n at l answers: accepted, or the first no
abbrev pub asked : Cells → ℕ → ℤ → Result (Unit {0}) StoreFault
asked m l n = put_answer (m l) l n

-- the cells after a put of n at l
abbrev pub written : Cells → ℕ → ℤ → Cells
written = after_put
