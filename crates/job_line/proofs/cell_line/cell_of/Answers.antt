use Rattle.std.proofs.Common.{rules}
use Rattle.job_line.specs.CellLines.RefusesCellLine.{no_parts, no_cell}
use Rattle.job_line.proofs.cell_line.cell_of.Goals as goal

pub returns-in_err-location : goal.returns-in_err-location
returns-in_err-location c = search (rules, no_parts)

pub returns-in_err-lawful : goal.returns-in_err-lawful
returns-in_err-lawful c = search (rules, no_cell c.in_ok-location.location c.in_ok-location.cell c.in_ok-location.ensures c.in_err-lawful.ensures)
