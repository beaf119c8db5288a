use Rattle.std.proofs.Common.{rules}
use Rattle.job_line.specs.CellLines.RefusesCell.{cross, outside}
use Rattle.job_line.proofs.cell_line.lawful.Goals as goal

pub returns-then-cell : goal.returns-then-cell
returns-then-cell c = cross (search rules)

pub returns-then-is_some_and : goal.returns-then-is_some_and
returns-then-is_some_and c = outside (search rules)
