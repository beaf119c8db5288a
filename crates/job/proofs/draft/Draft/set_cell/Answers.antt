use Rattle.job.specs.Drafts.Clashes.{second_cell}
use Rattle.job.proofs.draft.Draft.set_cell.Goals as goal

pub returns-in-Known : goal.returns-in-Known
returns-in-Known c = second_cell c.in-Known.field-0 c.in-Known.is
