use Rattle.semantics.proofs.Worked.{runs_end_as_stated}
use Rattle.semantics.proofs.claims.runs_end_as_stated.Goals as goal

pub returns : goal.returns
returns c = runs_end_as_stated
