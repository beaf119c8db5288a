use Rattle.semantics.proofs.Agree.{programs_run_well}
use Rattle.semantics.proofs.claims.programs_run_well.Goals as goal

pub returns : goal.returns
returns c = programs_run_well
