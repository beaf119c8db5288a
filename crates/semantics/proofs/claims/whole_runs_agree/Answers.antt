use Rattle.semantics.proofs.WholeRuns.{whole_runs_agree}
use Rattle.semantics.proofs.claims.whole_runs_agree.Goals as goal

pub returns : goal.returns
returns c = whole_runs_agree
