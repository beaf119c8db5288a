use Rattle.semantics.proofs.SimpSteps.{simp_is_deterministic}
use Rattle.semantics.proofs.claims.simp_is_deterministic.Goals as goal

pub returns : goal.returns
returns c = simp_is_deterministic
