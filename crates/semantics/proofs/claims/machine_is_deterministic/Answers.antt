use Rattle.semantics.proofs.Step.{machine_is_deterministic}
use Rattle.semantics.proofs.claims.machine_is_deterministic.Goals as goal

pub returns : goal.returns
returns c = machine_is_deterministic
