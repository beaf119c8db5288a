use Rattle.semantics.proofs.Agree.{rules_are_deterministic}
use Rattle.semantics.proofs.claims.rules_are_deterministic.Goals as goal

pub returns : goal.returns
returns c = rules_are_deterministic
