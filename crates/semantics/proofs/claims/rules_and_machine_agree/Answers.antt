use Rattle.semantics.proofs.Agree.{rules_and_machine_agree}
use Rattle.semantics.proofs.claims.rules_and_machine_agree.Goals as goal

pub returns : goal.returns
returns c = rules_and_machine_agree
