use Rattle.semantics.proofs.SimpRuns.{rules_and_simp_agree}
use Rattle.semantics.proofs.claims.rules_and_simp_agree.Goals as goal

pub returns : goal.returns
returns c = rules_and_simp_agree
