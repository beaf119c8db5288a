use Rattle.semantics.proofs.Agree.{every_count_settles}
use Rattle.semantics.proofs.claims.every_count_settles.Goals as goal

pub returns : goal.returns
returns c = every_count_settles
