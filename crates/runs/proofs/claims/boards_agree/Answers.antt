use Rattle.runs.proofs.Promise.{agree}
use Rattle.runs.proofs.claims.boards_agree.Goals as goal

pub returns : goal.returns
returns c = agree
