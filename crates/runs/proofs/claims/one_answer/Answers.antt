use Rattle.runs.proofs.Slices.{one_answer}
use Rattle.runs.proofs.claims.one_answer.Goals as goal

pub returns : goal.returns
returns c = one_answer
