use Rattle.std.proofs.Common.{length}
use Rattle.worked.proofs.WholeRuns.{claimed}
use Rattle.worked.proofs.outcome.outcome.Goals as goal

pub returns-clause-claimed : goal.returns-clause-claimed
returns-clause-claimed g c =
    claimed c.args.words.now (length c.args.control.now) (length c.args.results.now) c.args.limit _ _ c.run_on_needs.result c.run_on_needs.ensures.comes
