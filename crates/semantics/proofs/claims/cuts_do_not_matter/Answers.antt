use Rattle.semantics.proofs.Cuts.{cuts_do_not_matter}
use Rattle.semantics.proofs.claims.cuts_do_not_matter.Goals as goal

pub returns : goal.returns
returns c = cuts_do_not_matter
