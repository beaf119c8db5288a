use Rattle.semantics.proofs.IsSimp.{row_machine_is_simp}
use Rattle.semantics.proofs.claims.row_machine_is_simp.Goals as goal

pub returns : goal.returns
returns c = row_machine_is_simp
