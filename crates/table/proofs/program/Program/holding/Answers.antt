use Rattle.std.proofs.Common.{refl}
use Rattle.loading.proofs.Laws.{well_formed}
use Rattle.table.proofs.program.Program.holding.Goals as goal

pub invariant_of-result : goal.invariant_of-result
invariant_of-result c = record {
  loaded = ∣ c.requires.0 ∣₁;
  sized = (well_formed c.args.words.now c.requires.0).sized;
  exact = c.requires.1;
}

pub returns : goal.returns
returns c = record { loaded = c.requires.0; formed = well_formed c.args.words.now c.requires.0; needs = c.requires.1; holds = refl }
