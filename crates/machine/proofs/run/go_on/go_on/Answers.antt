use Rattle.std.proofs.Common.{refl}
use Rattle.table.specs.Places.{table_of}
use Rattle.table.proofs.Held.{held}
use Rattle.runs.specs.Slices.{turned_down, served}
use Rattle.runs.proofs.Onward.{agrees_onward, simp_onward}
use Rattle.transition.proofs.Kept.{unchanged}
use Rattle.machine.proofs.run.go_on.go_on.Goals as goal

pub returns-then-slice-gt-LARGEST_SLICE : goal.returns-then-slice-gt-LARGEST_SLICE
returns-then-slice-gt-LARGEST_SLICE g c =
    let program = c.args.program.now in
    let goes = turned_down c.if-slice-gt-LARGEST_SLICE.true in
    record {
      goes = goes;
      answers = (c.if-slice-gt-LARGEST_SLICE.true, refl);
      keeps = unchanged;
      agrees = agrees_onward (table_of program) (held program) _ _ _ _ _ _ _ goes;
      simp = simp_onward (table_of program) (held program) _ _ _ _ _ _ _ goes;
    }

pub returns : goal.returns
returns g c =
    let program = c.args.program.now in
    let goes = served c.if-slice-gt-LARGEST_SLICE.false c.serve.ensures.serves in
    record {
      goes = goes;
      answers = (c.if-slice-gt-LARGEST_SLICE.false, c.serve.ensures.limit);
      keeps = c.serve.ensures.keeps;
      agrees = agrees_onward (table_of program) (held program) _ _ _ _ _ _ _ goes;
      simp = simp_onward (table_of program) (held program) _ _ _ _ _ _ _ goes;
    }
