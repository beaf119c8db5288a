use Rattle.std.proofs.Common.{arith}
use Rattle.std.proofs.lemmas.Grind.{common_steps}
use Rattle.std.proofs.lemmas.List.{take-append-drop, drop_more}
use Rattle.job_line.proofs.Parting.{lacks_before}
use Rattle.job_line.proofs.split.split_once.Goals as goal

pub returns : goal.returns
returns c =
    record {
      whole = grind (arith, common_steps, take-append-drop, drop_more);
      first = lacks_before c.args.text.now c.in_ok-at.at c.args.byte (grind (arith, common_steps)) (grind (arith, common_steps));
    }
