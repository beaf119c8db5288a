use Rattle.table.specs.Places.{table_of}
use Rattle.table.proofs.Held.{held}
use Rattle.history.proofs.Plans.{following, history, keeping}
use Rattle.history.proofs.follow.follow.Goals as goal

pub returns : goal.returns
returns g c =
    let program = c.args.program.now in
    let done = c.carry_out.ensures in
    let fate = c.carry_out.result in
    let follows = following _ _ _ _ fate done.calls in
    let went = history _ _ _ _ follows in
    record {
      follows = follows;
      keeps = done.keeps;
      history = went;
      kept = keeping (table_of program) _ _ _ (held program) _ _ fate _ went;
    }
