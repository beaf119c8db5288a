use Rattle.table.specs.Places.{table_of}
use Rattle.table.proofs.Held.{held}
use Rattle.history.proofs.Plans.{agreeing}
use Rattle.history.proofs.two_boards.two_boards.Goals as goal

pub returns : goal.returns
returns g c =
    let program = c.args.program.now in
    let both = c.follow_both.ensures in
    let fates = c.follow_both.result in
    record {
      first = both.first;
      second = both.second;
      keeps = both.keeps;
      agree = λ same. agreeing (table_of program) (held program) c.args.limit _ _ same _ _ _ _ _ _
          fates.0 fates.1 _ _ both.histories.0 both.histories.1;
    }
