use Rattle.std.proofs.Common.{ap, ◌∙◌, w32, SFits, rules}
use Rattle.std.proofs.lemmas.Int.{to_z-of_z}
use Rattle.sheet.specs.Sheets.{sound}
use Rattle.worked.proofs.Cells.{fitting}
use Rattle.worked.proofs.start.Holding.record.Goals as goal

pub returns : goal.returns
returns c =
    let n = c.args.self.number in
    let fits : SFits w32 n = search rules in
    let w = simp to_z-of_z at c.widest.ensures in
    c.from.ensures.1 ∙ ap sound w ∙ fitting n fits
