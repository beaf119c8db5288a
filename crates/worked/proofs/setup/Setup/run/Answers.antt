use Rattle.std.proofs.Common.{◌≡◌, ℕ, ap, ◌∙◌}
use Rattle.semantics.specs.Worked.{cells_with}
use Rattle.sheet.specs.Sheets.{sheet_cells}
use Rattle.worked.specs.Setups.{held}
use Rattle.worked.proofs.Ready.{posed}
use Rattle.worked.proofs.setup.Setup.run.Goals as goal

pub returns : goal.returns
returns c k worked sets fits =
    let m = sheet_cells c.new-sheet.result.records.now in
    let same : (l : ℕ) → m l ≡ cells_with (held c.args.self.start.now) l =
    λ l. ap (λ rs. sheet_cells rs l) c.new-sheet.ensures.holds ∙ c.records_with-records.ensures l in
    (sheet_cells c.outcome.new.store.records.now, c.outcome.ensures.claimed k worked (posed k c.args.self m sets same fits))
