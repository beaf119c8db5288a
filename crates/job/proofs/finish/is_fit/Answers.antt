use Rattle.std.proofs.Common.{◌≡◌, Decides, refl, rules}
use Rattle.cells.specs.Cells.{widest}
use Rattle.job.proofs.Fitting.{fit_known}
use Rattle.job.proofs.finish.is_fit.Goals as goal

pub returns-then-is_some : goal.returns-then-is_some
returns-then-is_some c =
    let known = c.in-Known.known in
    let same : Decides c.eq.result (known ≡ widest known.content) = search rules in
    fit_known c.args.cell known known.content c.eq.result c.in-Known.is refl (search rules) same
