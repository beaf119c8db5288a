-- Cells that a pair list can hold.
use Rattle.std.proofs.Common.{◌≡◌, ◌≢◌, Bool, List, [], ◌∷◌, ℤ, Decides, sym, ap, ◌∙◌, subst, Option, Some, None, true, is_some}
use Rattle.std.specs.List.{AllByRecursion}
use Rattle.cells.specs.declared.cell.KnownCell.{KnownCell}
use Rattle.cells.specs.declared.cell.Cell.{Cell}
use Rattle.cells.specs.declared.cell.Cell.TheVariants.{Known}
use Rattle.cells.specs.Cells.{widest}
use Rattle.job_line.specs.declared.make.Make.TheVariants.{Pairs}
use Rattle.job_line.specs.declared.board_line.BoardLine.{BoardLine}
use Rattle.job.specs.Finishes.{Fit, Suits}

-- a known cell that is set is fit just if it is the widest with its content
pub fit_known : (cell : Cell) (h : KnownCell) (o : Option ℤ) (r : Bool) → cell ≡ Known h → h.content ≡ o → is_some o ≡ true → Decides r (h ≡ widest h.content) → Decides r (Fit cell)
fit_known cell h None r is holds set decides = absurd (cc)
fit_known cell h (Some n) r is holds set decides =
    subst (λ (c : Cell). Decides r (Fit c)) (sym is) (
      (λ yes. (n, decides.0 yes ∙ ap widest holds)),
      (λ fit. let same : h.content ≡ Some fit.0 = ap (λ (k : KnownCell). k.content) fit.1 in decides.1 (fit.1 ∙ ap widest (sym same))),
    )

-- any cells suit boards that are none of pairs
pub none_of_pairs : (cells : List Cell) (boards : List BoardLine) → AllByRecursion (λ (b : BoardLine). b.make ≢ Pairs) boards → AllByRecursion (Suits cells) boards
none_of_pairs cells [] none = tt
none_of_pairs cells (b ∷ boards) none = ((λ is. absurd (none.0 is)), none_of_pairs cells boards none.1)
