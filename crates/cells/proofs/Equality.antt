-- A derived `==` decides whether two cells are one.
use Rattle.std.proofs.Common.{◌≡◌, Bool, ℤ, Option, Some, None, Decides, rules}
use Rattle.std.specs.Option.{option_eq}
use Rattle.std.specs.Ordering.{int_eq}
use Rattle.std.proofs.lemmas.Bool.Decides.{Decides-and, Decides-int_eq, Decides-like}
use Rattle.cells.specs.declared.cell.Mark.{Mark}
use Rattle.cells.specs.declared.cell.Mark.TheVariants.{Free, Fixed}
use Rattle.cells.specs.declared.cell.Cell.{Cell}
use Rattle.cells.specs.declared.cell.Cell.TheVariants.{Unknown, Known}
use Rattle.cells.specs.contracts.cell.MarkPartialEq.TheImpl as mark
use Rattle.cells.specs.contracts.cell.CellPartialEq.TheImpl as cell

abbrev pub mark_eq : Mark → Mark → Bool
mark_eq a b = let g = mark.ghosts in g.eq a b

abbrev pub cell_eq : Cell → Cell → Bool
cell_eq a b = let g = cell.ghosts in g.eq a b

pub mark_Decides : (a b : Mark) → Decides (mark_eq a b) (a ≡ b)
mark_Decides Free Free = search rules
mark_Decides Free Fixed = search rules
mark_Decides Fixed Free = search rules
mark_Decides Fixed Fixed = search rules

content_Decides : (a b : Option ℤ) → Decides (option_eq int_eq a b) (a ≡ b)
content_Decides None None = search rules
content_Decides None (Some n) = search rules
content_Decides (Some n) None = search rules
content_Decides (Some n) (Some m) = search rules

pub cell_Decides : (a b : Cell) → Decides (cell_eq a b) (a ≡ b)
cell_Decides Unknown Unknown = search rules
cell_Decides Unknown (Known k) = search rules
cell_Decides (Known h) Unknown = search rules
cell_Decides (Known h) (Known k) =
    let parts =
    Decides-and _ _ (Decides-int_eq h.lowest k.lowest)
    (Decides-and _ _ (Decides-int_eq h.highest k.highest) (Decides-and _ _ (mark_Decides h.mark k.mark) (content_Decides h.content k.content))) in
    let whole : (h.lowest ≡ k.lowest) × ((h.highest ≡ k.highest) × ((h.mark ≡ k.mark) × (h.content ≡ k.content))) → Known h ≡ Known k = λ e. search rules in
    Decides-like _ whole (λ e. let same : h ≡ k = cc in search rules) parts
