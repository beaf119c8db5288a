use Rattle.std.proofs.Common.{◌≡◌, ℕ, List, ◌++◌, length}
use Rattle.semantics.specs.Worked.{cells_with}
use Rattle.sheet.specs.Sheets.{sheet_cells}
use Rattle.worked.specs.declared.start.Holding.{Holding}
use Rattle.worked.specs.Setups.{held}
use Rattle.worked.proofs.start.records_with.Given as goal

-- the records hold what comes after the holdings that are left
abbrev pub invariant-loop-holding : goal.invariant-loop-holding
invariant-loop-holding l =
    (length l.records ≡ 256)
    × ((done : List Holding) × (l.start ≡ l.holding-iterator.iter.rest.now ++ done) × ((k : ℕ) → sheet_cells l.records k ≡ cells_with (held done) k))
