-- A put into a list of records.
use Rattle.std.proofs.Common.{rules, ◌≡◌, ℕ, ◌<◌, true, List, length, get_or, set, ℤ, inl, inr, get_or-set_other}
use Rattle.std.proofs.lemmas.Bool.{cases_lt}
use Rattle.std.proofs.lemmas.List.{get_or_past}
use Rattle.sheet.specs.declared.record.Record.{Record}
use Rattle.cells.specs.Putting.{accepts, put_left}
use Rattle.sheet.specs.Sheets.{cell_of, blank, sheet_cells, with_number}

-- ---- one record

pub numbered_cell : (r : Record) (n : ℤ) → accepts (cell_of r) n ≡ true → cell_of (with_number r n) ≡ put_left (cell_of r) n
numbered_cell r n ok = search rules

module _ (rs : List Record) (l : ℕ) (n : ℤ) (small : l < 256) (ok : accepts (sheet_cells rs l) n ≡ true) where
  -- a location that accepts a number has a record
  recorded : l < length rs
  recorded = elim (cases_lt l (length rs)) [
    | inl inside ↦ inside
    | inr past ↦ let none : get_or rs l blank ≡ blank = get_or_past rs l blank past in search rules
  ]

  pub set_writes : sheet_cells (set rs l (with_number (get_or rs l blank) n)) l ≡ put_left (sheet_cells rs l) n
  set_writes = let inside = recorded in search (rules, numbered_cell)

-- a record that is set leaves every other location's cell
pub set_spares : (rs : List Record) (l : ℕ) (q : Record) (k : ℕ) → (k ≡ l → ⊥) → sheet_cells (set rs l q) k ≡ sheet_cells rs k
set_spares rs l q k ne = rw (get_or-set_other rs l k q blank ne)
