-- The sheet: the cells that a list of records stands for, and what a put does to the records.
use Rattle.std.specs.Prelude.{◌≡◌, ℕ, Bool, true, false, cond, ◌&&◌, List, ℤ, pos, int_le, slice_index_or, slice_set, is_some, Some, None, refl}
use Rattle.std.specs.Option.{unwrap_or}
use Rattle.cells.specs.declared.cell.Mark.{Mark}
use Rattle.cells.specs.declared.cell.Mark.TheVariants.{Free, Fixed}
use Rattle.cells.specs.declared.cell.KnownCell.{KnownCell}
use Rattle.cells.specs.declared.cell.Cell.{Cell}
use Rattle.cells.specs.declared.cell.Cell.TheVariants.{Known}
use Rattle.sheet.specs.declared.record.Record.{Record}
use Rattle.cells.specs.Cells.{content_within, Lawful, Bounded, known_if, at_locations}
use Rattle.cells.specs.Meets.{if_lawful, located_lawful, located_bounded}
use Rattle.cells.specs.Putting.{accepts}

-- what a record says of its cell, if it stands for one
abbrev pub described : Record → KnownCell
described r = record {
  lowest = r.lowest;
  highest = r.highest;
  mark = cond r.fixed Fixed Free;
  content = cond r.set (Some r.number) None;
}

-- the limits do not cross, and what is held lies within them
abbrev pub holds_together : KnownCell → Bool
holds_together h = int_le h.lowest h.highest && content_within h h.content

-- the cell itself, or unknown where its parts do not fit
abbrev pub sound : KnownCell → Cell
sound h = known_if (holds_together h) (Known h)

-- the cell that a record stands for
abbrev pub cell_of : Record → Cell
cell_of r = known_if r.known (sound (described r))

-- the record of an unknown cell
abbrev pub blank : Record
blank = record { known = false; fixed = false; set = false; lowest = pos 0; highest = pos 0; number = pos 0 }

-- location l is record l: past the last record there is none, and a record past the 256th stands for nothing
abbrev pub sheet_cells : List Record → ℕ → Cell
sheet_cells rs = at_locations (λ k. cell_of (slice_index_or rs k blank))

-- the record with n set, its marks known and fixed and its limits as they were
abbrev pub with_number : Record → ℤ → Record
with_number r n =
    record { known = r.known; fixed = r.fixed; set = true; lowest = r.lowest; highest = r.highest; number = n }

-- the records after a put of n at l: an accepted number is set in record l, and no other record changes
abbrev pub records_after : List Record → ℕ → ℤ → List Record
records_after rs l n = cond (accepts (sheet_cells rs l) n) (slice_set rs l (with_number (slice_index_or rs l blank) n)) rs

-- ---- the record of a cell

abbrev pub is_fixed : Mark → Bool
is_fixed Free = false
is_fixed Fixed = true

abbrev pub record_of : KnownCell → Record
record_of h =
    record {
      known = true;
      fixed = is_fixed h.mark;
      set = is_some h.content;
      lowest = h.lowest;
      highest = h.highest;
      number = unwrap_or h.content (pos 0);
    }

-- ---- the laws of a store

sound_lawful : (b v : Bool) (h : KnownCell) → (v ≡ true → Lawful (Known h)) → Lawful (known_if (b && v) (Known h))
sound_lawful true true h p = p refl
sound_lawful true false h p = tt
sound_lawful false v h p = tt

record_lawful : (r : Record) → Lawful (cell_of r)
record_lawful r =
    let h = described r in
    if_lawful r.known (sound h)
    (sound_lawful (int_le h.lowest h.highest) (content_within h h.content) h (λ e. e))

pub sheet_lawful : (rs : List Record) (k : ℕ) → Lawful (sheet_cells rs k)
sheet_lawful rs k = located_lawful (λ i. cell_of (slice_index_or rs i blank)) k (record_lawful (slice_index_or rs k blank))

pub sheet_bounded : (rs : List Record) → Bounded (sheet_cells rs)
sheet_bounded rs = located_bounded (λ i. cell_of (slice_index_or rs i blank))
