-- The cell that the words of a line write.
use Rattle.std.specs.Prelude.{◌≡◌, ℕ, true, false, List, [], length, codes, int_le, slice_index_or, Option, Some, None, ℤ}
use Rattle.cells.specs.declared.cell.Mark.{Mark}
use Rattle.cells.specs.declared.cell.Mark.TheVariants.{Free, Fixed}
use Rattle.cells.specs.declared.cell.KnownCell.{KnownCell}
use Rattle.cells.specs.Cells.{content_within}
use Rattle.fields.specs.Integers.{Integer, integer_of}
use Rattle.fields.specs.Numbers.{number_of}
use Rattle.job_line.specs.declared.wrong.Wrong.{Wrong}
use Rattle.job_line.specs.declared.wrong.Wrong.TheVariants.{NotLocation, NotSigned, NotMark, NotContent, LimitsCross, OutsideLimits}
use Rattle.job_line.specs.Makes.{Byte}
use Rattle.job_line.specs.Words.{Miscounted}

-- the word at a place, nothing past the last
abbrev pub word : List (List ℕ) → ℕ → List ℕ
word ws i = slice_index_or ws i []

abbrev pub WritesMark : List ℕ → Mark → Type 0
WritesMark w Free = w ≡ codes "free"
WritesMark w Fixed = w ≡ codes "fixed"

pub record NoMark (w : List ℕ) (e : Wrong) : Type 0 where
  pub told : e ≡ NotMark
  pub none : (m : Mark) → WritesMark w m → ⊥

abbrev pub WritesContent : List ℕ → Option ℤ → Type 0
WritesContent w None = w ≡ codes "unset"
WritesContent w (Some n) = Integer w × (n ≡ integer_of w)

pub record NoContent (w : List ℕ) (e : Wrong) : Type 0 where
  pub told : e ≡ NotContent
  pub none : (v : Option ℤ) → WritesContent w v → ⊥

-- the limits are in order, and the content lies within them
pub record Lawful (c : KnownCell) : Type 0 where
  pub order : int_le c.lowest c.highest ≡ true
  pub inside : content_within c c.content ≡ true

pub data RefusesCell (c : KnownCell) : Wrong → Type 0 where
  cross : int_le c.lowest c.highest ≡ false → RefusesCell c LimitsCross
  outside : content_within c c.content ≡ false → RefusesCell c OutsideLimits

-- the words write the parts of a cell: its location, its limits, its mark and its content
pub record WritesCell (ws : List (List ℕ)) (l : ℕ) (c : KnownCell) : Type 0 where
  pub five : length ws ≡ 5
  pub location : Byte (word ws 0) × (l ≡ number_of (word ws 0))
  pub lowest : Integer (word ws 1) × (c.lowest ≡ integer_of (word ws 1))
  pub highest : Integer (word ws 2) × (c.highest ≡ integer_of (word ws 2))
  pub mark : WritesMark (word ws 3) c.mark
  pub content : WritesContent (word ws 4) c.content

-- and the cell is lawful
pub record SaysCell (ws : List (List ℕ)) (l : ℕ) (c : KnownCell) : Type 0 where
  pub written : WritesCell ws l c
  pub lawful : Lawful c

-- why the words write no parts of a cell
pub data RefusesParts (ws : List (List ℕ)) : Wrong → Type 0 where
  miscounted : {e : Wrong} → Miscounted (length ws) 5 e → RefusesParts ws e
  no_location : (Byte (word ws 0) → ⊥) → RefusesParts ws NotLocation
  no_lowest : (Integer (word ws 1) → ⊥) → RefusesParts ws NotSigned
  no_highest : (Integer (word ws 2) → ⊥) → RefusesParts ws NotSigned
  no_mark : {e : Wrong} → NoMark (word ws 3) e → RefusesParts ws e
  no_content : {e : Wrong} → NoContent (word ws 4) e → RefusesParts ws e

-- or the cell that they write is not lawful
pub data RefusesCellLine (ws : List (List ℕ)) : Wrong → Type 0 where
  no_parts : {e : Wrong} → RefusesParts ws e → RefusesCellLine ws e
  no_cell : {e : Wrong} (l : ℕ) (c : KnownCell) → WritesCell ws l c → RefusesCell c e → RefusesCellLine ws e
