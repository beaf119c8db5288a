-- The laws of cells, of reading and of putting, for proofs that do not open the definitions.
use Rattle.std.proofs.Common.{◌≡◌, ℕ, ◌<◌, true, false, ℤ, Some, None, Ok, Err, rules}
use mathlib.Core.Path.{fun_ext}
use Rattle.cells.specs.declared.cell.Cell.{Cell}
use Rattle.cells.specs.declared.fault.StoreFault.{StoreFault}
use Rattle.cells.specs.Faults.{location_of}
use Rattle.cells.specs.Cells.{Lawful, with_content, at_locations, Bounded, EqualCells}
use Rattle.cells.specs.Reading.{reading}
use Rattle.cells.specs.Putting.{accepts, admission, put_left, after_put, put_answer}

-- ---- what is answered, and what that says of the cell

-- a cell that is asked and says yes accepts the number
pub accepted : (c : Cell) (l : ℕ) (n : ℤ) → admission c l n ≡ Ok tt → accepts c n ≡ true
accepted c l n e = search rules

-- and one that says no does not
pub refused : (c : Cell) (l : ℕ) (n : ℤ) (f : StoreFault) → admission c l n ≡ Err f → accepts c n ≡ false
refused c l n f e = search rules

-- a put that answers yes is of a number that the cell accepts
pub answer_accepted : (c : Cell) (l : ℕ) (n : ℤ) (v : Unit {0}) → put_answer c l n ≡ Ok v → accepts c n ≡ true
answer_accepted c l n v e = search rules

-- a fault says that the cell does not accept the number
pub answer_refused : (c : Cell) (l : ℕ) (n : ℤ) (f : StoreFault) → put_answer c l n ≡ Err f → accepts c n ≡ false
answer_refused c l n f e = search rules

-- a number that the cell accepts is admitted, at any location
pub accepted_answer : (c : Cell) (l : ℕ) (n : ℤ) → accepts c n ≡ true → put_answer c l n ≡ Ok tt
accepted_answer c l n e = search rules

-- a fault names the location that was asked of
pub fault_location : (c : Cell) (l : ℕ) (n : ℤ) (f : StoreFault) → put_answer c l n ≡ Err f → location_of f ≡ l
fault_location c l n f e = search rules

-- ---- the cell that a put is made at

-- what an accepted put leaves, and a refused one
pub left_accepted : (c : Cell) (n : ℤ) → accepts c n ≡ true → put_left c n ≡ with_content c (Some n)
left_accepted c n e = search rules

pub left_refused : (c : Cell) (n : ℤ) → accepts c n ≡ false → put_left c n ≡ c
left_refused c n e = search rules

-- but for its content the cell is as it was
pub limits_kept : (c : Cell) (n : ℤ) → with_content (put_left c n) None ≡ with_content c None
limits_kept c n = search rules

-- and accepts what it accepted
pub accepts_kept : (c : Cell) (n m : ℤ) → accepts (put_left c n) m ≡ accepts c m
accepts_kept c n m = search rules

-- the law of limits outlasts a put
pub put_lawful : (c : Cell) (n : ℤ) → Lawful c → Lawful (put_left c n)
put_lawful c n p = search rules

-- an accepted number is what is read
pub read_back : (c : Cell) (l : ℕ) (n : ℤ) → accepts c n ≡ true → reading (put_left c n) l ≡ Ok n
read_back c l n e = search rules

-- ---- all cells after a put

module _ (c : ℕ → Cell) (l : ℕ) (n : ℤ) where
  pub after_here : after_put c l n l ≡ put_left (c l) n
  after_here = search rules

  pub after_other : (k : ℕ) → (k ≡ l → ⊥) → after_put c l n k ≡ c k
  after_other k ne = search rules

  -- what a store's put promises of the cell and of the others, as one: the cells are those after the put
  module _ (d : ℕ → Cell) (writes : d l ≡ put_left (c l) n) (spares : (k : ℕ) → (k ≡ l → ⊥) → d k ≡ c k) where
    pub put_leaves : (k : ℕ) → d k ≡ after_put c l n k
    put_leaves k = search rules

    pub put_leaves_all : d ≡ after_put c l n
    put_leaves_all = fun_ext put_leaves

  pub refused_all : accepts (c l) n ≡ false → after_put c l n ≡ c
  refused_all e = search rules

  pub after_lawful : ((k : ℕ) → Lawful (c k)) → (k : ℕ) → Lawful (after_put c l n k)
  after_lawful p k = search rules

  pub after_limits : (k : ℕ) → with_content (after_put c l n k) None ≡ with_content (c k) None
  after_limits k = search rules

  -- a put leaves unknown what was past the locations
  pub after_bounded : l < 256 → Bounded c → Bounded (after_put c l n)
  after_bounded small p k past = search rules

-- ---- the 256 locations

pub located : (c : ℕ → Cell) (k : ℕ) → k < 256 → at_locations c k ≡ c k
located c k h = search rules

-- ---- all cells of a store

-- what agrees on the 256 locations agrees everywhere
pub equal_everywhere : (c d : ℕ → Cell) → Bounded c → Bounded d → EqualCells c d → (k : ℕ) → c k ≡ d k
equal_everywhere c d p q same k = search rules

pub equal_cells : (c d : ℕ → Cell) → Bounded c → Bounded d → EqualCells c d → c ≡ d
equal_cells c d p q same = fun_ext (equal_everywhere c d p q same)
