-- What holds of every put, whatever the cells: the laws that a run over a store leans on.
use Rattle.std.specs.Prelude.{◌≡◌, ℕ, true, ℤ, Ok, Err, None}
use Rattle.cells.specs.declared.cell.Cell.{Cell}
use Rattle.cells.specs.declared.fault.StoreFault.{StoreFault}
use Rattle.cells.specs.Faults.{location_of}
use Rattle.cells.specs.Cells.{Lawful, with_content}
use Rattle.cells.specs.Reading.{reading}
use Rattle.cells.specs.Putting.{accepts, put_answer, after_put}

-- the law of limits outlasts a put
abbrev pub PutsAreLawful : Type 0
PutsAreLawful =
    (c : ℕ → Cell) (l : ℕ) (n : ℤ) → ((k : ℕ) → Lawful (c k)) → (k : ℕ) → Lawful (after_put c l n k)

-- what was put is what is read
abbrev pub PutIsRead : Type 0
PutIsRead =
    (c : ℕ → Cell) (l : ℕ) (n : ℤ) → accepts (c l) n ≡ true → reading (after_put c l n l) l ≡ Ok n

-- limits and marks outlast a put, and so does being known: but for contents the cells are those of before
abbrev pub PutsKeepLimits : Type 0
PutsKeepLimits =
    (c : ℕ → Cell) (l : ℕ) (n : ℤ) (k : ℕ) → with_content (after_put c l n k) None ≡ with_content (c k) None

-- a refused put leaves all cells, and names its own location
abbrev pub RefusalsChangeNothing : Type 0
RefusalsChangeNothing =
    (c : ℕ → Cell) (l : ℕ) (n : ℤ) (f : StoreFault) → put_answer (c l) l n ≡ Err f → (after_put c l n ≡ c) × (location_of f ≡ l)
