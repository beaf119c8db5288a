-- What a case is run on.
use Rattle.std.specs.Prelude.{◌≡◌, ℕ, ◌+◌, ◌≤◌, cond, List, [], ◌∷◌, map, take, Some, None, Option, ◌==◌}
use Rattle.cells.specs.declared.cell.Cell.{Cell}
use Rattle.cells.specs.declared.cell.Cell.TheVariants.{Known}
use Rattle.cells.specs.Cells.{widest}
use Rattle.semantics.specs.Cuts.{largest_slice}
use Rattle.semantics.specs.Worked.{Case}
use Rattle.semantics.specs.Casebook.{twelve_runs}
use Rattle.runs.specs.Histories.{Admits}
use Rattle.worked.specs.declared.start.Holding.{Holding}
use Rattle.worked.specs.declared.setup.Setup.{Setup}

-- the one with the number n, where the first has the number i
abbrev pub numbered : {A : Type 0} → ℕ → List A → ℕ → Option A
numbered i [] n = None
numbered i (x ∷ xs) n = cond (n == i) (Some x) (numbered (i + 1) xs n)

-- the last of the runs is the twelfth case once more, at another limit
abbrev pub cases : List Case
cases = take 12 twelve_runs

abbrev pub case_of : ℕ → Option Case
case_of = numbered 1 cases

abbrev pub held_at : Holding → ℕ × Cell
held_at h = (h.location, Known (widest (Some h.number)))

abbrev pub held : List Holding → List (ℕ × Cell)
held = map held_at

pub record SetsUp (c : Case) (s : Setup) : Type 0 where
  pub table : s.words.now ≡ c.table
  pub start : held s.start.now ≡ c.start
  pub limit : s.limit ≡ c.limit

-- eight places on each stack are enough for the case, and one slice of the largest length
pub record FitsBoard (c : Case) : Type 0 where
  pub admitted : Admits c.table 8 8 c.limit
  pub short : c.limit ≤ largest_slice

-- a setup for each case, and for no other number
abbrev pub SetUp : Option Case → Option Setup → Type 0
SetUp None None = Unit {0}
SetUp None (Some s) = ⊥
SetUp (Some c) None = ⊥
SetUp (Some c) (Some s) = SetsUp c s
