-- What a case claims of its run, and when a run is a case's.
use Rattle.std.specs.Prelude.{◌≡◌, ℕ, ◌≤◌, List, Some, None, Option}
use Rattle.semantics.specs.Cells.{Cells}
use Rattle.semantics.specs.Cuts.{largest_slice}
use Rattle.semantics.specs.Worked.{Case, cells_with, Hold}
use Rattle.runs.specs.declared.end.End.{End}
use Rattle.runs.specs.Ends.{end_number, end_row, end_location}
use Rattle.runs.specs.Histories.{Admits}
use Rattle.machine.specs.declared.run.Ended.{Ended}

-- a run that ended so, with the count n and the cells m, is what the case claims
pub record Claimed (c : Case) (e : End) (n : ℕ) (m : Cells) : Type 0 where
  pub end : end_number e ≡ c.end
  pub row : end_row e ≡ c.row
  pub location : end_location e ≡ c.location
  pub count : n ≡ c.count
  -- of the cells that the limit leaves, a case claims nothing
  pub left : ¬ (c.end ≡ 19) → Hold m c.left

-- an answer that leaves the cells m: a run that has not ended is never what a case claims
abbrev pub ClaimedAnswer : Case → Cells → Option Ended → Type 0
ClaimedAnswer c m None = ⊥
ClaimedAnswer c m (Some e) = Claimed c e.end e.count m

-- whatever cells it leaves
abbrev pub EndsAsClaimed : Case → Option Ended → Type 0
EndsAsClaimed c r = (m : Cells) × ClaimedAnswer c m r

-- A run of the words over the cells m, on k and h places, is a run of the case. One slice of the largest length ends it.
pub record Poses (c : Case) (words : List ℕ) (k h limit : ℕ) (m : Cells) : Type 0 where
  pub table : words ≡ c.table
  pub limited : limit ≡ c.limit
  pub cells : (l : ℕ) → m l ≡ cells_with c.start l
  pub admitted : Admits words k h limit
  pub short : limit ≤ largest_slice
