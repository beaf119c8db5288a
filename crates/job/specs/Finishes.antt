-- From what the lines said to a job.
use Rattle.std.specs.Prelude.{◌≡◌, ℕ, max, List, [], ℤ, Some, None, vec_items}
use Rattle.std.specs.List.{ContainsAt as Has, AllByRecursion}
use Rattle.cells.specs.declared.cell.Cell.{Cell}
use Rattle.cells.specs.declared.cell.Cell.TheVariants.{Unknown, Known}
use Rattle.cells.specs.Cells.{widest}
use Rattle.job_line.specs.declared.board_line.BoardLine.{BoardLine}
use Rattle.job_line.specs.declared.make.Make.TheVariants.{Pairs}
use Rattle.job_line.specs.declared.wrong.Wrong.TheVariants.{UnfitForPairs, NoLimit, NoBoard}
use Rattle.job.specs.declared.bad_line.BadLine.{BadLine}
use Rattle.job.specs.declared.job.Job.{Job}
use Rattle.job.specs.Drafts.{State}

-- a pair list can hold the cell: where there is one it is free, set, and takes every number
abbrev pub Fit : Cell → Type 0
Fit Unknown = Unit {0}
Fit (Known h) = (n : ℤ) × (h ≡ widest (Some n))

-- a board of pairs asks that for all cells, and no other board asks anything
abbrev pub Suits : List Cell → BoardLine → Type 0
Suits cells b = b.make ≡ Pairs → AllByRecursion Fit cells

-- a board of pairs that the cells do not suit, told by its line
pub data Unsuited (cells : List Cell) (boards : List BoardLine) : BadLine → Type 0 where
  unfit : (b : BoardLine) → Has boards b → b.make ≡ Pairs → (AllByRecursion Fit cells → ⊥) → Unsuited cells boards (record { line = b.line; wrong = UnfitForPairs })

-- the job is what the lines said; they said a limit and boards, and the boards suit the cells
pub record Finishes (s : State) (j : Job) : Type 0 where
  pub limit : s.limit ≡ Some j.limit
  pub table : vec_items j.table ≡ s.table
  pub cells : j.cells ≡ s.cells
  pub boards : vec_items j.boards ≡ s.boards
  pub some_board : s.boards ≡ [] → ⊥
  pub suits : AllByRecursion (Suits s.cells) s.boards

-- what is lacking is told on the last line, or on the first where there is none
pub data Unfinished (s : State) (lines : ℕ) : BadLine → Type 0 where
  unsuited : {e : BadLine} → Unsuited s.cells s.boards e → Unfinished s lines e
  no_limit : s.limit ≡ None → Unfinished s lines (record { line = max lines 1; wrong = NoLimit })
  no_board : s.boards ≡ [] → Unfinished s lines (record { line = max lines 1; wrong = NoBoard })
