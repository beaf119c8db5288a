-- A job on the way: what the lines so far say.
use Rattle.std.specs.Prelude.{◌≡◌, ℕ, true, List, [], ◌∷◌, ◌++◌, replicate, is_some, Some, None, vec_items, Option, slice_index_or, slice_set}
use Rattle.cells.specs.declared.cell.KnownCell.{KnownCell}
use Rattle.cells.specs.declared.cell.Cell.{Cell}
use Rattle.cells.specs.declared.cell.Cell.TheVariants.{Unknown, Known}
use Rattle.job_line.specs.declared.board_line.BoardLine.{BoardLine}
use Rattle.job_line.specs.declared.line.JobLine.{JobLine}
use Rattle.job_line.specs.declared.wrong.Wrong.{Wrong}
use Rattle.job_line.specs.declared.wrong.Wrong.TheVariants.{SecondLimit, SecondCell, Memory}
use Rattle.job_line.specs.Lines.{SaysLine, RefusesLine}
use Rattle.job.specs.declared.draft.Draft.{Draft}

-- what is known of a job
pub record State : Type 0 where
  pub limit : Option ℕ
  pub table : List ℕ
  pub cells : List Cell
  pub boards : List BoardLine

abbrev pub state_of : Draft → State
state_of d = record { limit = d.limit; table = vec_items d.table; cells = d.cells; boards = vec_items d.boards }

abbrev pub empty : State
empty = record { limit = None; table = []; cells = replicate 256 Unknown; boards = [] }

-- what a line adds: it changes one part, and the limit and a cell were not there before
abbrev pub Adds : State → JobLine → State → Type 0
Adds s JobLine.Nothing t = t ≡ s
Adds s (JobLine.Limit n) t = (s.limit ≡ None) × (t ≡ record { limit = Some n; table = s.table; cells = s.cells; boards = s.boards })
Adds s (JobLine.Table v) t = t ≡ record { limit = s.limit; table = s.table ++ vec_items v; cells = s.cells; boards = s.boards }
Adds s (JobLine.Cell l c) t =
    (slice_index_or s.cells l Unknown ≡ Unknown)
    × (t ≡ record { limit = s.limit; table = s.table; cells = slice_set s.cells l (Known c); boards = s.boards })
Adds s (JobLine.Board b) t = t ≡ record { limit = s.limit; table = s.table; cells = s.cells; boards = s.boards ++ b ∷ [] }

-- why a line adds nothing; it says nothing of when memory is wanting
pub data Clashes (s : State) : JobLine → Wrong → Type 0 where
  second_limit : {n : ℕ} → is_some s.limit ≡ true → Clashes s (JobLine.Limit n) SecondLimit
  second_cell : {l : ℕ} {c : KnownCell} (d : KnownCell) → slice_index_or s.cells l Unknown ≡ Known d → Clashes s (JobLine.Cell l c) SecondCell
  no_memory : {j : JobLine} → Clashes s j Memory

-- the line of that number adds what it says
pub record TakesIn (number : ℕ) (line : List ℕ) (s t : State) : Type 0 where
  pub says : JobLine
  pub said : SaysLine number line says
  pub adds : Adds s says t

-- it is wrong by itself, or clashes with a line before it
pub data RefusesLineOf (number : ℕ) (line : List ℕ) (s : State) : Wrong → Type 0 where
  wrong : {e : Wrong} → RefusesLine line e → RefusesLineOf number line s e
  clashes : {e : Wrong} (j : JobLine) → SaysLine number line j → Clashes s j e → RefusesLineOf number line s e
