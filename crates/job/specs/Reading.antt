-- A job read from its text, line by line.
use Rattle.std.specs.Prelude.{◌≡◌, ℕ, ◌+◌, ◌<◌, ◌≤◌, List, [], length, vec_items}
use Rattle.std.specs.List.{AllByRecursion}
use Rattle.cells.specs.declared.cell.Cell.{Cell}
use Rattle.cells.specs.declared.cell.Cell.TheVariants.{Unknown, Known}
use Rattle.job_line.specs.declared.board_line.BoardLine.{BoardLine}
use Rattle.job_line.specs.declared.wrong.Wrong.{Wrong}
use Rattle.job_line.specs.CellLines as cell-lines
use Rattle.job.specs.declared.bad_line.BadLine.{BadLine}
use Rattle.job.specs.declared.job.Job.{Job}
use Rattle.job.specs.Drafts.{State, empty, TakesIn, RefusesLineOf}
use Rattle.job.specs.Finishes.{Finishes, Unfinished}
use Rattle.job.specs.FirstLines.{FirstLine}

-- After n lines, which made s of the job, the lines of the text lead to t, and m is then the number of lines.
pub data Leads : ℕ → List ℕ → State → ℕ → State → Type 0 where
  ended : {n : ℕ} {s : State} → Leads n [] s n s
  goes_on : {n m : ℕ} {text : List ℕ} {s u : State} (line rest : List ℕ) (t : State) → 0 < length text →
      FirstLine text line rest → TakesIn (n + 1) line s t → Leads (n + 1) rest t m u → Leads n text s m u

-- After n lines, one of the text's lines is wrong, and those before it are not.
pub data Breaks : ℕ → List ℕ → State → BadLine → Type 0 where
  here : {n : ℕ} {text : List ℕ} {s : State} {e : Wrong} (line rest : List ℕ) → 0 < length text →
      FirstLine text line rest → RefusesLineOf (n + 1) line s e → Breaks n text s (record { line = n + 1; wrong = e })
  later : {n : ℕ} {text : List ℕ} {s : State} {e : BadLine} (line rest : List ℕ) (t : State) → 0 < length text →
      FirstLine text line rest → TakesIn (n + 1) line s t → Breaks (n + 1) rest t e → Breaks n text s e

-- the job is what all lines of the text say
pub record Reads (text : List ℕ) (j : Job) : Type 0 where
  pub lines : ℕ
  pub state : State
  pub leads : Leads 0 text empty lines state
  pub finishes : Finishes state j

-- a line is wrong, or the lines together make no job
pub data Stops (text : List ℕ) : BadLine → Type 0 where
  breaks : {e : BadLine} → Breaks 0 text empty e → Stops text e
  unfinished : {e : BadLine} (lines : ℕ) (s : State) → Leads 0 text empty lines s → Unfinished s lines e → Stops text e

-- a known cell's limits are in order and hold its content
abbrev pub LawfulCell : Cell → Type 0
LawfulCell Unknown = Unit {0}
LawfulCell (Known h) = cell-lines.Lawful h

abbrev pub FewPlaces : BoardLine → Type 0
FewPlaces b = (b.control ≤ 1000000) × (b.results ≤ 1000000)

-- what cells and boards that were read can be relied on for
pub record SoundParts (cells : List Cell) (boards : List BoardLine) : Type 0 where
  pub locations : length cells ≡ 256
  pub lawful : AllByRecursion LawfulCell cells
  pub few_places : AllByRecursion FewPlaces boards

abbrev pub Sound : Job → Type 0
Sound j = SoundParts j.cells (vec_items j.boards)
