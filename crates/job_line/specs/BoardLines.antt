-- The board that the words of a line ask for.
use Rattle.std.specs.Prelude.{◌≡◌, ℕ, ◌<◌, ◌≤◌, List, length, drop, vec_items}
use Rattle.job_line.specs.declared.board_line.BoardLine.{BoardLine}
use Rattle.job_line.specs.declared.wrong.Wrong.{Wrong}
use Rattle.job_line.specs.declared.wrong.Wrong.TheVariants.{Missing}
use Rattle.job_line.specs.CellLines.{word}
use Rattle.job_line.specs.Makes.{Writes, RefusesMake}
use Rattle.job_line.specs.Numbers.{Places, RefusesPlaces, Numbers, RefusesNumbers}

-- a make, the places of the two stacks, and slices
pub record SaysBoard (ws : List (List ℕ)) (line : ℕ) (b : BoardLine) : Type 0 where
  pub three : 3 ≤ length ws
  pub numbered : b.line ≡ line
  pub make : Writes (word ws 0) b.make
  pub control : Places (word ws 1) b.control
  pub results : Places (word ws 2) b.results
  pub slices : Numbers (drop 3 ws) (vec_items b.slices)

pub data RefusesBoard (ws : List (List ℕ)) : Wrong → Type 0 where
  few : length ws < 3 → RefusesBoard ws Missing
  no_make : {e : Wrong} → RefusesMake (word ws 0) e → RefusesBoard ws e
  no_control : {e : Wrong} → RefusesPlaces (word ws 1) e → RefusesBoard ws e
  no_results : {e : Wrong} → RefusesPlaces (word ws 2) e → RefusesBoard ws e
  no_slices : {e : Wrong} → RefusesNumbers (drop 3 ws) e → RefusesBoard ws e
