-- The program place: the table that it holds, and what loading another makes of it.
use Rattle.std.specs.Prelude.{◌≡◌, ℕ, List, Ok, Err, Result}
use Rattle.loading.specs.declared.needs.Needs.{Needs}
use Rattle.table.specs.declared.program.Program.{Program}
use Rattle.loading.specs.declared.refusal.Refusal.{Refusal}
use Rattle.loading.specs.Questions.{Loaded, FirstNo}
use Rattle.rows.specs.Rows.{last_row}
use Rattle.loading.specs.Stacks.{needs_at}
use Rattle.loading.specs.WellFormed.{WellFormed}

abbrev pub table_of : Program → List ℕ
table_of place = place.words.now

-- a place holds the table, which is loaded and well formed, with the needs of its last row
pub record Accepted (table : List ℕ) (place : Program) : Type 0 where
  pub loaded : Loaded table
  pub formed : WellFormed table
  pub needs : place.needs ≡ needs_at table (last_row table)
  pub holds : table_of place ≡ table

-- Load was handed a table and gave an answer; the place was one thing before and another after.
-- Accepted: every question got a yes, the answer is the needs of the last row, and the place holds the table.
-- Refused: the answer is the first question that got a no, with its row, and the place is what it was.
abbrev pub Loads : List ℕ → Program → Program → Result Needs Refusal → Type 0
Loads table before after (Ok n) = Accepted table after × (n ≡ needs_at table (last_row table))
Loads table before after (Err e) = FirstNo table e × (after ≡ before)
