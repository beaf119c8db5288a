-- What the questions and the needs of a table come to.
use Rattle.std.specs.Prelude.{◌≡◌, ℕ, List, Ok, Err, Result}
use Rattle.loading.specs.declared.needs.Needs.{Needs}
use Rattle.loading.specs.declared.refusal.Refusal.{Refusal}
use Rattle.loading.specs.Questions.{Loaded, FirstNo}
use Rattle.rows.specs.Rows.{last_row}
use Rattle.loading.specs.Stacks.{needs_at}

-- the table is accepted with the needs of its last row, or refused at the first question that gets a no
abbrev pub Answers : List ℕ → Result Needs Refusal → Type 0
Answers table (Ok n) = Loaded table × (n ≡ needs_at table (last_row table))
Answers table (Err e) = FirstNo table e
