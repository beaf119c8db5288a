-- The line that tells what loading a table answers.
use Rattle.std.specs.Prelude.{◌≡◌, ℕ, List, Ok, Err, Result}
use Rattle.fields.specs.Reading.{Values}
use Rattle.loading.specs.declared.needs.Needs.{Needs}
use Rattle.loading.specs.declared.refusal.Refusal.{Refusal}
use Rattle.loading.specs.Loading.{Answers}
use Rattle.loading.specs.Texts.{text_of_needs, text_of_refusal}

abbrev pub line_of : Result Needs Refusal → List ℕ
line_of (Ok n) = text_of_needs n
line_of (Err e) = text_of_refusal e

-- the line tells what loading answers for the words that the text writes
pub record Tells (text line : List ℕ) : Type 0 where
  pub words : List ℕ
  pub read : Values text words
  pub answer : Result Needs Refusal
  pub loads : Answers words answer
  pub told : line ≡ line_of answer
