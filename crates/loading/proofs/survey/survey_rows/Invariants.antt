-- Every row below p has passed, and the list has the needs of each, and nothing past them.
use Rattle.std.proofs.Common.{◌≡◌, ℕ, ◌<◌}
use Rattle.loading.specs.Stacks.{needs_below}
use Rattle.loading.specs.Surveys.{RowPasses, known_of}
use Rattle.loading.proofs.survey.survey_rows.Given as goal

abbrev pub invariant-loop-p : goal.invariant-loop-p
invariant-loop-p l = record {
  passed : (k : ℕ) → k < l.p → RowPasses l.table k;
  needs : (k : ℕ) → known_of l.known k ≡ needs_below l.table l.p k;
}
