use Rattle.std.proofs.Common.{replicate, ap, ◌∙◌}
use Rattle.loading.specs.Surveys.{known_of}
use Rattle.loading.proofs.Spared.{known_none}
use Rattle.loading.proofs.survey.survey.Goals as goal

pub survey_rows-requires-clause-blank : goal.survey_rows-requires-clause-blank
survey_rows-requires-clause-blank c = λ k. ap (λ n. known_of (replicate 4096 n) k) c.default-known.ensures ∙ known_none 4096 k
