-- What needs and refusals print.
use Rattle.std.specs.Prelude.{ℕ, List, ◌++◌, codes, decimal}
use Rattle.loading.specs.declared.needs.Needs.{Needs}
use Rattle.loading.specs.declared.refusal.Refusal.{Refusal}
use Rattle.loading.specs.Questions.{number_of, row_of}

-- `control K results R`
abbrev pub text_of_needs : Needs → List ℕ
text_of_needs n = codes "control " ++ (decimal n.control ++ (codes " results " ++ decimal n.results))

-- `refused Q row P`: the question that got a no, and its row
abbrev pub text_of_refusal : Refusal → List ℕ
text_of_refusal e = codes "refused " ++ (decimal (number_of e) ++ (codes " row " ++ decimal (row_of e)))
