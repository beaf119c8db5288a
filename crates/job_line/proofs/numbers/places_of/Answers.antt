use Rattle.std.proofs.Common.{arith}
use Rattle.std.proofs.lemmas.Grind.{common_steps}
use Rattle.job_line.specs.Numbers.RefusesPlaces.{not_word, too_many}
use Rattle.job_line.proofs.numbers.places_of.Goals as goal

pub returns-in_err-n : goal.returns-in_err-n
returns-in_err-n c = grind (arith, common_steps, not_word)

pub returns-then-n-gt-MOST_PLACES : goal.returns-then-n-gt-MOST_PLACES
returns-then-n-gt-MOST_PLACES c = grind (arith, common_steps, too_many)
