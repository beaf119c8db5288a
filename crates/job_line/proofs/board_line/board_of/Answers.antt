use Rattle.std.proofs.Common.{refl, arith}
use Rattle.std.proofs.lemmas.Grind.{common_steps}
use Rattle.std.proofs.lemmas.List.{drop-map}
use Rattle.job_line.specs.BoardLines.RefusesBoard.{few, no_make, no_control, no_results, no_slices}
use Rattle.job_line.specs.Makes.{Writes}
use Rattle.job_line.proofs.Listed.{told, word_is, length_texts}
use Rattle.job_line.proofs.board_line.board_of.Goals as goal

pub returns-in_default : goal.returns-in_default
returns-in_default c = grind (arith, common_steps, few, length_texts)

pub returns-in_err-make_of : goal.returns-in_err-make_of
returns-in_err-make_of c = grind (arith, common_steps, no_make, word_is)

pub returns-in_err-places_of : goal.returns-in_err-places_of
returns-in_err-places_of c = grind (arith, common_steps, no_control, word_is)

pub returns-in_err-places_of-2 : goal.returns-in_err-places_of-2
returns-in_err-places_of-2 c = grind (arith, common_steps, no_results, word_is)

pub returns-in_err-numbers_of : goal.returns-in_err-numbers_of
returns-in_err-numbers_of c = grind (arith, common_steps, no_slices, drop-map)

pub returns : goal.returns
returns c =
    record {
      three = grind (arith, common_steps, length_texts);
      numbered = refl;
      make = told (λ w. Writes w c.in_ok-make_of.field-0) c.args.words.now 0 (omega arith) c.in_ok-make_of.ensures;
      control = grind (arith, common_steps, word_is);
      results = grind (arith, common_steps, word_is);
      slices = grind (arith, common_steps, drop-map);
    }
