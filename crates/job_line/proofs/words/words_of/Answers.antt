use Rattle.std.proofs.Common.{arith, refl}
use Rattle.std.proofs.lemmas.Grind.{common_steps}
use Rattle.std.proofs.lemmas.Result.{MatchResult-weaker}
use Rattle.job_line.specs.Words.RefusesWords.{bad_byte, no_memory}
use Rattle.job_line.proofs.words.words_of.Goals as goal

pub returns-then-not-all_plain : goal.returns-then-not-all_plain
returns-then-not-all_plain c = grind (arith, common_steps, bad_byte c.code_of-code.result.now c.code_of-code.ensures)

pub returns : goal.returns
returns c =
    MatchResult-weaker c.cut.result c.cut.ensures
    (λ v words. record { code = c.code_of-code.result.now; front = c.code_of-code.ensures; plain = c.if-not-all_plain.ensures.0 refl; words = words })
    (λ e is. grind (arith, no_memory))
