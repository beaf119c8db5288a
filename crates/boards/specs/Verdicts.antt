-- What is said of all boards, as it is printed.
use Rattle.std.specs.Prelude.{ℕ, List, codes}
use Rattle.boards.specs.declared.verdict.Verdict.{Verdict}

abbrev pub text_of : Verdict → List ℕ
text_of Verdict.Agree = codes "agree"
text_of Verdict.Differ = codes "differ"
text_of Verdict.Undecided = codes "undecided"
