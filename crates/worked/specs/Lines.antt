-- The lines of the casebook.
use Rattle.std.specs.Prelude.{ℕ, List, ◌++◌, Some, None, codes, decimal, Option}
use Rattle.semantics.specs.Worked.{Case}
use Rattle.worked.specs.declared.line.Line.{Line}
use Rattle.worked.specs.Setups.{case_of}

abbrev pub line_for : ℕ → Option Case → Option Line
line_for n None = None
line_for n (Some c) = Some (record { number = n; end = c.end; row = c.row; count = c.count })

-- what the case with that number claims
abbrev pub claimed_line : ℕ → Option Line
claimed_line n = line_for n (case_of n)

-- `cN end row count`
abbrev pub text_of : Line → List ℕ
text_of l = codes "c" ++ (decimal l.number ++ (codes " " ++ (decimal l.end ++ (codes " " ++ (decimal l.row ++ (codes " " ++ decimal l.count))))))
