-- The twelve worked runs, and a few more for the faults that these do not show.
use Rattle.std.specs.Prelude.{ℕ, List, [], ◌∷◌, pos, negsuc, Some, None, Option}
use Rattle.cells.specs.declared.cell.Mark.TheVariants.{Free, Fixed}
use Rattle.cells.specs.declared.cell.Cell.{Cell}
use Rattle.cells.specs.declared.cell.Cell.TheVariants.{Unknown, Known}
use Rattle.cells.specs.Cells.{widest}
use Rattle.loading.specs.declared.needs.Needs.{Needs}
use Rattle.semantics.specs.Worked.{Case, Worked, Each}

-- a cell that holds the number
abbrev pub holding : ℕ → ℕ → ℕ × Cell
holding l n = (l, Known (widest (Some (pos n))))

abbrev pub needing : ℕ → ℕ → Option Needs
needing k h = Some (record { control = k; results = h })

-- l3 := 7
abbrev pub put_seven : List ℕ
put_seven =
    0 ∷ 7 ∷ 0 ∷ 0 ∷
    8 ∷ 3 ∷ 0 ∷ 0 ∷ []

-- l3 := x / y, the numbers given by their words
abbrev pub put_quotient : ℕ → ℕ → List ℕ
put_quotient x y =
    0 ∷ x ∷ 0 ∷ 0 ∷
    0 ∷ y ∷ 0 ∷ 0 ∷
    2 ∷ 3 ∷ 0 ∷ 1 ∷
    8 ∷ 3 ∷ 2 ∷ 0 ∷ []

-- l3 := !l9
abbrev pub copy_nine : List ℕ
copy_nine =
    1 ∷ 9 ∷ 0 ∷ 0 ∷
    8 ∷ 3 ∷ 0 ∷ 0 ∷ []

-- l2 := 1; while !l1 > 0 do (l2 := !l2 × !l1; l1 := !l1 − 1): rows 0 and 2 are named by several rows
abbrev pub factorial : List ℕ
factorial =
    0 ∷ 1 ∷ 0 ∷ 0 ∷
    8 ∷ 2 ∷ 0 ∷ 0 ∷
    1 ∷ 1 ∷ 0 ∷ 0 ∷
    0 ∷ 0 ∷ 0 ∷ 0 ∷
    4 ∷ 0 ∷ 2 ∷ 3 ∷
    1 ∷ 2 ∷ 0 ∷ 0 ∷
    2 ∷ 2 ∷ 5 ∷ 2 ∷
    8 ∷ 2 ∷ 6 ∷ 0 ∷
    2 ∷ 1 ∷ 2 ∷ 0 ∷
    8 ∷ 1 ∷ 8 ∷ 0 ∷
    9 ∷ 7 ∷ 9 ∷ 0 ∷
    11 ∷ 4 ∷ 10 ∷ 0 ∷
    9 ∷ 1 ∷ 11 ∷ 0 ∷ []

abbrev pub twelve_runs : List Case
twelve_runs =
    -- c1: skip
    record { table = 7 ∷ 0 ∷ 0 ∷ 0 ∷ []; start = []; limit = 1000000; end = 0; row = 0; location = 0; count = 1; left = []; needs = None }
    -- c2
    ∷ record { table = put_seven; start = []; limit = 1000000; end = 0; row = 0; location = 0; count = 3; left = (3, pos 7) ∷ []; needs = None }
    -- c3
    ∷ record { table = put_quotient 1 0; start = []; limit = 1000000; end = 17; row = 2; location = 0; count = 4; left = []; needs = None }
    -- c4
    ∷ record { table = copy_nine; start = []; limit = 1000000; end = 14; row = 0; location = 9; count = 1; left = []; needs = None }
    -- c5: while true do skip
    ∷ record { table = 3 ∷ 1 ∷ 0 ∷ 0 ∷ 7 ∷ 0 ∷ 0 ∷ 0 ∷ 11 ∷ 0 ∷ 1 ∷ 0 ∷ []; start = []; limit = 100; end = 19; row = 0; location = 0; count = 100; left = []; needs = None }
    -- c6: if (false and 1 / 0 = 1) then skip else skip
    ∷ record {
      table =
          3 ∷ 0 ∷ 0 ∷ 0 ∷
          0 ∷ 1 ∷ 0 ∷ 0 ∷
          0 ∷ 0 ∷ 0 ∷ 0 ∷
          2 ∷ 3 ∷ 1 ∷ 2 ∷
          4 ∷ 2 ∷ 3 ∷ 1 ∷
          6 ∷ 0 ∷ 4 ∷ 0 ∷
          7 ∷ 0 ∷ 0 ∷ 0 ∷
          10 ∷ 5 ∷ 6 ∷ 6 ∷ [];
      start = [];
      limit = 1000000;
      end = 17;
      row = 3;
      location = 0;
      count = 7;
      left = [];
      needs = None;
    }
    -- c7: the factorial of 4
    ∷ record { table = factorial; start = holding 1 4 ∷ []; limit = 1000000; end = 0; row = 0; location = 0; count = 86; left = (1, pos 0) ∷ (2, pos 24) ∷ []; needs = needing 6 4 }
    -- c8: that of 13 is no number of 32 bits
    ∷ record { table = factorial; start = holding 1 13 ∷ []; limit = 1000000; end = 18; row = 6; location = 0; count = 205; left = (1, pos 3) ∷ (2, pos 1037836800) ∷ []; needs = needing 6 4 }
    -- c9: l1 and l2 change places by way of l3
    ∷ record {
      table =
          1 ∷ 1 ∷ 0 ∷ 0 ∷
          8 ∷ 3 ∷ 0 ∷ 0 ∷
          1 ∷ 2 ∷ 0 ∷ 0 ∷
          8 ∷ 1 ∷ 2 ∷ 0 ∷
          9 ∷ 1 ∷ 3 ∷ 0 ∷
          1 ∷ 3 ∷ 0 ∷ 0 ∷
          8 ∷ 2 ∷ 5 ∷ 0 ∷
          9 ∷ 4 ∷ 6 ∷ 0 ∷ [];
      start = holding 1 2 ∷ holding 2 4 ∷ holding 3 0 ∷ [];
      limit = 1000000;
      end = 0;
      row = 0;
      location = 0;
      count = 11;
      left = (1, pos 4) ∷ (2, pos 2) ∷ (3, pos 2) ∷ [];
      needs = None;
    }
    -- c10: the lowest number over −1
    ∷ record { table = put_quotient 2147483648 4294967295; start = []; limit = 1000000; end = 18; row = 2; location = 0; count = 4; left = []; needs = None }
    -- c11: −7 over 2 is −3
    ∷ record { table = put_quotient 4294967289 2; start = []; limit = 1000000; end = 0; row = 0; location = 0; count = 6; left = (3, negsuc 2) ∷ []; needs = None }
    -- c12: c2 at the limit 2, and at 3
    ∷ record { table = put_seven; start = []; limit = 2; end = 19; row = 0; location = 0; count = 2; left = []; needs = None }
    ∷ record { table = put_seven; start = []; limit = 3; end = 0; row = 0; location = 0; count = 3; left = (3, pos 7) ∷ []; needs = None }
    ∷ []

-- what the store refuses: an unknown cell read or written, a fixed cell, a number past its cell's limits
abbrev pub refused_runs : List Case
refused_runs =
    record { table = copy_nine; start = (9, Unknown) ∷ []; limit = 1000000; end = 13; row = 0; location = 9; count = 1; left = []; needs = None }
    ∷ record { table = put_seven; start = (3, Unknown) ∷ []; limit = 1000000; end = 13; row = 1; location = 3; count = 2; left = []; needs = None }
    ∷ record {
      table = put_seven;
      start = (3, Known (record { lowest = pos 0; highest = pos 6; mark = Fixed; content = Some (pos 5) })) ∷ [];
      limit = 1000000;
      end = 15;
      row = 1;
      location = 3;
      count = 2;
      left = (3, pos 5) ∷ [];
      needs = None;
    }
    ∷ record {
      table = put_seven;
      start = (3, Known (record { lowest = pos 0; highest = pos 6; mark = Free; content = Some (pos 5) })) ∷ [];
      limit = 1000000;
      end = 16;
      row = 1;
      location = 3;
      count = 2;
      left = (3, pos 5) ∷ [];
      needs = None;
    }
    ∷ []

abbrev pub RunsEndAsStated : Type 0
RunsEndAsStated = Each Worked twelve_runs × Each Worked refused_runs
