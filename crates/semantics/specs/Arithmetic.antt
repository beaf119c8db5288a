-- What operators and relations make of two numbers.
use Rattle.std.specs.Prelude.{ℕ, zero, suc, Bool, cond, ◌&&◌, ℤ, pos, negsuc, ◌+ℤ◌, ◌-ℤ◌, ◌*ℤ◌, Some, None, Err, Option, Result, int_div, int_le, int_lt}
use Rattle.std.specs.Option.{ok_or}
use Rattle.rows.specs.declared.row.Operator.{Operator}
use Rattle.rows.specs.declared.row.Operator.TheVariants.{Plus, Minus, Times, Over}
use Rattle.rows.specs.declared.row.Relation.{Relation}
use Rattle.rows.specs.declared.row.Relation.TheVariants.{Greater, Less, Equal}
use Rattle.semantics.specs.declared.arithmetic.ArithmeticFault.{ArithmeticFault}
use Rattle.semantics.specs.declared.arithmetic.ArithmeticFault.TheVariants.{ZeroDivisor, OutOfRange}

-- the quotient of x by a divisor other than 0, cut toward zero: how a quotient is rounded is said here and nowhere else
abbrev pub quotient : ℤ → ℤ → ℤ
quotient x y = int_div x y

abbrev pub divided : ℤ → ℤ → Option ℤ
divided x (pos zero) = None
divided x (pos (suc n)) = Some (quotient x (pos (suc n)))
divided x (negsuc n) = Some (quotient x (negsuc n))

-- the exact outcome among all whole numbers: there is none where the divisor is 0
abbrev pub outcome : Operator → ℤ → ℤ → Option ℤ
outcome Plus x y = Some (x +ℤ y)
outcome Minus x y = Some (x -ℤ y)
outcome Times x y = Some (x *ℤ y)
outcome Over x y = divided x y

-- a number of 32 bits
abbrev pub in_range : ℤ → Bool
in_range z = int_le (negsuc 2147483647) z && int_le z (pos 2147483647)

-- the same number, where it is one of 32 bits
abbrev pub kept : ℤ → Option ℤ
kept z = cond (in_range z) (Some z) None

-- is there an outcome (17), and is it a number of 32 bits (18)?
abbrev pub fitting : Option ℤ → Result ℤ ArithmeticFault
fitting None = Err ZeroDivisor
fitting (Some z) = ok_or (kept z) OutOfRange

-- what a row of arithmetic makes of its left and its right operand
abbrev pub computed : Operator → ℤ → ℤ → Result ℤ ArithmeticFault
computed o x y = fitting (outcome o x y)

abbrev pub arithmetic_number : ArithmeticFault → ℕ
arithmetic_number ZeroDivisor = 17
arithmetic_number OutOfRange = 18

-- whether the left and the right operand stand in the relation
abbrev pub compared : Relation → ℤ → ℤ → Bool
compared Greater x y = int_lt y x
compared Less x y = int_lt x y
compared Equal x y = int_le x y && int_le y x
