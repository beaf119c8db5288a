-- The decimal digits of a number write it.
use Rattle.std.proofs.Common.{◌≡◌, ℕ, ◌^◌, ◌<◌, decimal, rules, arith}
use Rattle.std.proofs.lemmas.Fmt.{decimal_nonempty, digits_decimal, digits_value-decimal}
use Rattle.std.proofs.lemmas.Str.Parse.{IsNumeralModel, numerals_by_weight}
use Rattle.fields.specs.Numbers.{Digits, number_of, Word}

numerals : IsNumeralModel Digits number_of
numerals = numerals_by_weight _ (search rules) number_of (search rules)

pub number_of-decimal : (n : ℕ) → n < 2 ^ 64 → number_of (decimal n) ≡ n
number_of-decimal n h = digits_value-decimal numerals n h

pub word_decimal : (n : ℕ) → n < 2 ^ 32 → Word (decimal n)
word_decimal n h = (decimal_nonempty n (omega arith), digits_decimal numerals n (omega arith), omega (arith, number_of-decimal n (omega arith)))
