-- Why a number has one decimal.
use Rattle.std.proofs.Common.{◌≡◌, ℕ, zero, suc, ◌<◌, ◌^◌, length, get_or, decimal, sym, ap, subst, ◌∙◌, arith, rules}
use Rattle.std.proofs.lemmas.Fmt.{digits_decimal, digits_value-decimal, decimal_digit, decimal_nonempty, first_decimal, decimal-digits_value, length-decimal-le}
use Rattle.std.proofs.lemmas.Str.Parse.{IsNumeralModel, numerals_by_fold, digits_value_short}
use Rattle.listing.specs.Decimal.{AreDigits, value_after, value_of, NumbersHaveOneDecimal}

own : IsNumeralModel AreDigits value_of
own = numerals_by_fold AreDigits (search rules) value_after (search rules)

zero_first : (n : ℕ) → n < 2 ^ 64 → get_or (decimal n) 0 0 ≡ 48 → length (decimal n) ≡ 1
zero_first zero h e = ap length (decimal_digit 0 (omega arith))
zero_first (suc n) h e = absurd (omega (arith, e, first_decimal (suc n) (omega arith) h))

pub numbers_have_one_decimal_lem : NumbersHaveOneDecimal
numbers_have_one_decimal_lem n h = record {
  is_decimal = record { digits = digits_decimal own n h; some = decimal_nonempty n h; no_zero_first = zero_first n h };
  value = digits_value-decimal own n h;
  only = λ ds d e. sym (decimal-digits_value own ds d.digits d.some d.no_zero_first (omega arith)) ∙ ap decimal e;
  shortest = λ ds d some e. length-decimal-le (length ds) n some (subst (λ m. m < 10 ^ length ds) e (digits_value_short own ds (length ds) d (omega arith))) h;
}
