-- Numbers as they are written.
use Rattle.std.proofs.Common.{◌≡◌, ◌<◌, ◌≤◌, ◌^◌, ◌∙◌, ap, sym, subst, ℕ, length}
use Rattle.std.proofs.Common.{arith, Result, Ok, inl, inr}
use Rattle.std.specs.Fmt.{decimal}
use Rattle.std.specs.Result.{OkIff}
use Rattle.std.specs.Str.Parse.{AllDigits, digits_value, ParsesUnsigned}
use Rattle.std.proofs.lemmas.Bool.{cases_lt}
use Rattle.std.proofs.lemmas.Fmt.{decimal_digit, decimal_nonempty, digits_decimal, first_decimal}
use Rattle.std.proofs.lemmas.Fmt.{decimal-digits_value}
use Rattle.std.proofs.lemmas.Str.Parse.{IsNumeralModel, numerals_by_value, tells_digits}
use Rattle.std.proofs.lemmas.Str.Parse.{not_in_digits, parse_plain}
use Rattle.ix_message.specs.Shape.{Text}
use Rattle.ix_named_there.specs.Keys.{BeginPlainly}

own : IsNumeralModel (AllDigits 10) (digits_value 10)
own = numerals_by_value (AllDigits 10) tells_digits

pub decimal_plain : (n : ℕ) → n < 2 ^ 64 → BeginPlainly (decimal n)
decimal_plain n few = record {
  no_sign = not_in_digits own (decimal n) 43 (digits_decimal own n few)
      (λ within. omega (arith, within)) 0 (decimal_nonempty n few);
  no_zero = λ zero_first. elim (cases_lt 0 n) [
    | inl positive ↦ absurd (omega (arith, zero_first, first_decimal n positive few))
    | inr none ↦
        omega (arith, ap length (ap decimal (is_zero n none) ∙ decimal_digit 0 (omega arith)))
  ];
}
  where
    is_zero : (n : ℕ) → n ≤ 0 → n ≡ 0
    is_zero n le = omega arith

-- what is read from digits that begin plainly is written so
pub written_so : {E : Type 0} (ds : Text) (r : Result ℕ E) (n : ℕ) → r ≡ Ok n
    → ParsesUnsigned 32 10 ds r → BeginPlainly ds → ds ≡ decimal n
written_so ds r n is parses plain =
    let read : (AllDigits 10 ds × (0 < length ds) × (digits_value 10 ds < 2 ^ 32))
    × (n ≡ digits_value 10 ds)
    = subst (λ o. OkIff o (AllDigits 10 ds × (0 < length ds) × (digits_value 10 ds < 2 ^ 32))
    (digits_value 10 ds)) is (parse_plain own 32 ds r parses plain.no_sign) in
    sym (ap decimal read.1 ∙ decimal-digits_value own ds read.0.0 read.0.1
    (λ zero_first. omega (arith, read.0.1, plain.no_zero zero_first)) (omega (arith, read.0.2)))
