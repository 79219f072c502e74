use Rattle.std.proofs.Common.{◌≡◌, ◌<◌, ◌^◌, take, true}
use Rattle.std.specs.List.{list_all}
use Rattle.ix_words.specs.Numbers.{is_digit, decimal_value}
use Rattle.ix_words.proofs.number.value_of.Given as goal

abbrev pub invariant-loop-digit : goal.invariant-loop-digit
invariant-loop-digit l = (list_all is_digit (take l.digit-index l.digits) ≡ true)
    × (l.value ≡ decimal_value (take l.digit-index l.digits)) × (l.value < 10 ^ l.digit-index)
