-- Numbers in words. A text is the list of its bytes.
use Rattle.std.specs.Prelude.{ℕ, ◌+◌, ◌-◌, ◌*◌, List, length, Bool, ◌&&◌, nat_le, fold}
use Rattle.std.specs.Prelude.{Option, Some, None, if◌then◌else◌}
use Rattle.std.specs.List.{list_all}

-- `0` to `9`
abbrev pub is_digit : (byte : ℕ) → Bool
is_digit byte = nat_le 48 byte && nat_le byte 57

-- the number that digits write in decimal
abbrev pub decimal_value : (digits : List ℕ) → ℕ
decimal_value digits = fold (λ value digit. value * 10 + (digit - 48)) 0 digits

-- 1 to 20 decimal digits and nothing else
abbrev pub is_number : (text : List ℕ) → Bool
is_number text = nat_le 1 (length text) && nat_le (length text) 20 && list_all is_digit text

-- the number that a text writes, if it is one from `low` to `high`
unfoldable pub number_in : (text : List ℕ) (low high : ℕ) → Option ℕ
number_in text low high =
    if is_number text && nat_le low (decimal_value text) && nat_le (decimal_value text) high
    then Some (decimal_value text) else None
