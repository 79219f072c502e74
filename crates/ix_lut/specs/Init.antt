-- How the INIT property of a LUT cell reads as a truth table. A text is the list of its bytes.
use Rattle.std.specs.Prelude.{ℕ, ◌+◌, ◌-◌, ◌*◌, ◌^◌, List, [], ◌∷◌, ◌++◌, length, Bool, ◌&&◌}
use Rattle.std.specs.Prelude.{nat_eq, nat_lt, nat_le, Option, Some, None}
use Rattle.std.specs.Prelude.{option_and_then, if◌then◌else◌, codes}
use Rattle.std.specs.Fmt.{decimal}
use Rattle.ix_lut.specs.Tables.{TableBits}
use Rattle.ix_lut.specs.declared.init.InitValue.{InitValue}
use Rattle.ix_lut.specs.declared.init.InitValue.TheVariants.{Text, Int}

-- a byte is one of these and those between them
abbrev pub is_within : (first last byte : ℕ) → Bool
is_within first last byte = nat_le first byte && nat_le byte last

-- the value of a digit: `0` to `9`, and `a` to `f` or `A` to `F` for 10 to 15
abbrev pub digit : ℕ → Option ℕ
digit byte = if is_within 48 57 byte then Some (byte - 48)
    else if is_within 97 102 byte then Some (byte - 87)
    else if is_within 65 70 byte then Some (byte - 55)
    else None

-- a number with a digit behind it, in this base
abbrev pub digit_behind : (base value byte : ℕ) → Option ℕ
digit_behind base value byte =
    option_and_then (λ d. if nat_lt d base then Some (value * base + d) else None) (digit byte)

-- a number with these digits behind it
abbrev pub digits_behind : (base value : ℕ) → List ℕ → Option ℕ
digits_behind base value [] = Some value
digits_behind base value (byte ∷ bytes) =
    option_and_then (λ v. digits_behind base v bytes) (digit_behind base value byte)

-- the number that these digits spell; at least one has to be there
abbrev pub spelled_number : (base : ℕ) → List ℕ → Option ℕ
spelled_number base [] = None
spelled_number base (byte ∷ bytes) = digits_behind base 0 (byte ∷ bytes)

-- what stands behind this beginning of a text, if the text begins so
abbrev pub behind : (front text : List ℕ) → Option (List ℕ)
behind [] text = Some text
behind (f ∷ front) [] = None
behind (f ∷ front) (byte ∷ text) = if nat_eq f byte then behind front text else None

-- a text that begins as asked is the number of the digits behind; another is what is said of it
abbrev pub number_behind : Option (List ℕ) → (base : ℕ) → Option ℕ → Option ℕ
number_behind None base other = other
number_behind (Some digits) base other = spelled_number base digits

-- how many bits a table of this many inputs has, in decimal
abbrev pub width_text : (inputs : ℕ) → List ℕ
width_text inputs = decimal (2 ^ inputs)

-- The number that a text spells as the INIT of a LUT of this many inputs: with its width, `h` or
-- `b` and digits, as in `4'h8`; with `0x` or `0b` and digits; or as just so many binary digits as
-- the table has bits. No two of these can be meant by one text.
unfoldable pub text_number : (inputs : ℕ) (text : List ℕ) → Option ℕ
text_number inputs text =
    number_behind (behind (width_text inputs ++ codes "'h") text) 16
    (number_behind (behind (width_text inputs ++ codes "'b") text) 2
    (number_behind (behind (codes "0x") text) 16
    (number_behind (behind (codes "0b") text) 2
    (if nat_eq (length text) (2 ^ inputs) then spelled_number 2 text else None))))

-- a number, if it is below this one
abbrev pub number_below : (limit number : ℕ) → Option ℕ
number_below limit number = if nat_lt number limit then Some number else None

-- the bits of a table of this many inputs that an INIT reads as
abbrev pub init_bits : InitValue → (inputs : ℕ) → Option TableBits
init_bits (Text text) inputs =
    option_and_then (number_below (2 ^ (2 ^ inputs))) (text_number inputs text.now)
init_bits (Int number) inputs = number_below (2 ^ (2 ^ inputs)) number
