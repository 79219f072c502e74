-- The tables of LUT elements, as properties of a netlist.
use Rattle.std.specs.Prelude.{◌≡◌, ℕ, ◌+◌, ◌-◌, ◌*◌, List, [], ◌∷◌, ◌++◌, length, slice_get}
use Rattle.std.specs.Prelude.{Contains, Option, Some, None, option_and_then, if◌then◌else◌, nat_eq}
use Rattle.std.specs.Prelude.{codes}
use Rattle.std.specs.Fmt.{decimal}
use Rattle.ix_message.specs.Shape.{Text}
use Rattle.ix_num.specs.Numbers.{NameNumber}
use Rattle.ix_rec.specs.declared.phys.Phys.{Phys}
use Rattle.ix_rec.specs.declared.phys.Property.{Property}
use Rattle.ix_lut.specs.Init.{is_within}
use Rattle.ix_lut.specs.Places.{ElementBits}
use Rattle.ix_legal.specs.Sites.{ElementNumber}

-- A key that begins so is a table's; properties with other keys are passed over.
abbrev pub IsTableKey : Text → Type 0
IsTableKey key = (rest : Text) × (key ≡ codes "TABLE/" ++ rest)

-- `TABLE/SITE/ELEMENT`, for a site's name and the number of an element. As a number has no slash,
-- no other site and element have this key.
abbrev pub table_key : (site : Text) → ElementNumber → Text
table_key site element = codes "TABLE/" ++ site ++ codes "/" ++ decimal element

-- `0` to `9`, and `A` to `F` for 10 to 15
abbrev pub upper_digit : (byte : ℕ) → Option ℕ
upper_digit byte = if is_within 48 57 byte then Some (byte - 48)
    else if is_within 65 70 byte then Some (byte - 55)
    else None

-- a number with these hexadecimal digits behind it
abbrev pub with_digits : (number : ℕ) → Text → Option ℕ
with_digits number [] = Some number
with_digits number (byte ∷ bytes) =
    option_and_then (λ d. with_digits (number * 16 + d) bytes) (upper_digit byte)

-- the bits that a value tells: 16 digits, the most significant first
abbrev pub table_bits : Text → Option ElementBits
table_bits text = if nat_eq (length text) 16 then with_digits 0 text else None

-- a property tells the table of this element of this site
pub record HasTable (names : List Text) (phys : Phys) (site : NameNumber) (element : ElementNumber)
    (bits : ElementBits) : Type 0 where
  pub property : Property
  pub stands : Contains phys.properties property
  pub site_text : Text
  pub site_is : slice_get names site ≡ Some site_text
  pub key_is : slice_get names property.key ≡ Some (table_key site_text element)
  pub value_is : option_and_then table_bits (slice_get names property.value) ≡ Some bits
