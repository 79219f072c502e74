-- The BEL pins of cell pins, by the names of the cell pins.
use Rattle.std.specs.Prelude.{◌≡◌, ◌<◌, ℕ, List, slice_get, Bool, false, nat_eq, Option, Some, None}
use Rattle.std.specs.Prelude.{option_map, option_and_then, if◌then◌else◌}
use Rattle.std.specs.List.{find}
use Rattle.ix_num.specs.Numbers.{NameNumber, BelPinNumber}
use Rattle.ix_pin_maps.specs.declared.marks.Mark.{Mark}

-- what was put in this turn
abbrev pub put_in : (turn : ℕ) → Mark → Option BelPinNumber
put_in turn mark = if nat_eq mark.turn turn then Some mark.pin else None

-- the BEL pin that a cell pin was given in a turn
abbrev pub pin_under : (turn : ℕ) → List Mark → NameNumber → Option BelPinNumber
pin_under turn marks name = option_and_then (put_in turn) (slice_get marks name)

-- all marks are of turns before this one
abbrev pub AreOlder : (turn : ℕ) → List Mark → Type 0
AreOlder turn marks = (name : NameNumber) (mark : Mark) → slice_get marks name ≡ Some mark
    → mark.turn < turn

-- the BEL pin of a cell pin in a pin map
abbrev pub first_pin : List (NameNumber × BelPinNumber) → (cell_pin : NameNumber)
    → Option BelPinNumber
first_pin pins cell_pin = option_map (λ p. p.1) (find (λ p. nat_eq p.0 cell_pin) pins)

-- it is this one
abbrev pub has_pin : Option BelPinNumber → BelPinNumber → Bool
has_pin (Some other) pin = nat_eq other pin
has_pin None pin = false
