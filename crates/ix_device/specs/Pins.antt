-- The tables of a site type's BEL pins, and the lines that the inputs of its LUT BELs are on.
use Rattle.std.specs.Prelude.{◌≡◌, ◌<◌, ℕ, List, [], ◌∷◌, ◌++◌, length, true, false, Option, Some}
use Rattle.std.specs.Prelude.{None, ◌⊎◌, if◌then◌else◌, option_and_then}
use Rattle.ix_rec.specs.declared.device.SiteType.{SiteType}
use Rattle.ix_rec.specs.declared.device.LutBel.{LutBel}
use Rattle.ix_keys.specs.Keys.{key}
use Rattle.ix_first.specs.First.{value_at, value_of}
use Rattle.ix_device_rules.specs.Rules.{is_new}
use Rattle.ix_device.specs.Lookups.{pin_of_bel, wire_in}
use Rattle.ix_device.specs.Elements.{present, input_lines, has_own_lines, distinct}
use Rattle.ix_device.specs.declared.usable.Pins.{Pins}

-- The tables are those of the site type's BEL pins.
pub record ArePins (pins : Pins) : Type 0 where
  pub numbers : (bel name : ℕ) → value_at pins.numbers.now (key 0 bel name)
      ≡ pin_of_bel bel name pins.ty.now
  pub wires : (pin : ℕ) → pin < length pins.ty.now.bel_pins
      → value_of pins.wires.now pin ≡ Some (wire_in pin pins.ty.now)

-- the line of a BEL's pin, by names
abbrev pub line_in : ℕ → ℕ → SiteType → Option ℕ
line_in bel pin t = option_and_then (λ p. wire_in p t) (pin_of_bel bel pin t)

-- The lines of a LUT BEL's inputs, where they are its own; none where they aren't, or where no
-- element has so many.
abbrev pub AreOwnLines : SiteType → LutBel → Option (List ℕ) → Type 0
AreOwnLines t b (Some lines) = (has_own_lines t b ≡ true) × (present (input_lines t b) ≡ lines)
AreOwnLines t b None = (has_own_lines t b ≡ false)
    ⊎ (12 < length (distinct (present (input_lines t b))))
