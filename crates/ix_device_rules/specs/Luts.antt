-- LUT elements, asked by tables.
use Rattle.std.specs.Prelude.{ℕ, List, [], ◌∷◌, ◌++◌, map, Bool, not, ◌&&◌, nat_lt, nat_le, Option}
use Rattle.std.specs.Prelude.{Some, None}
use Rattle.std.specs.List.{flat_map}
use Rattle.ix_message.specs.Indexes.{Step, begun, asked}
use Rattle.ix_rec.specs.declared.device.LutBel.{LutBel}
use Rattle.ix_rec.specs.declared.device.LutElement.{LutElement}
use Rattle.ix_rec.specs.declared.device.SiteTypeLutElements.{SiteTypeLutElements}
use Rattle.ix_keys.specs.declared.key.Key.{Key}
use Rattle.ix_keys.specs.Keys.{key, has_key}
use Rattle.ix_device_rules.specs.declared.lut_elements.SiteTypeParts.{SiteTypeParts}
use Rattle.ix_device_rules.specs.Rules.{bits_fit, element_passed, each_by_earlier}

-- a site type's number and name, and the keys of the BELs and BEL pins of all site types
pub record Parts : Type 0 where
  pub number : ℕ
  pub site : ℕ
  pub bels : List Key
  pub pins : List Key

abbrev pub parts_of : SiteTypeParts → Parts
parts_of p = record { number = p.number; site = p.name; bels = p.bels.now; pins = p.pins.now }

abbrev pub has_bel_by : Parts → ℕ → Bool
has_bel_by k bel = has_key k.bels (key k.number 0 bel)

abbrev pub has_pin_by : Parts → ℕ → ℕ → Bool
has_pin_by k bel pin = has_key k.pins (key k.number bel pin)

abbrev pub input_by : Parts → ℕ → ℕ → List Step
input_by k bel pin = asked "LutBel" "inputPins" (has_pin_by k bel pin) ∷ []

-- a BEL of an element, where these are the BELs of earlier ones
abbrev pub lut_bel_by : Parts → List Key → (width : ℕ) → LutBel → List Step
lut_bel_by k seen width b =
    (begun "LutBel" ∷ asked "LutBel" "highBit" (bits_fit width b)
    ∷ asked "LutBel" "name" (has_bel_by k b.name && not (has_key seen (key k.site 0 b.name)))
    ∷ [])
    ++ flat_map (input_by k b.name) b.input_pins
    ++ asked "LutBel" "outputPin" (has_pin_by k b.name b.output_pin) ∷ []

abbrev pub element_by : Parts → List Key → LutElement → List Step
element_by k seen e =
    (begun "LutElement" ∷ asked "LutElement" "width" (nat_lt 0 e.width && nat_le e.width 64) ∷ [])
    ++ flat_map (lut_bel_by k seen e.width) e.bels

-- the keys of the BELs of an element of a site type of this name
abbrev pub element_keys : (site : ℕ) → LutElement → List Key
element_keys site e = map (λ b. key site 0 b.name) e.bels

abbrev pub element_after : Parts → List Key → List LutElement → LutElement → List Step
element_after k seen before e = element_by k (seen ++ flat_map (element_keys k.site) before) e

abbrev pub passed_bel : LutBel → List Step
passed_bel b = begun "LutBel" ∷ []

-- The elements of an entry whose site type has this number, or of one whose site type isn't there.
abbrev pub entry_by : (bels pins : List Key) → Option ℕ → List Key → SiteTypeLutElements → List Step
entry_by bels pins None seen e = flat_map element_passed e.luts
entry_by bels pins (Some number) seen e = each_by_earlier
    (element_after (record { number = number; site = e.site; bels = bels; pins = pins }) seen)
    e.luts

abbrev pub seen_by : Option ℕ → SiteTypeLutElements → List Key
seen_by None e = []
seen_by (Some number) e = flat_map (element_keys e.site) e.luts
