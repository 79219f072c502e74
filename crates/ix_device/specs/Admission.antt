-- Which BELs admit which cell types.
use Rattle.std.specs.Prelude.{ℕ, List, length, map, slice_get, Bool, true, false, ◌&&◌, nat_le}
use Rattle.std.specs.Prelude.{nat_eq, Option, Some, None, option_map, unwrap_or, if◌then◌else◌}
use Rattle.std.specs.Prelude.{option_and_then}
use Rattle.std.specs.List.{list_any, list_all, find}
use Rattle.ix_rec.specs.declared.device.DeviceRec.{DeviceRec}
use Rattle.ix_rec.specs.declared.device.SiteType.{SiteType}
use Rattle.ix_rec.specs.declared.device.Bel.{Bel}
use Rattle.ix_rec.specs.declared.device.Category.{Category}
use Rattle.ix_rec.specs.declared.device.Category.TheVariants.{Logic, Routing, SitePort}
use Rattle.ix_rec.specs.declared.device.CommonCellBelPinMaps.{CommonCellBelPinMaps}
use Rattle.ix_rec.specs.declared.device.CellBelPinEntry.{CellBelPinEntry}
use Rattle.ix_device_rules.specs.Rules.{has_pin}
use Rattle.ix_device.specs.Lookups.{pin_of_bel}
use Rattle.ix_device.specs.Elements.{differ, lut_inputs_of, elements_of, element_of_bel, is_usable}

abbrev pub is_logic : Category → Bool
is_logic Logic = true
is_logic Routing = false
is_logic SitePort = false

-- BELs and pins go by their names here.

-- A pin map lists a BEL of a site type. Each name in an entry's list of BELs counts by itself.
abbrev pub lists_bel : SiteType → ℕ → CommonCellBelPinMaps → Bool
lists_bel t bel m = list_any (λ e. nat_eq e.site_type t.name && list_any (nat_eq bel) e.bels)
    m.site_types

-- the cell type's first pin map that lists the BEL
abbrev pub first_map : DeviceRec → ℕ → SiteType → ℕ → Option CommonCellBelPinMaps
first_map rec cell t bel = option_and_then (λ m. find (lists_bel t bel) m.common_pins)
    (find (λ m. nat_eq m.cell cell) rec.cell_bel_map)

-- a pin map names no cell pin and no BEL pin twice
abbrev pub pins_differ : List CellBelPinEntry → Bool
pins_differ pins = differ (map (λ p. p.cell_pin) pins) && differ (map (λ p. p.bel_pin) pins)

-- and only pins of that BEL
abbrev pub fits_bel : SiteType → ℕ → List CellBelPinEntry → Bool
fits_bel t bel pins = pins_differ pins && list_all (λ p. has_pin t bel p.bel_pin) pins

-- the inputs of a BEL of a usable element
abbrev pub inputs_of_bel : DeviceRec → SiteType → (ℕ × ℕ) → Option ℕ
inputs_of_bel rec t place =
    option_and_then (λ e. if is_usable t e then option_map (λ b.
    length b.input_pins) (slice_get e.bels place.1)
    else None) (slice_get (elements_of rec t) place.0)

-- a BEL has at least as many inputs in a usable element as the LUT type has; of another type
-- nothing is asked
abbrev pub has_inputs : Option ℕ → Option ℕ → Bool
has_inputs None inputs = true
has_inputs (Some wanted) None = false
has_inputs (Some wanted) (Some inputs) = nat_le wanted inputs

abbrev pub takes_lut : DeviceRec → ℕ → SiteType → ℕ → Bool
takes_lut rec cell t bel = has_inputs (lut_inputs_of rec cell)
    (option_and_then (inputs_of_bel rec t) (element_of_bel rec bel t))

-- the pins of a map, each cell pin with its BEL pin's number
abbrev pub numbered_pins : SiteType → ℕ → List CellBelPinEntry → List (ℕ × ℕ)
numbered_pins t bel pins = map (λ p. (p.cell_pin, unwrap_or (pin_of_bel bel p.bel_pin t) 0)) pins

-- the pin map by which the BEL of this number, which is b, admits the cell type; none where it
-- doesn't
abbrev pub admitted : DeviceRec → ℕ → SiteType → ℕ → Bel → Option (List (ℕ × ℕ))
admitted rec cell t bel b =
    option_and_then (λ m. if is_logic b.category && fits_bel t b.name m.pins
    && takes_lut rec cell t bel then Some (numbered_pins t b.name m.pins)
    else None) (first_map rec cell t b.name)

unfoldable pub pins_in : DeviceRec → ℕ → ℕ → SiteType → Option (List (ℕ × ℕ))
pins_in rec cell bel t = option_and_then (admitted rec cell t bel) (slice_get t.bels bel)
