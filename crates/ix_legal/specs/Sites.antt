-- What names lead to in a site. BELs, pins and LUT elements are those of the site's own type.
use Rattle.std.specs.Prelude.{ℕ, List, slice_get, Option, option_map, option_and_then}
use Rattle.std.specs.List.{find}
use Rattle.ix_num.specs.Numbers.{NameNumber, SiteTypeNumber, BelNumber, BelPinNumber}
use Rattle.ix_num.specs.Numbers.{SiteWireNumber}
use Rattle.ix_num.specs.declared.resource.Constant.{Constant}
use Rattle.ix_rec.specs.declared.device.DeviceRec.{DeviceRec}
use Rattle.ix_rec.specs.declared.device.Direction.{Direction}
use Rattle.ix_rec.specs.declared.device.SiteType.{SiteType}
use Rattle.ix_rec.specs.declared.device.LutBel.{LutBel}
use Rattle.ix_rec.specs.declared.device.LutCell.{LutCell}
use Rattle.ix_rec.specs.declared.device.LutElement.{LutElement}
use Rattle.ix_device.specs.Lookups.{site_named, type_of_site, bel_in, bel_pin_in}
use Rattle.ix_device.specs.Elements.{is_lut_cell, elements_of, element_of_bel}
use Rattle.ix_device.specs.Admission.{pins_in}
use Rattle.ix_device.specs.Shapes.{ShapeSeen, shape_in, lines_of}
use Rattle.ix_device.specs.Sources.{site_source_in}

-- the number of the site type of the site of this name
abbrev pub type_at : DeviceRec → (site : NameNumber) → Option SiteTypeNumber
type_at rec site = option_and_then (type_of_site rec) (site_named rec site)

-- what is told of that site type
abbrev pub in_site : {A : Type 0} → DeviceRec → (site : NameNumber) → (SiteType → Option A)
    → Option A
in_site rec site tell = option_and_then (λ t. option_and_then tell (slice_get rec.site_type_list t))
    (type_at rec site)

-- what is told of a BEL of it, by the BEL's number
abbrev pub of_bel : {A : Type 0} → DeviceRec → (site bel : NameNumber)
    → (BelNumber → SiteType → Option A) → Option A
of_bel rec site bel tell = in_site rec site (λ t. option_and_then (λ b. tell b t) (bel_in bel t))

abbrev pub bel_at : DeviceRec → (site bel : NameNumber) → Option BelNumber
bel_at rec site bel = in_site rec site (bel_in bel)

abbrev pub bel_pin_at : DeviceRec → (site bel pin : NameNumber) → Option BelPinNumber
bel_pin_at rec site bel pin = of_bel rec site bel (λ b. bel_pin_in b pin)

-- the direction of a BEL pin
abbrev pub direction_at : DeviceRec → (site bel pin : NameNumber) → Option Direction
direction_at rec site bel pin = of_bel rec site bel (λ b t.
    option_and_then (λ p. option_map (λ q. q.dir) (slice_get t.bel_pins p)) (bel_pin_in b pin t))

-- the constant that a BEL pin can drive
abbrev pub source_at : DeviceRec → (site bel pin : NameNumber) → Option Constant
source_at rec site bel pin = of_bel rec site bel (λ b t.
    option_and_then (λ p. site_source_in rec p t) (bel_pin_in b pin t))

-- the device's pin map by which a BEL admits a cell type; none where it doesn't
abbrev pub pins_at : DeviceRec → (cell_type site bel : NameNumber)
    → Option (List (NameNumber × BelPinNumber))
pins_at rec cell_type site bel = of_bel rec site bel (pins_in rec cell_type)

-- LUTs.

-- a LUT element, by its number in the site type
abbrev pub ElementNumber : Type 0
ElementNumber = ℕ

-- the LUT cell that says of a cell type that it is a LUT type; a cell of another type is plain
abbrev pub lut_cell_of : DeviceRec → (cell_type : NameNumber) → Option LutCell
lut_cell_of rec cell_type = find (is_lut_cell cell_type) rec.lut_definitions.lut_cells

abbrev pub elements_at : DeviceRec → (site : NameNumber) → Option (List LutElement)
elements_at rec site = option_map (elements_of rec)
    (option_and_then (slice_get rec.site_type_list) (type_at rec site))

-- the element of a BEL, and the BEL's place in it
abbrev pub element_at : DeviceRec → (site bel : NameNumber) → Option (ElementNumber × ℕ)
element_at rec site bel = of_bel rec site bel (element_of_bel rec)

-- a BEL as its element lists it
abbrev pub lut_bel_at : DeviceRec → (site bel : NameNumber) → Option LutBel
lut_bel_at rec site bel =
    option_and_then (λ at. option_and_then (λ elements.
    option_and_then (λ e. slice_get e.bels at.1) (slice_get elements at.0)) (elements_at rec site))
    (element_at rec site bel)

-- the shape of an element; none where it isn't usable
abbrev pub shape_at : DeviceRec → (site : NameNumber) → ElementNumber → Option ShapeSeen
shape_at rec site element = in_site rec site (shape_in rec element)

-- the site wires that are an element's lines, by the lines' numbers
abbrev pub lines_at : DeviceRec → (site : NameNumber) → ElementNumber
    → Option (List SiteWireNumber)
lines_at rec site element = in_site rec site (λ t.
    option_map (lines_of t) (slice_get (elements_of rec t) element))
