-- Package pins, and the ports that are fixed to their sites.
use Rattle.std.specs.Prelude.{◌≡◌, ℕ, ◌<◌, ◌+◌, ◌-◌, min, max, List, [], ◌++◌, length, map}
use Rattle.std.specs.Prelude.{take, slice_get, codes, Bool, true, false, nat_eq, Option, Some, None}
use Rattle.std.specs.Prelude.{option_map, option_and_then, unwrap_or, IfSome}
use Rattle.std.specs.Fmt.{decimal}
use Rattle.std.specs.FinMap.{get}
use Rattle.std.specs.List.{AllByRecursion, filter_map, find, flat_map, list_any, position}
use Rattle.std.specs.List.{range_with_len}
use Rattle.ix_strings.specs.Names.{number_of}
use Rattle.ix_rec.specs.declared.device.DeviceRec.{DeviceRec}
use Rattle.ix_rec.specs.declared.device.Direction.{Direction}
use Rattle.ix_rec.specs.declared.device.Direction.TheVariants.{Input, Output, Inout}
use Rattle.ix_rec.specs.declared.device.PackagePin.{PackagePin}
use Rattle.ix_rec.specs.declared.device.PackagePinSite.{PackagePinSite}
use Rattle.ix_rec.specs.declared.device.PackagePinSite.TheVariants.{NoSite, Site}
use Rattle.ix_rec.specs.declared.flow.Flat.{Flat}
use Rattle.ix_rec.specs.declared.flow.FlatCell.{FlatCell}
use Rattle.ix_rec.specs.declared.netlist.Entry.{Entry}
use Rattle.ix_rec.specs.declared.netlist.NetlistRec.{NetlistRec}
use Rattle.ix_rec.specs.declared.netlist.Port.{Port}
use Rattle.ix_rec.specs.declared.netlist.PortKind.{PortKind}
use Rattle.ix_rec.specs.declared.netlist.PortKind.TheVariants.{Bit, Bus}
use Rattle.ix_rec.specs.declared.netlist.PropertyValue.{PropertyValue}
use Rattle.ix_rec.specs.declared.netlist.PropertyValue.TheVariants.{Text, Int, Bool as Truth}
use Rattle.ix_rec.specs.declared.place.Rule.{Rule}
use Rattle.ix_rec.specs.declared.place.Rule.TheVariants.{P4, P5}
use Rattle.ix_device.specs.Lookups.{site_named}
use Rattle.ix_belmap.specs.declared.ports.Fixing.{Fixing}
use Rattle.ix_belmap.specs.declared.ports.Fixing.TheVariants.{Free, Nowhere, At}
use Rattle.ix_belmap.specs.declared.pins.PinFault.{PinFault}
use Rattle.ix_belmap.specs.declared.pins.PinFault.TheVariants.{Broken, Memory}

-- The bits of the top's ports.

-- the declaration of the top and its ports are in their lists
pub record TopFits (design : NetlistRec) : Type 0 where
  pub cell : design.top_inst.cell < length design.cell_decls
  pub ports : IfSome (slice_get design.cell_decls design.top_inst.cell)
      (λ top. AllByRecursion (λ port. port < length design.port_list) top.ports)

-- the ports of the top, in the order of its declaration
unfoldable pub top_ports : NetlistRec → List Port
top_ports design = unwrap_or
    (option_map (λ top. filter_map (slice_get design.port_list) top.ports)
    (slice_get design.cell_decls design.top_inst.cell))
    []

abbrev pub bits_of_kind : PortKind → (first last : ℕ) → ℕ
bits_of_kind Bit first last = 1
bits_of_kind Bus first last = max first last - min first last + 1

-- how many bits of a port are port cells: all of an input or an output, none of an inout port
abbrev pub cells_of_port : Direction → (bits : ℕ) → ℕ
cells_of_port Input bits = bits
cells_of_port Output bits = bits
cells_of_port Inout bits = 0

-- the bits of a port that are port cells, by their index
abbrev pub bits_of_port : Port → List ℕ
bits_of_port port = range_with_len 0
    (cells_of_port port.dir (bits_of_kind port.kind port.bus_start port.bus_end))

-- each port cell of the design, in flat order: its port, and its index in it
unfoldable pub port_bits : NetlistRec → List (Port × ℕ)
port_bits design =
    flat_map (λ port. map (λ index. (port, index)) (bits_of_port port)) (top_ports design)

-- Properties.

-- the value of the first entry with this key
unfoldable pub value_of_key : List Entry → (key : ℕ) → Option PropertyValue
value_of_key properties key =
    option_map (λ e. e.value) (find (λ e. nat_eq e.key key) properties)

-- the same of the key with this text
abbrev pub property : List (List ℕ) → List Entry → (text : List ℕ) → Option PropertyValue
property names properties text = option_and_then (value_of_key properties) (number_of names text)

-- the key of the property that fixes a bit
abbrev pub pin_key : PortKind → (index : ℕ) → List ℕ
pin_key Bit index = codes "PACKAGE_PIN"
pin_key Bus index = codes "PACKAGE_PIN[" ++ decimal index ++ codes "]"

-- The package and its pins.

-- the pins of the first package of this name
abbrev pub pins_of_package : DeviceRec → (name : ℕ) → List PackagePin
pins_of_package rec name = unwrap_or
    (option_map (λ p. p.package_pins) (find (λ p. nat_eq p.name name) rec.packages)) []

-- The netlist's property names the package; without it the device's first package counts. A value
-- that isn't text names none.
abbrev pub pins_by : DeviceRec → Option PropertyValue → List PackagePin
pins_by rec None = unwrap_or (option_map (λ p. p.package_pins) (slice_get rec.packages 0)) []
pins_by rec (Some (Text name)) = pins_of_package rec name
pins_by rec (Some (Int n)) = []
pins_by rec (Some (Truth b)) = []

-- the pins of the package that the design is for; none where there is no such package
unfoldable pub package_pins : List (List ℕ) → DeviceRec → NetlistRec → List PackagePin
package_pins names rec design =
    pins_by rec (property names design.prop_map.entries (codes "PACKAGE"))

-- the first pin that a value names, by its place; a value that isn't text names none
abbrev pub pin_named : List PackagePin → PropertyValue → Option ℕ
pin_named pins (Text name) = position (λ p. nat_eq p.package_pin name) pins
pin_named pins (Int n) = None
pin_named pins (Truth b) = None

abbrev pub site_of_bond : DeviceRec → PackagePinSite → Option ℕ
site_of_bond rec NoSite = None
site_of_bond rec (Site name) = site_named rec name

-- the site of the pin at a place
abbrev pub site_of_pin : DeviceRec → List PackagePin → (pin : ℕ) → Option ℕ
site_of_pin rec pins pin = option_and_then (λ p. site_of_bond rec p.site) (slice_get pins pin)

-- Fixings.

abbrev pub fixed_at : (pin : ℕ) → Option ℕ → Fixing
fixed_at pin None = Nowhere
fixed_at pin (Some site) = At pin site

abbrev pub fixed_to : DeviceRec → List PackagePin → Option ℕ → Fixing
fixed_to rec pins None = Nowhere
fixed_to rec pins (Some pin) = fixed_at pin (site_of_pin rec pins pin)

-- a bit without the property is free; one whose pin isn't there, or has no site, is fixed nowhere
abbrev pub fixing_by : DeviceRec → List PackagePin → Option PropertyValue → Fixing
fixing_by rec pins None = Free
fixing_by rec pins (Some value) = fixed_to rec pins (pin_named pins value)

unfoldable pub fixing_of : List (List ℕ) → DeviceRec → List PackagePin → Port × ℕ → Fixing
fixing_of names rec pins bit =
    fixing_by rec pins (property names bit.0.prop_map.entries (pin_key bit.0.kind bit.1))

-- what the properties say of each port cell, in flat order
unfoldable pub fixings : List (List ℕ) → DeviceRec → NetlistRec → List Fixing
fixings names rec design =
    map (fixing_of names rec (package_pins names rec design)) (port_bits design)

-- the flat design has a port cell for each of these bits
abbrev pub HasPortCells : NetlistRec → Flat → Type 0
HasPortCells design flat = length (port_bits design) ≡ flat.ports

-- P4 and P5.

-- a package or a pin isn't there, or the pin has no site
abbrev pub is_nowhere : Fixing → Bool
is_nowhere Free = false
is_nowhere Nowhere = true
is_nowhere (At pin site) = false

abbrev pub name_one_pin : Fixing → Fixing → Bool
name_one_pin (At a s) (At b t) = nat_eq a b
name_one_pin (At a s) Free = false
name_one_pin (At a s) Nowhere = false
name_one_pin Free other = false
name_one_pin Nowhere other = false

-- a bit before this one names its package pin
abbrev pub is_second : List Fixing → (place : ℕ) → Bool
is_second all place = unwrap_or
    (option_map (λ f. list_any (name_one_pin f) (take place all)) (slice_get all place)) false

abbrev pub is_nowhere_at : List Fixing → (place : ℕ) → Bool
is_nowhere_at all place = unwrap_or (option_map is_nowhere (slice_get all place)) false

-- the first place that fails
pub record IsFirst (fails : ℕ → Bool) (place : ℕ) : Type 0 where
  pub here : fails place ≡ true
  pub earlier : (k : ℕ) → k < place → fails k ≡ false

-- the name of the port cell at a place
pub record IsNameAt (names : List (List ℕ)) (flat : Flat) (place : ℕ) (word : List ℕ) : Type 0 where
  pub cell : FlatCell
  pub at : slice_get flat.cells place ≡ Some cell
  pub named : slice_get names cell.name ≡ Some word

-- the name of the first port cell that fails
pub record IsFirstFailing (names : List (List ℕ)) (flat : Flat) (fails : ℕ → Bool) (word : List ℕ)
    : Type 0 where
  pub place : ℕ
  pub first : IsFirst fails place
  pub name : IsNameAt names flat place word

abbrev pub NoneFails : (ℕ → Bool) → Type 0
NoneFails fails = (place : ℕ) → fails place ≡ false

-- P4 is asked of all port cells before P5
abbrev pub IsBroken : List (List ℕ) → Flat → List Fixing → Rule → List ℕ → Type 0
IsBroken names flat all P4 word = IsFirstFailing names flat (is_nowhere_at all) word
IsBroken names flat all P5 word =
    NoneFails (is_nowhere_at all) × IsFirstFailing names flat (is_second all) word
IsBroken names flat all rule word = ⊥

-- Want of memory may be told at any time.
abbrev pub IsPinFault : List (List ℕ) → Flat → List Fixing → PinFault → Type 0
IsPinFault names flat all (Broken rule word) = IsBroken names flat all rule word
IsPinFault names flat all Memory = Unit {0}

abbrev pub site_of_fixing : Fixing → Option ℕ
site_of_fixing Free = None
site_of_fixing Nowhere = None
site_of_fixing (At pin site) = Some site

-- The design with the sites of its fixed ports, and else as it was; neither P4 nor P5 is broken.
pub record IsFixed (flat : Flat) (all : List Fixing) (now : Flat) : Type 0 where
  pub keeps_P4 : NoneFails (is_nowhere_at all)
  pub keeps_P5 : NoneFails (is_second all)
  pub fixed : (cell : ℕ) → get now.fixed cell ≡ option_and_then site_of_fixing (slice_get all cell)
  pub cells : now.cells ≡ flat.cells
  pub ports : now.ports ≡ flat.ports
  pub nets : now.nets ≡ flat.nets
  pub pins : now.pins ≡ flat.pins
  pub tables : now.tables ≡ flat.tables
