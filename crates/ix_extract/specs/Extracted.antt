-- The design that a physical netlist realizes. Cells are numbered by their placements, signal nets
-- by how many of them stand before; no cell is told apart as a port, and no net has a driver.
use Rattle.std.specs.Prelude.{◌≡◌, ◌↔◌, ℕ, List, map, length, slice_get, Option, Some, None}
use Rattle.std.specs.Prelude.{option_map, option_and_then, nat_eq, Bool, true, false}
use Rattle.std.specs.FinMap.{get}
use Rattle.std.specs.List.{find, list_any}
use Rattle.ix_message.specs.Shape.{Text}
use Rattle.ix_num.specs.Numbers.{NameNumber, SiteNumber, SiteWireNumber, BelPinNumber}
use Rattle.ix_num.specs.declared.resource.NetRef.{NetRef}
use Rattle.ix_num.specs.declared.resource.Res.TheVariants.{Wire}
use Rattle.ix_rec.specs.declared.device.DeviceRec.{DeviceRec}
use Rattle.ix_rec.specs.declared.device.LutCell.{LutCell}
use Rattle.ix_rec.specs.declared.flow.Flat.{Flat}
use Rattle.ix_rec.specs.declared.flow.FlatCell.{FlatCell}
use Rattle.ix_rec.specs.declared.flow.FlatNet.{FlatNet}
use Rattle.ix_rec.specs.declared.flow.TruthTable.{TruthTable}
use Rattle.ix_rec.specs.declared.phys.CellPlacement.{CellPlacement}
use Rattle.ix_rec.specs.declared.phys.NetType.TheVariants.{Signal}
use Rattle.ix_rec.specs.declared.phys.Phys.{Phys}
use Rattle.ix_rec.specs.declared.phys.PhysNet.{PhysNet}
use Rattle.ix_device.specs.Lookups.{site_named, wire_in}
use Rattle.ix_flat.specs.Whole.{IsPortType}
use Rattle.ix_lut.specs.Places.{ElementBits}
use Rattle.ix_legal.specs.Holders.{Holds, nets_of_type}
use Rattle.ix_legal.specs.LutTables.{IsFunction}
use Rattle.ix_legal.specs.Sites.{ElementNumber, in_site, bel_pin_at, pins_at, lut_cell_of}
use Rattle.ix_legal.specs.Sites.{element_at}
use Rattle.ix_legal.specs.TableKeys.{HasTable}

-- a placed cell
abbrev pub cell_of : CellPlacement → FlatCell
cell_of placement = record { name = placement.cell_name; ty = placement.ty }

-- a signal net
abbrev pub net_of : PhysNet → FlatNet
net_of net = record { name = net.name; driver = None }

-- The BEL pin of a cell's pin, by the device's pin map for the cell's type on its BEL.
abbrev pub pin_by_device : DeviceRec → CellPlacement → (pin : NameNumber) → Option BelPinNumber
pin_by_device rec placement pin = option_and_then
    (λ pins. option_map (λ e. e.1) (find (λ e. nat_eq e.0 pin) pins))
    (pins_at rec placement.ty placement.site placement.bel)

-- the same by the placement's own pin map
abbrev pub pin_by_placement : DeviceRec → CellPlacement → (pin : NameNumber) → Option BelPinNumber
pin_by_placement rec placement pin = option_and_then
    (λ e. bel_pin_at rec placement.site e.bel e.bel_pin)
    (find (λ e. nat_eq e.cell_pin pin) placement.pin_map)

-- an input of a LUT; a plain cell has none
abbrev pub is_lut_input : Option LutCell → (pin : NameNumber) → Bool
is_lut_input None pin = false
is_lut_input (Some lut) pin = list_any (nat_eq pin) lut.input_pins

-- The inputs of a LUT are where its placement maps them, all other pins where the device does.
abbrev pub by_map : Bool → DeviceRec → CellPlacement → (pin : NameNumber) → Option BelPinNumber
by_map true rec placement pin = pin_by_placement rec placement pin
by_map false rec placement pin = pin_by_device rec placement pin

abbrev pub bel_pin_of : DeviceRec → CellPlacement → (pin : NameNumber) → Option BelPinNumber
bel_pin_of rec placement pin =
    by_map (is_lut_input (lut_cell_of rec placement.ty) pin) rec placement pin

-- the site wire of a pin of a placed cell
abbrev pub wire_of_pin : DeviceRec → CellPlacement → (pin : NameNumber) → Option SiteWireNumber
wire_of_pin rec placement pin = option_and_then (λ p. in_site rec placement.site (wire_in p))
    (bel_pin_of rec placement pin)

-- A pin of the cell of this number is on a net: the net holds the site wire of the pin.
pub record IsPinOn (rec : DeviceRec) (phys : Phys) (cell : ℕ) (pin : NameNumber) (net : NetRef)
    : Type 0 where
  pub placement : CellPlacement
  pub placement_is : slice_get phys.placements cell ≡ Some placement
  pub site : SiteNumber
  pub site_is : site_named rec placement.site ≡ Some site
  pub wire : SiteWireNumber
  pub wire_is : wire_of_pin rec placement pin ≡ Some wire
  pub holds : Holds rec phys.nets (Wire site wire) net

-- The cell of this number is a LUT with this truth table: its function by the table of its element.
pub record IsTableOf (names : List Text) (rec : DeviceRec) (phys : Phys) (cell : ℕ)
    (table : TruthTable) : Type 0 where
  pub placement : CellPlacement
  pub placement_is : slice_get phys.placements cell ≡ Some placement
  pub lut : LutCell
  pub lut_is : lut_cell_of rec placement.ty ≡ Some lut
  pub element : ElementNumber
  pub place : ℕ
  pub in_element : element_at rec placement.site placement.bel ≡ Some (element, place)
  pub bits : ElementBits
  pub has_table : HasTable names phys placement.site element bits
  pub function : IsFunction rec phys placement bits table.bits
  pub inputs : table.inputs ≡ length lut.input_pins

-- the cell of this number is a port, and this is its site
pub record IsPortOn (names : List Text) (rec : DeviceRec) (phys : Phys) (cell : ℕ)
    (site : SiteNumber) : Type 0 where
  pub placement : CellPlacement
  pub placement_is : slice_get phys.placements cell ≡ Some placement
  pub port : IsPortType names placement.ty
  pub site_is : site_named rec placement.site ≡ Some site

-- A design is the one that a netlist realizes on a device.
pub record IsExtracted (names : List Text) (rec : DeviceRec) (phys : Phys) (flat : Flat)
    : Type 0 where
  pub cells : flat.cells ≡ map cell_of phys.placements
  pub ports : flat.ports ≡ 0
  pub nets : flat.nets ≡ map net_of (nets_of_type Signal phys.nets)
  pub pins : (cell : ℕ) (pin : NameNumber) (net : NetRef)
      → (get flat.pins (cell, pin) ≡ Some net) ↔ IsPinOn rec phys cell pin net
  pub tables : (cell : ℕ) (table : TruthTable)
      → (get flat.tables cell ≡ Some table) ↔ IsTableOf names rec phys cell table
  pub fixed : (cell : ℕ) (site : SiteNumber)
      → (get flat.fixed cell ≡ Some site) ↔ IsPortOn names rec phys cell site
  -- each LUT has a function
  pub functions : (cell : ℕ) (placement : CellPlacement) (lut : LutCell)
      → slice_get phys.placements cell ≡ Some placement
      → lut_cell_of rec placement.ty ≡ Some lut
      → (table : TruthTable) × IsTableOf names rec phys cell table

-- a LUT of the netlist has no function
pub record LacksFunction (names : List Text) (rec : DeviceRec) (phys : Phys) : Type 0 where
  pub cell : ℕ
  pub placement : CellPlacement
  pub placement_is : slice_get phys.placements cell ≡ Some placement
  pub lut : LutCell
  pub lut_is : lut_cell_of rec placement.ty ≡ Some lut
  pub none : (table : TruthTable) → ¬ IsTableOf names rec phys cell table

-- what is told of a netlist: the design that it realizes, or none where a LUT has no function
abbrev pub TellsDesign : List Text → DeviceRec → Phys → Option Flat → Type 0
TellsDesign names rec phys None = LacksFunction names rec phys
TellsDesign names rec phys (Some flat) = IsExtracted names rec phys flat
