-- A whole flat design. Names are numbers of one table of names, in which no two names are alike.
use Rattle.std.specs.Prelude.{◌≡◌, ◌≢◌, ℕ, ◌^◌, ◌<◌, ◌⊎◌, List, length, map, slice_get, codes}
use Rattle.std.specs.Prelude.{Option, Some, None, IsSome}
use Rattle.std.specs.FinMap.{get}
use Rattle.std.specs.List.{AllByRecursion, find}
use Rattle.ix_num.specs.declared.resource.NetRef.TheVariants.{Signal}
use Rattle.ix_rec.specs.declared.device.DeviceRec.{DeviceRec}
use Rattle.ix_rec.specs.declared.device.LutCell.{LutCell}
use Rattle.ix_rec.specs.declared.flow.CellPin.{CellPin}
use Rattle.ix_rec.specs.declared.flow.Flat.{Flat}
use Rattle.ix_rec.specs.declared.flow.FlatCell.{FlatCell}
use Rattle.ix_rec.specs.declared.flow.FlatNet.{FlatNet}
use Rattle.ix_rec.specs.declared.flow.TruthTable.{TruthTable}
use Rattle.ix_device.specs.Elements.{is_lut_cell}

-- no two of these are alike: places of one are equal
abbrev pub AllDiffer : List ℕ → Type 0
AllDiffer xs = (i j x : ℕ) → slice_get xs i ≡ Some x → slice_get xs j ≡ Some x → i ≡ j

-- the pin is on the net, and so is another one
pub record IsDrivenBy (flat : Flat) (net : ℕ) (driver : CellPin) : Type 0 where
  pub on : get flat.pins (driver.cell, driver.pin) ≡ Some (Signal net)
  pub other_cell : ℕ
  pub other_pin : ℕ
  pub other_on : get flat.pins (other_cell, other_pin) ≡ Some (Signal net)
  pub other_differs : other_cell ≡ driver.cell → other_pin ≢ driver.pin

abbrev pub IsDriven : Flat → ℕ → Option CellPin → Type 0
IsDriven flat net None = ⊥
IsDriven flat net (Some driver) = IsDrivenBy flat net driver

-- what the device says of a LUT type; none where the type isn't one
abbrev pub lut_of_type : DeviceRec → ℕ → Option LutCell
lut_of_type rec ty = find (is_lut_cell ty) rec.lut_definitions.lut_cells

-- a cell has a table of as many inputs as its type, and each of them is on a net
pub record IsLut (flat : Flat) (cell : ℕ) (lut : LutCell) : Type 0 where
  pub table : TruthTable
  pub has : get flat.tables cell ≡ Some table
  pub inputs : table.inputs ≡ length lut.input_pins
  pub bits : table.bits < 2 ^ (2 ^ table.inputs)
  pub on_nets : AllByRecursion (λ pin. IsSome (get flat.pins (cell, pin))) lut.input_pins

-- a cell of a LUT type has a table, another has none
abbrev pub HasItsTable : Flat → ℕ → Option LutCell → Type 0
HasItsTable flat cell None = get flat.tables cell ≡ None
HasItsTable flat cell (Some lut) = IsLut flat cell lut

-- a type of port cells, by its name
abbrev pub IsPortType : List (List ℕ) → ℕ → Type 0
IsPortType names ty = (slice_get names ty ≡ Some (codes "$PORT_IN"))
    ⊎ (slice_get names ty ≡ Some (codes "$PORT_OUT"))

-- Cell names differ and net names differ. Each net's driver is a pin on it, and another pin is on
-- it. Each LUT cell has its table, and no other cell has one. Port cells are of the types of port
-- cells, and they alone are fixed.
pub record IsWhole (names : List (List ℕ)) (rec : DeviceRec) (flat : Flat) : Type 0 where
  pub cells_differ : AllDiffer (map (λ cell. cell.name) flat.cells)
  pub nets_differ : AllDiffer (map (λ net. net.name) flat.nets)
  pub driven : (n : ℕ) (net : FlatNet) → slice_get flat.nets n ≡ Some net
      → IsDriven flat n net.driver
  pub tables : (q : ℕ) (cell : FlatCell) → slice_get flat.cells q ≡ Some cell
      → HasItsTable flat q (lut_of_type rec cell.ty)
  pub port_types : (q : ℕ) (cell : FlatCell) → q < flat.ports → slice_get flat.cells q ≡ Some cell
      → IsPortType names cell.ty
  pub fixed : (q site : ℕ) → get flat.fixed q ≡ Some site → q < flat.ports
