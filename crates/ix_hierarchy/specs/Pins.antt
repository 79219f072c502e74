-- Pins: of leaves, and of the cells that stand for the bits of the top's ports.
use Rattle.std.specs.Prelude.{◌≡◌, ◌⊎◌, ◌<◌, ℕ, List, [], ◌∷◌, ◌++◌, slice_get, Option, Some, None}
use Rattle.std.specs.Prelude.{true, nat_eq, option_map, if◌then◌else◌}
use Rattle.ix_num.specs.declared.resource.Constant.{Constant}
use Rattle.ix_num.specs.declared.resource.Constant.TheVariants.{Gnd, Vcc}
use Rattle.ix_rec.specs.declared.device.Constants.{Constants}
use Rattle.ix_rec.specs.declared.device.DeviceRec.{DeviceRec}
use Rattle.ix_rec.specs.declared.device.Direction.{Direction}
use Rattle.ix_rec.specs.declared.device.Direction.TheVariants.{Input, Output}
use Rattle.ix_rec.specs.declared.netlist.Cell.{Cell}
use Rattle.ix_rec.specs.declared.netlist.CellInstance.{CellInstance}
use Rattle.ix_rec.specs.declared.netlist.Net.{Net}
use Rattle.ix_rec.specs.declared.netlist.NetlistRec.{NetlistRec}
use Rattle.ix_rec.specs.declared.netlist.Port.{Port}
use Rattle.ix_hierarchy.specs.Hierarchy.{Path, PortBit, PortNumber, IsLeaf, ports_of}
use Rattle.ix_message.specs.Shape.{Text}
use Rattle.ix_hierarchy.specs.Hierarchy.{width, written_bit}
use Rattle.ix_hierarchy.specs.Nets.{Occurrence, Occurs, AreOneNet, names_own, names_of}

-- the type of an instance, by its name
abbrev pub type_of : NetlistRec → CellInstance → Option ℕ
type_of design inst =
    option_map (λ declared. declared.name) (slice_get design.cell_decls inst.cell)

-- the constant of a type of constant cells; a type that is both is gnd's
abbrev pub constant_among : Option Constants → (ty : ℕ) → Option Constant
constant_among None ty = None
constant_among (Some constants) ty = if nat_eq constants.gnd_cell_type ty then Some Gnd
    else if nat_eq constants.vcc_cell_type ty then Some Vcc else None

abbrev pub constant_of_type : DeviceRec → (ty : ℕ) → Option Constant
constant_of_type rec ty = constant_among rec.constants ty

-- the pin by which cells of a constant drive it, by its name
abbrev pub constant_pin : Constants → Constant → ℕ
constant_pin constants Gnd = constants.gnd_cell_pin
constant_pin constants Vcc = constants.vcc_cell_pin

-- A pin: of a leaf by its port bit, or of a bit of the top, by the port's place in the declaration.
pub data Pin : Type 0 where
  LeafPin : Path → PortBit → Pin
  TopPin : (place index : ℕ) → Pin

-- a leaf and its type
pub record IsLeafOf (design : NetlistRec) (path : Path) (inst : CellInstance) (ty : ℕ) : Type 0
  where
    pub leaf : IsLeaf design path inst
    pub type_is : type_of design inst ≡ Some ty

-- a leaf that is a cell of the flat design, as its type isn't of constant cells
pub record IsPlainLeaf (rec : DeviceRec) (design : NetlistRec) (path : Path) (inst : CellInstance)
    (ty : ℕ) : Type 0 where
  pub leaf : IsLeafOf design path inst ty
  pub plain : constant_of_type rec ty ≡ None

-- a bit of a port of the top, by the place of the port in the top's declaration
pub record IsTopBit (design : NetlistRec) (place index : ℕ) (number : PortNumber) (port : Port)
    : Type 0 where
  pub which : slice_get (ports_of design design.top_inst.cell) place ≡ Some number
  pub port_is : slice_get design.port_list number ≡ Some port
  pub within : index < width port

-- Where a pin is.

-- a net of the parent names the leaf's port bit
pub record IsLeafPinOn (design : NetlistRec) (path : Path) (bit : PortBit) (at : Occurrence)
    : Type 0 where
  pub inst : CellInstance
  pub leaf : IsLeaf design path inst
  pub place : ℕ
  pub below : path ≡ at.path ++ place ∷ []
  pub cell : Cell
  pub net : Net
  pub occurs : Occurs design at cell net
  pub instance : ℕ
  pub which : slice_get cell.insts place ≡ Some instance
  pub named : names_of instance net bit ≡ true

-- a net of the top's cell names the bit of the top's own port
pub record IsTopPinOn (design : NetlistRec) (place index : ℕ) (at : Occurrence) : Type 0 where
  pub number : PortNumber
  pub port : Port
  pub bit : IsTopBit design place index number port
  pub top : at.path ≡ []
  pub cell : Cell
  pub net : Net
  pub occurs : Occurs design at cell net
  pub named : names_own net record { port = number; index = index } ≡ true

abbrev pub IsOn : NetlistRec → Pin → Occurrence → Type 0
IsOn design (LeafPin path bit) at = IsLeafPinOn design path bit at
IsOn design (TopPin place index) at = IsTopPinOn design place index at

-- a pin is on the net of an occurrence
pub record IsOnNet (design : NetlistRec) (pin : Pin) (at : Occurrence) : Type 0 where
  pub where_at : Occurrence
  pub one_net : AreOneNet design at where_at
  pub on : IsOn design pin where_at

-- Drivers and sinks.

abbrev pub direction_of : NetlistRec → PortBit → Option Direction
direction_of design bit = option_map (λ port. port.dir) (slice_get design.port_list bit.port)

-- a plain leaf's pin of this direction
pub record IsPlainPin (rec : DeviceRec) (design : NetlistRec) (direction : Direction) (path : Path)
    (bit : PortBit) : Type 0 where
  pub inst : CellInstance
  pub ty : ℕ
  pub leaf : IsPlainLeaf rec design path inst ty
  pub towards : direction_of design bit ≡ Some direction

-- the constant's own pin, by its written name, of a leaf of constant cells, whatever its direction
pub record IsConstantPin (names : List Text) (rec : DeviceRec) (design : NetlistRec)
    (constant : Constant) (path : Path) (bit : PortBit) : Type 0 where
  pub inst : CellInstance
  pub ty : ℕ
  pub leaf : IsLeafOf design path inst ty
  pub constants : Constants
  pub device_has : rec.constants ≡ Some constants
  pub constant_is : constant_of_type rec ty ≡ Some constant
  pub text : Text
  pub own_pin : slice_get names (constant_pin constants constant) ≡ Some text
  pub written_is : written_bit names design bit ≡ Some text

-- the top's bit of a port of this direction
pub record IsTopPin (design : NetlistRec) (direction : Direction) (place index : ℕ) : Type 0 where
  pub number : PortNumber
  pub port : Port
  pub bit : IsTopBit design place index number port
  pub towards : port.dir ≡ direction

-- an output of a leaf, the constant pin of a constant cell, a bit of an input of the top
abbrev pub IsDriver : List Text → DeviceRec → NetlistRec → Pin → Type 0
IsDriver names rec design (LeafPin path bit) = IsPlainPin rec design Output path bit
    ⊎ ((constant : Constant) × IsConstantPin names rec design constant path bit)
IsDriver names rec design (TopPin place index) = IsTopPin design Input place index

-- an input of a leaf, a bit of an output of the top
abbrev pub IsSink : DeviceRec → NetlistRec → Pin → Type 0
IsSink rec design (LeafPin path bit) = IsPlainPin rec design Input path bit
IsSink rec design (TopPin place index) = IsTopPin design Output place index

abbrev pub HasSink : DeviceRec → NetlistRec → Occurrence → Type 0
HasSink rec design at = (pin : Pin) × IsSink rec design pin × IsOnNet design pin at

-- a constant pin drives the net
pub record IsConstantNet (names : List Text) (rec : DeviceRec) (design : NetlistRec)
    (constant : Constant) (at : Occurrence) : Type 0 where
  pub path : Path
  pub bit : PortBit
  pub drives : IsConstantPin names rec design constant path bit
  pub on : IsOnNet design (LeafPin path bit) at
