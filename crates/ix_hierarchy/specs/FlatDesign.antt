-- The flat design of a logical netlist on a device: its cells, its nets, and which pin is on which.
use Rattle.std.specs.Prelude.{◌≡◌, ◌<◌, ◌+◌, ◌^◌, ℕ, List, [], ◌++◌, length}
use Rattle.std.specs.Prelude.{map, take, slice_get, slice_index_or, Option, Some, None, is_some}
use Rattle.std.specs.Prelude.{option_map, option_and_then, codes, nat_eq, if◌then◌else◌}
use Rattle.std.specs.FinMap.{get}
use Rattle.std.specs.List.{find, flat_map, range_with_len, sum_by}
use Rattle.ix_num.specs.declared.resource.Constant.{Constant}
use Rattle.ix_num.specs.declared.resource.Constant.TheVariants as constants
use Rattle.ix_num.specs.declared.resource.NetRef.{NetRef}
use Rattle.ix_num.specs.declared.resource.NetRef.TheVariants as nets
use Rattle.ix_message.specs.Shape.{Text}
use Rattle.ix_rec.specs.declared.device.DeviceRec.{DeviceRec}
use Rattle.ix_rec.specs.declared.device.Direction.{Direction}
use Rattle.ix_rec.specs.declared.device.Direction.TheVariants.{Input, Output, Inout}
use Rattle.ix_rec.specs.declared.device.LutCell.{LutCell}
use Rattle.ix_rec.specs.declared.flow.CellPin.{CellPin}
use Rattle.ix_rec.specs.declared.flow.Flat.{Flat}
use Rattle.ix_rec.specs.declared.flow.FlatCell.{FlatCell}
use Rattle.ix_rec.specs.declared.flow.FlatNet.{FlatNet}
use Rattle.ix_rec.specs.declared.flow.TruthTable.{TruthTable}
use Rattle.ix_rec.specs.declared.netlist.CellInstance.{CellInstance}
use Rattle.ix_rec.specs.declared.netlist.Entry.{Entry}
use Rattle.ix_rec.specs.declared.netlist.NetlistRec.{NetlistRec}
use Rattle.ix_rec.specs.declared.netlist.Port.{Port}
use Rattle.ix_rec.specs.declared.netlist.PropertyValue.{PropertyValue}
use Rattle.ix_rec.specs.declared.netlist.PropertyValue.TheVariants as values
use Rattle.ix_device.specs.Elements.{is_lut_cell}
use Rattle.ix_lut.specs.Init.{text_number, number_below}
use Rattle.ix_hierarchy.specs.Hierarchy.{Path, PortNumber, ports_of, width, written}
use Rattle.ix_hierarchy.specs.Hierarchy.{written_bit, flat_name}
use Rattle.ix_hierarchy.specs.Walk.{InstanceAt, IsBefore}
use Rattle.ix_hierarchy.specs.Nets.{Occurrence, AreOneNet, IsFirstOf, spot_of, net_text}
use Rattle.ix_hierarchy.specs.Pins.{Pin, LeafPin, TopPin, IsPlainLeaf, IsTopBit, IsOnNet, IsDriver}
use Rattle.ix_hierarchy.specs.Pins.{HasSink, IsConstantNet}

-- Cells.

-- bits of a top's port are cells where it goes one way
abbrev pub port_type : Direction → Option Text
port_type Input = Some (codes "$PORT_IN")
port_type Output = Some (codes "$PORT_OUT")
port_type Inout = None

abbrev pub port_cells_of : List Text → Port → List (Text × Text)
port_cells_of names port = cells_as (port_type port.dir)
  where
    cells_as : Option Text → List (Text × Text)
    cells_as None = []
    cells_as (Some ty) = map (λ index. (codes "$port/" ++ written names port index, ty))
        (range_with_len 0 (width port))

-- the name and the type of each port cell, by the top's ports and by index
abbrev pub port_cells : List Text → NetlistRec → List (Text × Text)
port_cells names design = flat_map
    (λ number. cells_of (slice_get design.port_list number)) (ports_of design design.top_inst.cell)
  where
    cells_of : Option Port → List (Text × Text)
    cells_of None = []
    cells_of (Some port) = port_cells_of names port

-- a leaf that is a cell, with its instance and its type
pub record LeafCell : Type 0 where
  pub path : Path
  pub inst : CellInstance
  pub ty : ℕ

-- the leaves that are cells, in preorder, each once and all of them
pub record AreLeafCells (rec : DeviceRec) (design : NetlistRec) (leaves : List LeafCell) : Type 0
  where
    pub each : (k : ℕ) (leaf : LeafCell) → slice_get leaves k ≡ Some leaf
        → IsPlainLeaf rec design leaf.path leaf.inst leaf.ty
    pub rise : (j k : ℕ) (a b : LeafCell) → j < k → slice_get leaves j ≡ Some a
        → slice_get leaves k ≡ Some b → IsBefore (InstanceAt a.path) (InstanceAt b.path)
    pub all : (path : Path) (inst : CellInstance) (ty : ℕ) → IsPlainLeaf rec design path inst ty
        → (k : ℕ) × (slice_get leaves k ≡ Some record { path = path; inst = inst; ty = ty })

abbrev pub leaf_texts : List Text → NetlistRec → LeafCell → Text × Text
leaf_texts names design leaf =
    (flat_name names design leaf.path [], slice_index_or names leaf.ty [])

-- of a flat cell, where both are numbers of names
abbrev pub cell_texts : List Text → FlatCell → Option (Text × Text)
cell_texts names cell = option_and_then (λ name.
    option_map (λ ty. (name, ty)) (slice_get names cell.ty)) (slice_get names cell.name)

-- Nets.

-- a net that the flat design has as a signal net, by its first occurrence
pub record IsSignal (names : List Text) (rec : DeviceRec) (design : NetlistRec) (at : Occurrence)
    : Type 0 where
  pub first : IsFirstOf design at
  pub has_sink : HasSink rec design at
  pub no_constant : (constant : Constant) → ¬ IsConstantNet names rec design constant at

pub record AreSignals (names : List Text) (rec : DeviceRec) (design : NetlistRec)
    (signals : List Occurrence) : Type 0 where
  pub each : (n : ℕ) (at : Occurrence) → slice_get signals n ≡ Some at
      → IsSignal names rec design at
  pub rise : (m n : ℕ) (a b : Occurrence) → m < n → slice_get signals m ≡ Some a
      → slice_get signals n ≡ Some b → IsBefore (spot_of a) (spot_of b)
  pub all : (at : Occurrence) → IsSignal names rec design at
      → (n : ℕ) × (slice_get signals n ≡ Some at)

-- the name of a net is that of its first occurrence
pub record IsNetText (names : List Text) (design : NetlistRec) (at : Occurrence) (text : Text)
    : Type 0 where
  pub first : IsFirstOf design at
  pub text_is : text ≡ net_text names design at.path first.net

abbrev pub constant_net : Constant → NetRef
constant_net constants.Gnd = nets.Gnd
constant_net constants.Vcc = nets.Vcc

-- an occurrence is of this net of the flat design
abbrev pub IsOfNet : List Text → DeviceRec → NetlistRec → List Occurrence → Occurrence → NetRef
    → Type 0
IsOfNet names rec design signals at nets.Gnd =
    HasSink rec design at × IsConstantNet names rec design constants.Gnd at
IsOfNet names rec design signals at nets.Vcc =
    HasSink rec design at × IsConstantNet names rec design constants.Vcc at
IsOfNet names rec design signals at (nets.Signal n) =
    (first : Occurrence) × (slice_get signals n ≡ Some first) × AreOneNet design first at

-- Pins.

-- the pin by which the cell of a top's bit is on its net
abbrev pub port_pin : Text
port_pin = codes "P"

-- how many port cells the ports of the top before a place have
abbrev pub cells_of_port : Option Port → ℕ
cells_of_port None = 0
cells_of_port (Some port) = if is_some (port_type port.dir) then width port else 0

abbrev pub cells_before : NetlistRec → (place : ℕ) → ℕ
cells_before design place = sum_by (λ number. cells_of_port (slice_get design.port_list number))
    (take place (ports_of design design.top_inst.cell))

-- A pin of the flat design: the number of its cell and the text of its name. Port cells come
-- first.
abbrev pub IsFlatPin : List Text → NetlistRec → (ports : ℕ) → List LeafCell → Pin → (cell : ℕ)
    → Text → Type 0
IsFlatPin names design ports leaves (TopPin place index) cell text = (number : PortNumber)
    × (port : Port) × (ty : Text) × IsTopBit design place index number port
    × (port_type port.dir ≡ Some ty) × (cell ≡ cells_before design place + index)
    × (text ≡ port_pin)
IsFlatPin names design ports leaves (LeafPin path bit) cell text =
    (k : ℕ) × (leaf : LeafCell) × (slice_get leaves k ≡ Some leaf) × (leaf.path ≡ path)
    × (cell ≡ ports + k) × (written_bit names design bit ≡ Some text)

-- A pin of a plain leaf or of a port cell is on this net; nets without sinks are dropped.
pub record IsPinOnNet (rec : DeviceRec) (names : List Text) (design : NetlistRec)
    (leaves : List LeafCell) (signals : List Occurrence) (ports cell : ℕ) (text : Text)
    (net : NetRef) : Type 0 where
  pub pin : Pin
  pub is : IsFlatPin names design ports leaves pin cell text
  pub at : Occurrence
  pub on : IsOnNet design pin at
  pub of_net : IsOfNet names rec design signals at net

-- a signal net's driver
pub record IsDriverOf (rec : DeviceRec) (names : List Text) (design : NetlistRec)
    (leaves : List LeafCell) (ports : ℕ) (at : Occurrence) (driver : CellPin) : Type 0 where
  pub pin : Pin
  pub drives : IsDriver names rec design pin
  pub on : IsOnNet design pin at
  pub text : Text
  pub is : IsFlatPin names design ports leaves pin driver.cell text
  pub named : slice_get names driver.pin ≡ Some text

-- Truth tables.

-- what a LUT's property says, by its key
abbrev pub init_value : List Entry → (key : ℕ) → Option PropertyValue
init_value properties key = option_map (λ e. e.value) (find (λ e. nat_eq e.key key) properties)

-- the number that a property's value reads as, as the INIT of a LUT of so many inputs
abbrev pub init_number : List Text → (inputs : ℕ) → PropertyValue → Option ℕ
init_number names inputs (values.Text text) = option_and_then (number_below (2 ^ (2 ^ inputs)))
    (text_number inputs (slice_index_or names text []))
init_number names inputs (values.Int n) = number_below (2 ^ (2 ^ inputs)) n
init_number names inputs (values.Bool b) = None

-- what the device says of a LUT type; none where the type isn't one
abbrev pub lut_of_type : DeviceRec → ℕ → Option LutCell
lut_of_type rec ty = find (is_lut_cell ty) rec.lut_definitions.lut_cells

-- the truth table of a leaf of a LUT type, where its INIT reads as one
abbrev pub table_of : List Text → LutCell → CellInstance → Option TruthTable
table_of names lut inst = option_map
    (λ bits. record { bits = bits; inputs = length lut.input_pins })
    (option_and_then (init_number names (length lut.input_pins))
    (init_value inst.prop_map.entries lut.init_param))

abbrev pub table_of_leaf : DeviceRec → List Text → LeafCell → Option TruthTable
table_of_leaf rec names leaf =
    option_and_then (λ lut. table_of names lut leaf.inst) (lut_of_type rec leaf.ty)

-- The flat design of a netlist on a device, over a table of names in which the netlist's names and
-- those of flat cells and nets are numbers. It has no fixed cells yet.
pub record IsFlatOf (rec : DeviceRec) (names : List Text) (design : NetlistRec) (flat : Flat)
    : Type 0 where
  pub leaves : List LeafCell
  pub are_leaves : AreLeafCells rec design leaves
  pub signals : List Occurrence
  pub are_signals : AreSignals names rec design signals
  pub cells : map (cell_texts names) flat.cells
      ≡ map (λ texts. Some texts) (port_cells names design ++ map (leaf_texts names design) leaves)
  pub ports : flat.ports ≡ length (port_cells names design)
  pub nets_count : length flat.nets ≡ length signals
  pub net_names : (n : ℕ) (net : FlatNet) (at : Occurrence) → slice_get flat.nets n ≡ Some net
      → slice_get signals n ≡ Some at
      → (text : Text) × (slice_get names net.name ≡ Some text) × IsNetText names design at text
  pub drivers : (n : ℕ) (net : FlatNet) (at : Occurrence) → slice_get flat.nets n ≡ Some net
      → slice_get signals n ≡ Some at
      → (driver : CellPin) × (net.driver ≡ Some driver)
      × IsDriverOf rec names design leaves flat.ports at driver
  pub pins : (cell pin : ℕ) (net : NetRef) → get flat.pins (cell, pin) ≡ Some net
      → (text : Text) × (slice_get names pin ≡ Some text)
      × IsPinOnNet rec names design leaves signals flat.ports cell text net
  pub all_pins : (cell : ℕ) (text : Text) (net : NetRef)
      → IsPinOnNet rec names design leaves signals flat.ports cell text net
      → (pin : ℕ) × (slice_get names pin ≡ Some text) × (get flat.pins (cell, pin) ≡ Some net)
  -- each net that has a sink is one of its nets
  pub all_nets : (at : Occurrence) → HasSink rec design at
      → (net : NetRef) × IsOfNet names rec design signals at net
  pub no_port_tables : (cell : ℕ) → cell < flat.ports → get flat.tables cell ≡ None
  pub tables : (k : ℕ) → get flat.tables (flat.ports + k)
      ≡ option_and_then (table_of_leaf rec names) (slice_get leaves k)
  pub none_fixed : (cell : ℕ) → get flat.fixed cell ≡ None
