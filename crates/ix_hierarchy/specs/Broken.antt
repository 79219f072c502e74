-- The rules N1 to N10 of a logical netlist on a device: where each is broken, and which is told.
use Rattle.std.specs.Prelude.{◌≡◌, ◌≢◌, ◌⊎◌, ◌<◌, ◌^◌, ℕ, List, [], ◌∷◌, ◌++◌, length}
use Rattle.std.specs.Prelude.{slice_get, slice_index_or, Option, Some, None, option_map}
use Rattle.std.specs.Prelude.{true, nat_eq, codes}
use Rattle.std.specs.List.{AllByRecursion, list_any}
use Rattle.ix_message.specs.Shape.{Text}
use Rattle.ix_rec.specs.declared.device.DeviceRec.{DeviceRec}
use Rattle.ix_rec.specs.declared.device.Direction.TheVariants.{Inout}
use Rattle.ix_rec.specs.declared.device.LutCell.{LutCell}
use Rattle.ix_rec.specs.declared.netlist.Cell.{Cell}
use Rattle.ix_rec.specs.declared.netlist.CellInstance.{CellInstance}
use Rattle.ix_rec.specs.declared.netlist.Net.{Net}
use Rattle.ix_rec.specs.declared.netlist.NetlistRec.{NetlistRec}
use Rattle.ix_rec.specs.declared.netlist.Port.{Port}
use Rattle.ix_rec.specs.declared.netlist.PortInstance.{PortInstance}
use Rattle.ix_rec.specs.declared.netlist.PortOwner.{PortOwner}
use Rattle.ix_rec.specs.declared.netlist.PortOwner.TheVariants.{ExtPort, Inst}
use Rattle.ix_rec.specs.declared.place.Rule.{Rule}
use Rattle.ix_rec.specs.declared.place.Rule.TheVariants.{N1, N2, N3, N4, N5, N6, N7, N8, N9, N10}
use Rattle.ix_hierarchy.specs.Hierarchy.{Path, PortBit, IsInstance, inside_at, ports_of}
use Rattle.ix_hierarchy.specs.Hierarchy.{written_bit}
use Rattle.ix_hierarchy.specs.Hierarchy.{flat_name, instance_at, width, written}
use Rattle.ix_hierarchy.specs.Walk.{Spot, TopBit, NetAt, InstanceAt, PinAt, IsBefore, IsFirst}
use Rattle.ix_hierarchy.specs.Nets.{Occurrence, Occurs, IsFirstOf, bit_of, same_bit}
use Rattle.ix_hierarchy.specs.Pins.{Pin, LeafPin, TopPin, IsLeafOf, IsPlainLeaf, IsTopBit, IsOnNet}
use Rattle.ix_hierarchy.specs.Pins.{IsDriver, HasSink, constant_of_type}
use Rattle.ix_rec.specs.declared.flow.Flat.{Flat}
use Rattle.ix_hierarchy.specs.FlatDesign.{IsNetText, lut_of_type, table_of, port_type, IsSignal}
use Rattle.ix_hierarchy.specs.FlatDesign.{IsFlatOf}

-- N1: which declarations stand inside which.

-- a cell of the one declaration has an instance of the other
pub record Contains (design : NetlistRec) (outer inner : ℕ) : Type 0 where
  pub place : ℕ
  pub cell : Cell
  pub cell_is : slice_get design.cell_list place ≡ Some cell
  pub of_outer : cell.index ≡ outer
  pub position : ℕ
  pub instance : ℕ
  pub has : slice_get cell.insts position ≡ Some instance
  pub inst : CellInstance
  pub inst_is : slice_get design.inst_list instance ≡ Some inst
  pub of_inner : inst.cell ≡ inner

-- each contains the next
abbrev pub IsDescent : NetlistRec → (from : ℕ) → List ℕ → (to : ℕ) → Type 0
IsDescent design from [] to = from ≡ to
IsDescent design from (next ∷ way) to = Contains design from next × IsDescent design next way to

abbrev pub Reaches : NetlistRec → (from to : ℕ) → Type 0
Reaches design from to = (way : List ℕ) × IsDescent design from way to

-- the top reaches it, and it contains itself
pub record ContainsItself (design : NetlistRec) (declaration : ℕ) : Type 0 where
  pub reached : Reaches design design.top_inst.cell declaration
  pub next : ℕ
  pub goes_in : Contains design declaration next
  pub comes_back : Reaches design next declaration

-- two cells are of it
pub record HasTwoCells (design : NetlistRec) (declaration : ℕ) : Type 0 where
  pub first : ℕ
  pub second : ℕ
  pub apart : first ≢ second
  pub cell : Cell
  pub other : Cell
  pub is : slice_get design.cell_list first ≡ Some cell
  pub other_is : slice_get design.cell_list second ≡ Some other
  pub of_it : cell.index ≡ declaration
  pub other_of_it : other.index ≡ declaration

abbrev pub BreaksN1 : NetlistRec → (declaration : ℕ) → Type 0
BreaksN1 design declaration = ContainsItself design declaration ⊎ HasTwoCells design declaration

-- N2: port bits of one cell or of one instance.

abbrev pub same_owner : PortOwner → PortOwner → Type 0
same_owner ExtPort ExtPort = Unit {0}
same_owner (Inst a) (Inst b) = a ≡ b
same_owner ExtPort (Inst b) = ⊥
same_owner (Inst a) ExtPort = ⊥

abbrev pub IsInstanceOf : PortOwner → Type 0
IsInstanceOf ExtPort = ⊥
IsInstanceOf (Inst a) = Unit {0}

-- a port bit that a net of a cell names, by the places of both
pub record Names (cell : Cell) (net place : ℕ) (named : PortInstance) : Type 0 where
  pub of_net : Net
  pub net_is : slice_get cell.nets net ≡ Some of_net
  pub named_is : slice_get of_net.port_insts place ≡ Some named

-- an earlier net of the cell names the same bit of the same owner
pub record IsOnTwo (cell : Cell) (net : ℕ) : Type 0 where
  pub place : ℕ
  pub named : PortInstance
  pub here : Names cell net place named
  pub earlier : ℕ
  pub before : earlier < net
  pub other_place : ℕ
  pub other : PortInstance
  pub there : Names cell earlier other_place other
  pub owner : same_owner other.owner named.owner
  pub same : same_bit (bit_of other) (bit_of named) ≡ true

-- nothing before it names this bit of this owner
abbrev pub IsMet : Cell → (net place : ℕ) → PortInstance → Type 0
IsMet cell net place named = (m i : ℕ) (other : PortInstance)
    → (m < net) ⊎ ((m ≡ net) × (i < place)) → Names cell m i other
    → same_owner other.owner named.owner → same_bit (bit_of other) (bit_of named) ≡ true → ⊥

-- A bit of an instance is first met here, and another bit of the instance with the same written
-- name was met before.
pub record IsWrittenTwice (names : List Text) (design : NetlistRec) (cell : Cell) (net : ℕ) : Type 0
  where
    pub place : ℕ
    pub named : PortInstance
    pub here : Names cell net place named
    pub of_instance : IsInstanceOf named.owner
    pub met : IsMet cell net place named
    pub earlier : ℕ
    pub other_place : ℕ
    pub other : PortInstance
    pub there : Names cell earlier other_place other
    pub before : (earlier < net) ⊎ ((earlier ≡ net) × (other_place < place))
    pub owner : same_owner other.owner named.owner
    pub apart : ¬ (same_bit (bit_of other) (bit_of named) ≡ true)
    pub text : Text
    pub text_is : written_bit names design (bit_of named) ≡ Some text
    pub other_text_is : written_bit names design (bit_of other) ≡ Some text

abbrev pub BreaksN2 : List Text → NetlistRec → Spot → Type 0
BreaksN2 names design (NetAt path net) = (cell : Cell) × (inside_at design path ≡ Some cell)
    × (IsOnTwo cell net ⊎ IsWrittenTwice names design cell net)
BreaksN2 names design spot = ⊥

-- N9: a leaf's type is neither one of the cell-to-BEL map nor one of constant cells.
abbrev pub IsUnknownType : DeviceRec → ℕ → Type 0
IsUnknownType rec ty = ¬ (list_any (λ m. nat_eq m.cell ty) rec.cell_bel_map ≡ true)
    × (constant_of_type rec ty ≡ None)

abbrev pub BreaksN9 : DeviceRec → NetlistRec → Spot → Type 0
BreaksN9 rec design (InstanceAt path) = (inst : CellInstance) × (ty : ℕ)
    × IsLeafOf design path inst ty × IsUnknownType rec ty
BreaksN9 rec design spot = ⊥

-- N10: instances below the top, net occurrences and top port bits are too many: so many different
-- ones are there.
abbrev pub IsCounted : NetlistRec → Spot → Type 0
IsCounted design (TopBit place index) = (number : ℕ) × (port : Port)
    × IsTopBit design place index number port
IsCounted design (NetAt path net) =
    (cell : Cell) × (of_net : Net) × Occurs design record { path = path; net = net } cell of_net
IsCounted design (InstanceAt []) = ⊥
IsCounted design (InstanceAt (place ∷ path)) = IsInstance design (place ∷ path)
IsCounted design (PinAt path place index) = ⊥

abbrev pub AllDiffer : List Spot → Type 0
AllDiffer spots = (i j : ℕ) (spot : Spot) → slice_get spots i ≡ Some spot
    → slice_get spots j ≡ Some spot → i ≡ j

abbrev pub BreaksN10 : NetlistRec → Type 0
BreaksN10 design = (spots : List Spot) × AllDiffer spots × AllByRecursion (IsCounted design) spots
    × (2 ^ 22 < length spots)

-- N8: a bit of an inout port of the top, or an inout pin of a leaf, is on a net.

-- a pin of a leaf, by the place of the port in its declaration
pub record IsLeafPin (design : NetlistRec) (path : Path) (place index : ℕ) (bit : PortBit)
    (port : Port) : Type 0 where
  pub inst : CellInstance
  pub ty : ℕ
  pub leaf : IsLeafOf design path inst ty
  pub which : slice_get (ports_of design inst.cell) place ≡ Some bit.port
  pub port_is : slice_get design.port_list bit.port ≡ Some port
  pub index_is : bit.index ≡ index

abbrev pub IsInoutOn : NetlistRec → Spot → Occurrence → Type 0
IsInoutOn design (TopBit place index) at = (number : ℕ) × (port : Port)
    × IsTopBit design place index number port × (port.dir ≡ Inout)
    × IsOnNet design (TopPin place index) at
IsInoutOn design (PinAt path place index) at = (bit : PortBit) × (port : Port)
    × IsLeafPin design path place index bit port × (port.dir ≡ Inout)
    × IsOnNet design (LeafPin path bit) at
IsInoutOn design (NetAt path net) at = ⊥
IsInoutOn design (InstanceAt path) at = ⊥

abbrev pub BreaksN8 : NetlistRec → Spot → Type 0
BreaksN8 design spot = (at : Occurrence) × IsInoutOn design spot at

-- N3 and N4, at the first occurrence of a net.
pub record HasTwoDrivers (names : List Text) (rec : DeviceRec) (design : NetlistRec)
    (at : Occurrence) : Type 0 where
  pub one : Pin
  pub other : Pin
  pub apart : one ≢ other
  pub drives : IsDriver names rec design one
  pub other_drives : IsDriver names rec design other
  pub on : IsOnNet design one at
  pub other_on : IsOnNet design other at

abbrev pub BreaksN3 : List Text → DeviceRec → NetlistRec → Spot → Type 0
BreaksN3 names rec design (NetAt path net) =
    IsFirstOf design record { path = path; net = net }
    × HasTwoDrivers names rec design record { path = path; net = net }
BreaksN3 names rec design spot = ⊥

abbrev pub HasNoDriver : List Text → DeviceRec → NetlistRec → Occurrence → Type 0
HasNoDriver names rec design at =
    (pin : Pin) → IsDriver names rec design pin → IsOnNet design pin at → ⊥

abbrev pub BreaksN4 : List Text → DeviceRec → NetlistRec → Spot → Type 0
BreaksN4 names rec design (NetAt path net) =
    IsFirstOf design record { path = path; net = net }
    × HasSink rec design record { path = path; net = net }
    × HasNoDriver names rec design record { path = path; net = net }
BreaksN4 names rec design spot = ⊥

-- N5: two cells, or two signal nets, have one flat name.

-- what stands at a place and has a flat name among cells
abbrev pub IsCellNamed : List Text → DeviceRec → NetlistRec → Spot → Text → Type 0
IsCellNamed names rec design (TopBit place index) text = (number : ℕ) × (port : Port)
    × IsTopBit design place index number port × ¬ (port_type port.dir ≡ None)
    × (text ≡ codes "$port/" ++ written names port index)
IsCellNamed names rec design (InstanceAt path) text = (inst : CellInstance) × (ty : ℕ)
    × IsPlainLeaf rec design path inst ty × (text ≡ flat_name names design path [])
IsCellNamed names rec design (NetAt path net) text = ⊥
IsCellNamed names rec design (PinAt path place index) text = ⊥

-- and among signal nets, also without a driver
abbrev pub IsNetNamed : List Text → DeviceRec → NetlistRec → Spot → Text → Type 0
IsNetNamed names rec design (NetAt path net) text =
    IsSignal names rec design record { path = path; net = net }
    × IsNetText names design record { path = path; net = net } text
IsNetNamed names rec design spot text = ⊥

pub record IsSecondNamed (IsNamed : Spot → Text → Type 0) (spot : Spot) (text : Text) : Type 0 where
  pub here : IsNamed spot text
  pub other : Spot
  pub before : IsBefore other spot
  pub there : IsNamed other text

abbrev pub BreaksN5 : List Text → DeviceRec → NetlistRec → Spot → Text → Type 0
BreaksN5 names rec design spot text =
    IsSecondNamed (IsCellNamed names rec design) spot text
    ⊎ IsSecondNamed (IsNetNamed names rec design) spot text

-- N6: the INIT of a LUT cell is absent or has no reading.
abbrev pub HasNoTable : List Text → DeviceRec → CellInstance → (ty : ℕ) → Type 0
HasNoTable names rec inst ty =
    (lut : LutCell) × (lut_of_type rec ty ≡ Some lut) × (table_of names lut inst ≡ None)

abbrev pub BreaksN6 : List Text → DeviceRec → NetlistRec → Spot → Type 0
BreaksN6 names rec design (InstanceAt path) = (inst : CellInstance) × (ty : ℕ)
    × IsPlainLeaf rec design path inst ty × HasNoTable names rec inst ty
BreaksN6 names rec design (TopBit place index) = (number : ℕ) × (port : Port) × (ty : ℕ)
    × (lut : LutCell) × (text : Text) × IsTopBit design place index number port
    × (port_type port.dir ≡ Some text) × (slice_get names ty ≡ Some text)
    × (lut_of_type rec ty ≡ Some lut)
BreaksN6 names rec design spot = ⊥

-- N7: an input of a LUT cell is on no net that has a sink.

-- an input of a LUT type, by its number
abbrev pub IsLutInput : DeviceRec → (ty : ℕ) → (input pin : ℕ) → Type 0
IsLutInput rec ty input pin =
    (lut : LutCell) × (lut_of_type rec ty ≡ Some lut) × (slice_get lut.input_pins input ≡ Some pin)

-- a pin of a leaf with this name is on a net that has a sink
pub record IsJoined (rec : DeviceRec) (names : List Text) (design : NetlistRec) (path : Path)
    (text : Text) : Type 0 where
  pub bit : PortBit
  pub written_is : written_bit names design bit ≡ Some text
  pub at : Occurrence
  pub on : IsOnNet design (LeafPin path bit) at
  pub has_sink : HasSink rec design at

-- a LUT cell's input that is on no such net, by its name
pub record IsOpen (rec : DeviceRec) (names : List Text) (design : NetlistRec) (path : Path)
    (input : ℕ) (text : Text) : Type 0 where
  pub inst : CellInstance
  pub ty : ℕ
  pub leaf : IsPlainLeaf rec design path inst ty
  pub pin : ℕ
  pub of_type : IsLutInput rec ty input pin
  pub named : slice_get names pin ≡ Some text
  pub not_joined : ¬ IsJoined rec names design path text

-- the declaration's ports, by their places, have a bit of this written name
pub record IsDeclared (names : List Text) (design : NetlistRec) (path : Path) (place index : ℕ)
    (text : Text) : Type 0 where
  pub bit : PortBit
  pub port : Port
  pub pin : IsLeafPin design path place index bit port
  pub within : index < width port
  pub text_is : text ≡ written names port index

-- Missing inputs stand in the order of the declaration's ports; those that it lacks come after
-- them, in their own order.
abbrev pub BreaksN7At : List Text → DeviceRec → NetlistRec → Spot → Text → Type 0
BreaksN7At names rec design (PinAt path place index) text =
    (input : ℕ) × IsOpen rec names design path input text
    × (IsDeclared names design path place index text
    ⊎ (((p i : ℕ) → ¬ IsDeclared names design path p i text)
    × ((inst : CellInstance) × (instance_at design path ≡ Some inst)
    × (place ≡ length (ports_of design inst.cell)) × (index ≡ input))))
BreaksN7At names rec design spot text = ⊥

-- What is told: the first rule, in their order, that is broken, and the name at the first place.

abbrev pub name_of_declaration : List Text → NetlistRec → (declaration : ℕ) → Option Text
name_of_declaration names design declaration = option_map
    (λ declared. slice_index_or names declared.name []) (slice_get design.cell_decls declaration)

-- the first declaration that breaks N1
pub record TellsN1 (names : List Text) (design : NetlistRec) (word : Text) : Type 0 where
  pub declaration : ℕ
  pub here : BreaksN1 design declaration
  pub first : (other : ℕ) → other < declaration → ¬ BreaksN1 design other
  pub word_is : name_of_declaration names design declaration ≡ Some word

-- a net by its name in its cell
pub record TellsN2 (names : List Text) (design : NetlistRec) (word : Text) : Type 0 where
  pub path : Path
  pub net : ℕ
  pub first : IsFirst (BreaksN2 names design) (NetAt path net)
  pub cell : Cell
  pub inside : inside_at design path ≡ Some cell
  pub of_net : Net
  pub net_is : slice_get cell.nets net ≡ Some of_net
  pub word_is : slice_get names of_net.name ≡ Some word

-- a leaf by its flat name
pub record TellsLeaf (names : List Text) (design : NetlistRec) (Breaks : Spot → Type 0)
    (word : Text) : Type 0 where
  pub path : Path
  pub first : IsFirst Breaks (InstanceAt path)
  pub word_is : word ≡ flat_name names design path []

-- a net by its flat name
pub record TellsNet (names : List Text) (design : NetlistRec) (Breaks : Spot → Type 0)
    (word : Text) : Type 0 where
  pub path : Path
  pub net : ℕ
  pub first : IsFirst Breaks (NetAt path net)
  pub word_is : IsNetText names design record { path = path; net = net } word

-- the net of the first inout bit or pin, by its flat name
pub record TellsN8 (names : List Text) (design : NetlistRec) (word : Text) : Type 0 where
  pub spot : Spot
  pub first : IsFirst (BreaksN8 design) spot
  pub at : Occurrence
  pub on : IsInoutOn design spot at
  pub word_is : IsNetText names design at word

-- a name with the first place at which it is the second of two
pub record TellsN5 (names : List Text) (rec : DeviceRec) (design : NetlistRec) (word : Text)
    : Type 0 where
  pub spot : Spot
  pub first : IsFirst (λ s. (text : Text) × BreaksN5 names rec design s text) spot
  pub word_is : BreaksN5 names rec design spot word

-- a port cell or a leaf whose type is a LUT type and that has no table
abbrev pub IsCellText : List Text → NetlistRec → Spot → Text → Type 0
IsCellText names design (InstanceAt path) word = word ≡ flat_name names design path []
IsCellText names design (TopBit place index) word = (number : ℕ) × (port : Port)
    × IsTopBit design place index number port
    × (word ≡ codes "$port/" ++ written names port index)
IsCellText names design spot word = ⊥

pub record TellsN6 (names : List Text) (rec : DeviceRec) (design : NetlistRec) (word : Text)
    : Type 0 where
  pub spot : Spot
  pub first : IsFirst (BreaksN6 names rec design) spot
  pub word_is : IsCellText names design spot word

-- CELL/PIN
pub record TellsN7 (names : List Text) (rec : DeviceRec) (design : NetlistRec) (word : Text)
    : Type 0 where
  pub path : Path
  pub place : ℕ
  pub index : ℕ
  pub first : IsFirst (λ s. (text : Text) × BreaksN7At names rec design s text)
      (PinAt path place index)
  pub text : Text
  pub here : BreaksN7At names rec design (PinAt path place index) text
  pub word_is : word ≡ flat_name names design path (text ∷ [])

abbrev pub None1 : NetlistRec → Type 0
None1 design = (declaration : ℕ) → ¬ BreaksN1 design declaration

abbrev pub NoneBreaks : (Spot → Type 0) → Type 0
NoneBreaks Breaks = (spot : Spot) → ¬ Breaks spot

-- the rules before this one, in the order N1, N2, N9, N10, N8, N5, N3, N4, N6, N7
abbrev pub Keeps2 : List Text → NetlistRec → Type 0
Keeps2 names design = None1 design × NoneBreaks (BreaksN2 names design)

abbrev pub Keeps9 : List Text → DeviceRec → NetlistRec → Type 0
Keeps9 names rec design = Keeps2 names design × NoneBreaks (BreaksN9 rec design)

abbrev pub Keeps10 : List Text → DeviceRec → NetlistRec → Type 0
Keeps10 names rec design = Keeps9 names rec design × ¬ BreaksN10 design

abbrev pub Keeps8 : List Text → DeviceRec → NetlistRec → Type 0
Keeps8 names rec design = Keeps10 names rec design × NoneBreaks (BreaksN8 design)

abbrev pub Keeps5 : List Text → DeviceRec → NetlistRec → Type 0
Keeps5 names rec design = Keeps8 names rec design
    × NoneBreaks (λ s. (text : Text) × BreaksN5 names rec design s text)

abbrev pub Keeps3 : List Text → DeviceRec → NetlistRec → Type 0
Keeps3 names rec design = Keeps5 names rec design × NoneBreaks (BreaksN3 names rec design)

abbrev pub Keeps4 : List Text → DeviceRec → NetlistRec → Type 0
Keeps4 names rec design = Keeps3 names rec design × NoneBreaks (BreaksN4 names rec design)

abbrev pub Keeps6 : List Text → DeviceRec → NetlistRec → Type 0
Keeps6 names rec design = Keeps4 names rec design × NoneBreaks (BreaksN6 names rec design)

-- all of them
abbrev pub KeepsAll : List Text → DeviceRec → NetlistRec → Type 0
KeepsAll names rec design = Keeps6 names rec design
    × NoneBreaks (λ s. (text : Text) × BreaksN7At names rec design s text)

abbrev pub IsBroken : List Text → DeviceRec → NetlistRec → Rule → (word : Text) → Type 0
IsBroken names rec design N1 word = TellsN1 names design word
IsBroken names rec design N2 word = None1 design × TellsN2 names design word
IsBroken names rec design N9 word =
    Keeps2 names design × TellsLeaf names design (BreaksN9 rec design) word
IsBroken names rec design N10 word = Keeps9 names rec design × BreaksN10 design × (word ≡ [])
IsBroken names rec design N8 word = Keeps10 names rec design × TellsN8 names design word
IsBroken names rec design N5 word = Keeps8 names rec design × TellsN5 names rec design word
IsBroken names rec design N3 word =
    Keeps5 names rec design × TellsNet names design (BreaksN3 names rec design) word
IsBroken names rec design N4 word =
    Keeps3 names rec design × TellsNet names design (BreaksN4 names rec design) word
IsBroken names rec design N6 word = Keeps4 names rec design × TellsN6 names rec design word
IsBroken names rec design N7 word = Keeps6 names rec design × TellsN7 names rec design word
IsBroken names rec design rule word = ⊥

-- The flat design of a netlist on a device: there is one exactly where no rule is broken.
pub record IsFlattened (names : List Text) (rec : DeviceRec) (design : NetlistRec) (flat : Flat)
    : Type 0 where
  pub keeps : KeepsAll names rec design
  pub is : IsFlatOf rec names design flat
