-- A netlist without tables, completed: each LUT element gets the table that its LUTs force, by the
-- tables that a flat design tells of them.
use Rattle.std.specs.Prelude.{◌≡◌, ◌≢◌, ◌⊎◌, ◌↔◌, ◌<◌, ℕ, List, ◌++◌, length, slice_get}
use Rattle.std.specs.Prelude.{Contains, Some, option_and_then}
use Rattle.std.specs.FinMap.{get}
use Rattle.std.specs.Int.{bit_at}
use Rattle.ix_message.specs.Shape.{Text}
use Rattle.ix_num.specs.Numbers.{NameNumber}
use Rattle.ix_rec.specs.declared.device.DeviceRec.{DeviceRec}
use Rattle.ix_rec.specs.declared.device.LutCell.{LutCell}
use Rattle.ix_rec.specs.declared.flow.Flat.{Flat}
use Rattle.ix_rec.specs.declared.flow.FlatCell.{FlatCell}
use Rattle.ix_rec.specs.declared.flow.TruthTable.{TruthTable}
use Rattle.ix_rec.specs.declared.phys.CellPlacement.{CellPlacement}
use Rattle.ix_rec.specs.declared.phys.Phys.{Phys}
use Rattle.ix_rec.specs.declared.phys.Property.{Property}
use Rattle.ix_rec.specs.declared.phys.SiteInstance.{SiteInstance}
use Rattle.ix_device.specs.Shapes.{ShapeSeen}
use Rattle.ix_lut.specs.Places.{ElementBits, Forces, Held, LutPlace}
use Rattle.ix_legal.specs.LutTables.{AreHeld, HasLut, IsLutOn}
use Rattle.ix_legal.specs.Sites.{ElementNumber, shape_at}
use Rattle.ix_legal.specs.TableKeys.{IsTableKey, table_bits, table_key}

-- a property of the netlist has the key of a table, or one that begins so
pub record HasTables (names : List Text) (phys : Phys) : Type 0 where
  pub property : Property
  pub stands : Contains phys.properties property
  pub key : Text
  pub key_is : slice_get names property.key ≡ Some key
  pub is_table_key : IsTableKey key

-- the first cell of the design that has this name
pub record IsNamed (flat : Flat) (name : NameNumber) (cell : ℕ) : Type 0 where
  pub its : FlatCell
  pub its_is : slice_get flat.cells cell ≡ Some its
  pub name_is : its.name ≡ name
  pub first : (q : ℕ) (other : FlatCell) → q < cell → slice_get flat.cells q ≡ Some other
      → other.name ≢ name

-- the design tells a table of as many inputs as the placed LUT has
pub record IsTold (flat : Flat) (placement : CellPlacement) (lut : LutCell) (table : TruthTable)
    : Type 0 where
  pub cell : ℕ
  pub cell_is : IsNamed flat placement.cell_name cell
  pub table_is : get flat.tables cell ≡ Some table
  pub inputs : table.inputs ≡ length lut.input_pins

-- A placed LUT forces a bit of its element's table: for it to have the table that the design tells,
-- whatever the values of inputs that it doesn't use, as long as they agree with the constants that
-- hold their wires.
pub record IsForcedBy (rec : DeviceRec) (phys : Phys) (flat : Flat) (element : ElementNumber)
    (placement : CellPlacement) (at bit : ℕ) : Type 0 where
  pub lut : LutCell
  pub place : ℕ
  pub on : LutPlace
  pub is_on : IsLutOn rec placement lut element place on
  pub held : Held
  pub are_held : AreHeld rec phys.nets placement.site element on held
  pub table : TruthTable
  pub is_told : IsTold flat placement lut table
  pub forces : Forces on table.bits held at bit

-- one of the LUTs that are placed in the element does
pub record IsForced (rec : DeviceRec) (phys : Phys) (flat : Flat) (site : NameNumber)
    (element : ElementNumber) (at bit : ℕ) : Type 0 where
  pub placement : CellPlacement
  pub placed : Contains phys.placements placement
  pub site_is : placement.site ≡ site
  pub by : IsForcedBy rec phys flat element placement at bit

-- The table that its LUTs force: the bits that are forced to 1 are, the others are 0, and none is
-- forced both ways.
pub record IsForcedTable (rec : DeviceRec) (phys : Phys) (flat : Flat) (site : NameNumber)
    (element : ElementNumber) (bits : ElementBits) : Type 0 where
  pub ones : (at : ℕ) → (bit_at bits at ≡ 1) ↔ IsForced rec phys flat site element at 1
  pub apart : (at : ℕ) → IsForced rec phys flat site element at 1
      → ¬ IsForced rec phys flat site element at 0

-- An element gets a table: a usable one of a site in use, which counts at its first instance, in
-- which a LUT is placed.
pub record GetsTable (rec : DeviceRec) (phys : Phys) (flat : Flat) (i : ℕ)
    (element : ElementNumber) (bits : ElementBits) : Type 0 where
  pub instance : SiteInstance
  pub instance_is : slice_get phys.site_insts i ≡ Some instance
  pub first : (j : ℕ) (other : SiteInstance) → j < i → slice_get phys.site_insts j ≡ Some other
      → other.site ≢ instance.site
  pub shape : ShapeSeen
  pub usable : shape_at rec instance.site element ≡ Some shape
  pub place : ℕ
  pub placement : CellPlacement
  pub lut : LutCell
  pub has_lut : HasLut rec phys instance.site element place placement lut
  pub is_table : IsForcedTable rec phys flat instance.site element bits

-- an element that gets a table
pub record Filling : Type 0 where
  pub instance : ℕ
  pub element : ElementNumber
  pub bits : ElementBits

-- by instance, and then by the element's number
abbrev pub IsEarlier : Filling → Filling → Type 0
IsEarlier a b = (a.instance < b.instance)
    ⊎ ((a.instance ≡ b.instance) × (a.element < b.element))

-- all elements that get a table, in this order
pub record AreFillings (rec : DeviceRec) (phys : Phys) (flat : Flat) (fillings : List Filling)
    : Type 0 where
  pub each : (f : Filling)
      → Contains fillings f ↔ GetsTable rec phys flat f.instance f.element f.bits
  pub rising : (j k : ℕ) (a b : Filling) → j < k → slice_get fillings j ≡ Some a
      → slice_get fillings k ≡ Some b → IsEarlier a b

-- a property tells the table of an element
pub record TellsFilling (names : List Text) (phys : Phys) (f : Filling) (property : Property)
    : Type 0 where
  pub instance : SiteInstance
  pub instance_is : slice_get phys.site_insts f.instance ≡ Some instance
  pub site : Text
  pub site_is : slice_get names instance.site ≡ Some site
  pub key_is : slice_get names property.key ≡ Some (table_key site f.element)
  pub value_is : option_and_then table_bits (slice_get names property.value) ≡ Some f.bits

-- these tell those of the elements, one by one
pub record TellFillings (names : List Text) (phys : Phys) (fillings : List Filling)
    (added : List Property) : Type 0 where
  pub all : length added ≡ length fillings
  pub each : (k : ℕ) (f : Filling) (property : Property) → slice_get fillings k ≡ Some f
      → slice_get added k ≡ Some property → TellsFilling names phys f property

-- A netlist that has no table, with those that its LUTs force behind its properties.
pub record IsFilled (names : List Text) (rec : DeviceRec) (phys : Phys) (flat : Flat)
    (filled : Phys) : Type 0 where
  pub none : ¬ HasTables names phys
  pub fillings : List Filling
  pub are : AreFillings rec phys flat fillings
  pub added : List Property
  pub tell : TellFillings names phys fillings added
  pub filled_is : filled ≡ record {
    part = phys.part;
    placements = phys.placements;
    nets = phys.nets;
    site_insts = phys.site_insts;
    properties = phys.properties ++ added;
  }

-- A netlist is completed where it has no table of its own.
abbrev pub IsCompleted : List Text → DeviceRec → Phys → Flat → Phys → Type 0
IsCompleted names rec phys flat completed = (HasTables names phys × (completed ≡ phys))
    ⊎ IsFilled names rec phys flat completed
