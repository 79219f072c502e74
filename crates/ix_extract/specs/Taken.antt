-- A design as it is taken from a netlist, part by part.
use Rattle.std.specs.Prelude.{◌≡◌, ◌↔◌, ◌<◌, ℕ, List, take, length, map, slice_get}
use Rattle.std.specs.Prelude.{Option, Some, None, IfSome, codes, false}
use Rattle.std.specs.FinMap.{FinMap, get}
use Rattle.std.specs.Ordering.{nat_cmp}
use Rattle.ix_message.specs.Shape.{Text}
use Rattle.ix_num.specs.Numbers.{NameNumber, SiteNumber, SiteTypeNumber, BelNumber, BelPinNumber}
use Rattle.ix_num.specs.Numbers.{SiteWireNumber}
use Rattle.ix_num.specs.declared.resource.NetRef.{NetRef}
use Rattle.ix_num.specs.declared.resource.Res.TheVariants.{Wire}
use Rattle.ix_rec.specs.Maps.{pin_order}
use Rattle.ix_rec.specs.declared.device.DeviceRec.{DeviceRec}
use Rattle.ix_rec.specs.declared.device.LutCell.{LutCell}
use Rattle.ix_rec.specs.declared.flow.FlatNet.{FlatNet}
use Rattle.ix_rec.specs.declared.flow.TruthTable.{TruthTable}
use Rattle.ix_rec.specs.declared.phys.CellPlacement.{CellPlacement}
use Rattle.ix_rec.specs.declared.phys.NetType.TheVariants.{Signal}
use Rattle.ix_rec.specs.declared.phys.Phys.{Phys}
use Rattle.ix_rec.specs.declared.phys.PhysNet.{PhysNet}
use Rattle.ix_device.specs.Lookups.{site_named, type_of_site}
use Rattle.ix_legal.specs.Holders.{Holds, nets_of_type}
use Rattle.ix_legal.specs.Legal.{IsSound}
use Rattle.ix_legal.specs.Segments.{NetNumber}
use Rattle.ix_legal.specs.Sharing.{IsUnshared}
use Rattle.ix_legal.specs.Spots.{Everywhere}
use Rattle.ix_legal.specs.declared.level.Level.{Level}
use Rattle.ix_legal.specs.Sites.{lut_cell_of}
use Rattle.ix_ends.specs.Ends.{EndsSeen, AreEnds}
use Rattle.ix_holders.specs.Holders.{AreHolders}
use Rattle.ix_lut_places.specs.Places.{ArePlaces}
use Rattle.ix_lut_places.specs.declared.places.LutPlaces.{LutPlaces}
use Rattle.ix_placed_luts.specs.Tied.{HaveOneHolder}
use Rattle.ix_table_keys.specs.Tables.{AreTableKeys, IsNamedThere}
use Rattle.ix_table_keys.specs.declared.tables.TableKeys.{TableKeys}
use Rattle.ix_extract.specs.declared.ports.PortTypes.{PortTypes}
use Rattle.ix_extract.specs.declared.tables.LutTable.{LutTable}
use Rattle.ix_extract.specs.declared.tables.LutTable.TheVariants.{Plain, Lacking, Has}
use Rattle.ix_extract.specs.Extracted.{net_of, is_lut_input, IsPinOn, IsTableOf, IsPortOn}
use Rattle.ix_extract.specs.Extracted.{LacksFunction}

-- Nets.

-- by net, how many signal nets stand before it
pub record AreRanks (nets : List PhysNet) (count : ℕ) (ranks : List ℕ) : Type 0 where
  pub all : length ranks ≡ count
  pub each : (n : NetNumber) → n < count
      → slice_get ranks n ≡ Some (length (nets_of_type Signal (take n nets)))

-- the signal nets of the first so many, and by net how many stand before it
pub record AreSignals (nets : List PhysNet) (count : ℕ) (signals : List FlatNet) (ranks : List ℕ)
    : Type 0 where
  pub ranks_are : AreRanks nets count ranks
  pub signals_are : signals ≡ map net_of (nets_of_type Signal (take count nets))

-- tables that tell what holds the wires of a netlist, in which no wire has two holders
pub record TellHolders (rec : DeviceRec) (phys : Phys) (seen : EndsSeen)
    (firsts : List (Option NetNumber)) (ranks : List ℕ) : Type 0 where
  pub ends : AreEnds rec phys seen
  pub holders : AreHolders rec phys seen firsts
  pub ranks_are : AreRanks phys.nets (length phys.nets) ranks
  pub one_holder : HaveOneHolder rec phys.nets

-- tables that tell what the tables of elements give LUTs, in a netlist in which no resource has two
-- holders
pub record TellTables (names : List Text) (rec : DeviceRec) (phys : Phys) (places : LutPlaces)
    (keys : TableKeys) (seen : EndsSeen) (firsts : List (Option NetNumber)) : Type 0 where
  pub sound : IsSound names phys
  pub named : IsNamedThere names phys
  pub unshared : (level : Level) × Everywhere (IsUnshared level rec phys)
  pub places_are : ArePlaces rec places
  pub keys_are : AreTableKeys names phys keys
  pub ends : AreEnds rec phys seen
  pub holders : AreHolders rec phys seen firsts

-- the net that holds a wire is told; none where no net does
abbrev pub TellsHolder : DeviceRec → List PhysNet → SiteNumber → SiteWireNumber → Option NetRef
    → Type 0
TellsHolder rec nets site wire told = (net : NetRef)
    → (told ≡ Some net) ↔ Holds rec nets (Wire site wire) net

-- Pins.

-- a cell is placed so, on a site of this type
pub record IsPlacedAt (rec : DeviceRec) (phys : Phys) (cell : ℕ) (placement : CellPlacement)
    (site : SiteNumber) (t : SiteTypeNumber) : Type 0 where
  pub placement_is : slice_get phys.placements cell ≡ Some placement
  pub site_is : site_named rec placement.site ≡ Some site
  pub type_is : type_of_site rec site ≡ Some t
  pub inside : t < length rec.site_type_list

-- a BEL, or a BEL pin, of this number is one of the site type's

abbrev pub IsBelOf : DeviceRec → SiteTypeNumber → BelNumber → Type 0
IsBelOf rec t bel = IfSome (slice_get rec.site_type_list t) (λ ty. bel < length ty.bels)

abbrev pub IsBelPinOf : DeviceRec → SiteTypeNumber → BelPinNumber → Type 0
IsBelPinOf rec t pin = IfSome (slice_get rec.site_type_list t) (λ ty. pin < length ty.bel_pins)

-- each pin of a map is on its net
abbrev pub AreOn : DeviceRec → Phys → FinMap pin_order NetRef → Type 0
AreOn rec phys pins = (cell : ℕ) (pin : NameNumber) (net : NetRef)
    → get pins (cell, pin) ≡ Some net → IsPinOn rec phys cell pin net

-- a map of pins grows by those of a cell that are wanted, as far as they are on nets
pub record AddsPins (rec : DeviceRec) (phys : Phys) (cell : ℕ) (Wanted : NameNumber → Type 0)
    (before after : FinMap pin_order NetRef) : Type 0 where
  pub are_on : AreOn rec phys after
  pub kept : (other : ℕ) (pin : NameNumber) (net : NetRef) → get before (other, pin) ≡ Some net
      → get after (other, pin) ≡ Some net
  pub added : (pin : NameNumber) (net : NetRef) → Wanted pin → IsPinOn rec phys cell pin net
      → get after (cell, pin) ≡ Some net

-- a pin is one of the first so many of a list, and no input of a LUT
abbrev pub IsListed : DeviceRec → CellPlacement → List (NameNumber × BelPinNumber) → (count : ℕ)
    → NameNumber → Type 0
IsListed rec placement pins count pin = (is_lut_input (lut_cell_of rec placement.ty) pin ≡ false)
    × (i : ℕ) × (entry : NameNumber × BelPinNumber) × (i < count)
    × (slice_get pins i ≡ Some entry) × (entry.0 ≡ pin)

-- a pin is one of the first so many inputs of a LUT
abbrev pub IsInputAmong : List NameNumber → (count : ℕ) → NameNumber → Type 0
IsInputAmong inputs count pin = (i : ℕ) × (i < count) × (slice_get inputs i ≡ Some pin)

-- the pins of the first so many cells
pub record ArePins (rec : DeviceRec) (phys : Phys) (count : ℕ) (pins : FinMap pin_order NetRef)
    : Type 0 where
  pub are_on : AreOn rec phys pins
  pub all : (cell : ℕ) (pin : NameNumber) (net : NetRef) → cell < count
      → IsPinOn rec phys cell pin net → get pins (cell, pin) ≡ Some net

-- Tables.

-- what is told of a cell: that it is plain, that a LUT has no function, or its truth table
abbrev pub TellsTable : List Text → DeviceRec → Phys → (cell : ℕ) → LutTable → Type 0
TellsTable names rec phys cell Plain = (placement : CellPlacement)
    → slice_get phys.placements cell ≡ Some placement → lut_cell_of rec placement.ty ≡ None
TellsTable names rec phys cell Lacking = LacksFunction names rec phys
TellsTable names rec phys cell (Has table) = IsTableOf names rec phys cell table

-- the truth tables of the first so many cells, of which each LUT has one
pub record AreTables (names : List Text) (rec : DeviceRec) (phys : Phys) (count : ℕ)
    (tables : FinMap nat_cmp TruthTable) : Type 0 where
  pub each : (cell : ℕ) (table : TruthTable)
      → (get tables cell ≡ Some table) ↔ ((cell < count) × IsTableOf names rec phys cell table)
  pub all : (cell : ℕ) (placement : CellPlacement) (lut : LutCell) → cell < count
      → slice_get phys.placements cell ≡ Some placement
      → lut_cell_of rec placement.ty ≡ Some lut
      → (table : TruthTable) × IsTableOf names rec phys cell table

-- the tables of all cells, or none where a LUT has no function
abbrev pub TellsTables : List Text → DeviceRec → Phys → Option (FinMap nat_cmp TruthTable) → Type 0
TellsTables names rec phys None = LacksFunction names rec phys
TellsTables names rec phys (Some tables) =
    AreTables names rec phys (length phys.placements) tables

-- Ports.

-- the name of this text, if there is one
abbrev pub IsNameOf : List Text → Text → Option NameNumber → Type 0
IsNameOf names text told = (name : NameNumber)
    → (told ≡ Some name) ↔ (slice_get names name ≡ Some text)

-- these are the types of port cells
pub record ArePortTypes (names : List Text) (types : PortTypes) : Type 0 where
  pub input : IsNameOf names (codes "$PORT_IN") types.input
  pub output : IsNameOf names (codes "$PORT_OUT") types.output

-- the sites of those of the first so many cells that are ports
abbrev pub AreFixed : List Text → DeviceRec → Phys → (count : ℕ) → FinMap nat_cmp SiteNumber
    → Type 0
AreFixed names rec phys count fixed = (cell : ℕ) (site : SiteNumber)
    → (get fixed cell ≡ Some site) ↔ ((cell < count) × IsPortOn names rec phys cell site)
