-- Legal netlists, and what is told of one that isn't legal.
use Rattle.std.specs.Prelude.{◌≡◌, ◌<◌, ◌≤◌, ℕ, ◌+◌, ◌^◌, List, length, slice_get, Option, Some, None}
use Rattle.std.specs.List.{AllByRecursion}
use Rattle.ix_message.specs.Shape.{Text}
use Rattle.ix_strings.specs.Names.{AllDiffer}
use Rattle.ix_phys_write.specs.Record.{IsPhysNamed}
use Rattle.ix_rec.specs.declared.device.DeviceRec.{DeviceRec}
use Rattle.ix_rec.specs.declared.phys.Phys.{Phys}
use Rattle.ix_rec.specs.declared.phys.CellPlacement.{CellPlacement}
use Rattle.ix_rec.specs.declared.phys.PhysNet.{PhysNet}
use Rattle.ix_rec.specs.declared.phys.Property.{Property}
use Rattle.ix_rec.specs.declared.phys.SiteInstance.{SiteInstance}
use Rattle.ix_rec.specs.declared.place.Place.{Place}
use Rattle.ix_rec.specs.declared.place.Place.TheVariants as places
use Rattle.ix_rec.specs.declared.place.Rule.{Rule}
use Rattle.ix_rec.specs.declared.place.Rule.TheVariants.{L1, L2, L3, L4, L5, L6, L7, L8, L9, L10}
use Rattle.ix_legal.specs.declared.level.Level.{Level}
use Rattle.ix_legal.specs.Segments.{HasPreorder}
use Rattle.ix_legal.specs.Spots.{Spot, InstanceAt, PlacementAt, NetAt, SegmentAt, PropertyAt}
use Rattle.ix_legal.specs.Spots.{ElementAt, IsFirstBreak, Everywhere}
use Rattle.ix_legal.specs.Names.{IsNamed}
use Rattle.ix_legal.specs.Placements.{IsPlaced, MapsPins}
use Rattle.ix_legal.specs.Trees.{IsJoined, IsRooted, IsApart}
use Rattle.ix_legal.specs.Sharing.{IsUnshared, IsInUse, IsRouted}
use Rattle.ix_legal.specs.LutTables.{IsTabled}

-- What each rule asks at a place. Rules of other letters ask nothing here.
abbrev pub Asks : Level → List Text → DeviceRec → Phys → Rule → Spot → Type 0
Asks level names rec phys L1 spot = IsNamed names rec phys spot
Asks level names rec phys L2 spot = IsPlaced rec phys spot
Asks level names rec phys L3 spot = MapsPins rec phys spot
Asks level names rec phys L4 spot = IsJoined rec phys spot
Asks level names rec phys L5 spot = IsRooted rec phys spot
Asks level names rec phys L6 spot = IsApart rec phys spot
Asks level names rec phys L7 spot = IsUnshared level rec phys spot
Asks level names rec phys L8 spot = IsInUse phys spot
Asks level names rec phys L9 spot = IsTabled names rec phys spot
Asks level names rec phys L10 spot = IsRouted level phys spot
Asks level names rec phys rule spot = Unit {0}

-- Lists of a netlist have no more entries than those that were read from a file can have.

abbrev pub most_entries : ℕ
most_entries = 2 ^ 28 + 64

abbrev pub IsShort : {A : Type 0} → List A → Type 0
IsShort xs = length xs ≤ most_entries

pub record IsSmall (phys : Phys) : Type 0 where
  pub placements : IsShort phys.placements
  pub nets : IsShort phys.nets
  pub site_insts : IsShort phys.site_insts
  pub properties : IsShort phys.properties
  pub segments : AllByRecursion (λ net. IsShort net.sources × IsShort net.stubs) phys.nets

-- What rules are asked of: a netlist whose trees are in preorder and whose names are all of the
-- table, which has none twice.
pub record IsSound (names : List Text) (phys : Phys) : Type 0 where
  pub small : IsSmall phys
  pub differ : AllDiffer names
  pub named : IsPhysNamed names phys
  pub preorder : HasPreorder phys

-- A netlist is legal at a level where it keeps all rules of the level.
pub record Legal (level : Level) (names : List Text) (rec : DeviceRec) (phys : Phys) : Type 0 where
  pub sound : IsSound names phys
  -- what is named is there, and each segment has ends
  pub l1 : Everywhere (IsNamed names rec phys)
  -- cells, BELs and sites are used once, BELs by cells that they admit, sites as their own type
  pub l2 : Everywhere (IsPlaced rec phys)
  -- pin maps fit the device
  pub l3 : Everywhere (MapsPins rec phys)
  -- a segment begins where its parent ends
  pub l4 : Everywhere (IsJoined rec phys)
  -- the trees of a net begin at its driver, or at sources of its constant; stubs begin at nodes
  pub l5 : Everywhere (IsRooted rec phys)
  -- no resource is entered twice in a net, or where a tree of it begins
  pub l6 : Everywhere (IsApart rec phys)
  -- no resource has two holders
  pub l7 : Everywhere (IsUnshared level rec phys)
  -- sites that nets go through have instances
  pub l8 : Everywhere (IsInUse phys)
  -- elements with LUTs have tables that give them functions
  pub l9 : Everywhere (IsTabled names rec phys)
  -- there are no stubs in a routed netlist
  pub l10 : Everywhere (IsRouted level phys)

-- What is told: the first rule that isn't kept, and the first place at which it isn't.

abbrev pub order : Rule → ℕ
order L1 = 1
order L2 = 2
order L3 = 3
order L4 = 4
order L5 = 5
order L6 = 6
order L7 = 7
order L8 = 8
order L9 = 9
order L10 = 10
order rule = 0

-- A place as it is printed: a net as its segment 0.
abbrev pub IsPlaceOf : List Text → Phys → Spot → Place → Type 0
IsPlaceOf names phys (InstanceAt i) place = (instance : SiteInstance) × (name : Text)
    × (slice_get phys.site_insts i ≡ Some instance) × (slice_get names instance.site ≡ Some name)
    × (place ≡ places.Site name)
IsPlaceOf names phys (PlacementAt i) place = (placement : CellPlacement) × (name : Text)
    × (slice_get phys.placements i ≡ Some placement)
    × (slice_get names placement.cell_name ≡ Some name) × (place ≡ places.Cell name)
IsPlaceOf names phys (NetAt n) place = (net : PhysNet) × (name : Text)
    × (slice_get phys.nets n ≡ Some net) × (slice_get names net.name ≡ Some name)
    × (place ≡ places.Segment name 0)
IsPlaceOf names phys (SegmentAt n k) place = (net : PhysNet) × (name : Text)
    × (slice_get phys.nets n ≡ Some net) × (slice_get names net.name ≡ Some name)
    × (place ≡ places.Segment name k)
IsPlaceOf names phys (PropertyAt i) place = (property : Property) × (key : Text)
    × (slice_get phys.properties i ≡ Some property) × (slice_get names property.key ≡ Some key)
    × (place ≡ places.Key key)
IsPlaceOf names phys (ElementAt i element) place = (instance : SiteInstance) × (name : Text)
    × (slice_get phys.site_insts i ≡ Some instance) × (slice_get names instance.site ≡ Some name)
    × (place ≡ places.Element name element)

pub record IsFirstBroken (level : Level) (names : List Text) (rec : DeviceRec) (phys : Phys)
    (rule : Rule) (place : Place) : Type 0 where
  pub sound : IsSound names phys
  pub earlier : (other : Rule) → order other < order rule
      → Everywhere (Asks level names rec phys other)
  pub spot : Spot
  pub first : IsFirstBreak (Asks level names rec phys rule) spot
  pub told : IsPlaceOf names phys spot place

-- the answer of a checker: none exactly of a legal netlist
abbrev pub IsAnswer : Level → List Text → DeviceRec → Phys → Option (Rule × Place) → Type 0
IsAnswer level names rec phys None = Legal level names rec phys
IsAnswer level names rec phys (Some answer) =
    IsFirstBroken level names rec phys answer.0 answer.1
