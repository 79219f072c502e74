-- What L1 asks of instances and placements, by their places in their lists.
use Rattle.std.specs.Prelude.{◌≡◌, ◌<◌, ℕ, List, length, slice_get, nat_eq, Some, IsSome}
use Rattle.std.specs.List.{list_any}
use Rattle.ix_num.specs.Numbers.{NameNumber}
use Rattle.ix_rec.specs.declared.device.DeviceRec.{DeviceRec}
use Rattle.ix_rec.specs.declared.device.CellBelMapping.{CellBelMapping}
use Rattle.ix_rec.specs.declared.phys.CellPlacement.{CellPlacement}
use Rattle.ix_rec.specs.declared.phys.PhysNet.{PhysNet}
use Rattle.ix_rec.specs.declared.phys.PinMapping.{PinMapping}
use Rattle.ix_rec.specs.declared.phys.Property.{Property}
use Rattle.ix_rec.specs.declared.phys.SiteInstance.{SiteInstance}
use Rattle.ix_rec.specs.declared.phys.Phys.{Phys}
use Rattle.ix_legal.specs.declared.spot.Spot.{Spot}
use Rattle.ix_legal.specs.Names.{InstanceIsNamed, PlacementIsNamed, NetIsNamed, SegmentHasEnds}
use Rattle.ix_legal.specs.Spots.{OfNets}
use Rattle.ix_legal.specs.Sites.{bel_pin_at}
use Rattle.ix_walk.specs.Firsts.{AllFit}
use Rattle.ix_walk.specs.Marks.{Marks, has_mark}

abbrev pub site_of : SiteInstance → NameNumber
site_of instance = instance.site

abbrev pub type_of_cell : CellPlacement → NameNumber
type_of_cell placement = placement.ty

abbrev pub name_of : PhysNet → NameNumber
name_of net = net.name

abbrev pub key_of : Property → NameNumber
key_of property = property.key

abbrev pub value_of : Property → NameNumber
value_of property = property.value

-- names of items are among so many
abbrev pub AreInside : {A : Type 0} → (name_of : A → NameNumber) → List A → (count : ℕ) → Type 0
AreInside {A} name_of xs count = (i : ℕ) (x : A) → slice_get xs i ≡ Some x → name_of x < count

abbrev pub InstanceNamedAt : DeviceRec → ℕ → SiteInstance → Type 0
InstanceNamedAt rec i instance = InstanceIsNamed rec instance

abbrev pub PlacementNamedAt : DeviceRec → ℕ → CellPlacement → Type 0
PlacementNamedAt rec i placement = PlacementIsNamed rec placement

-- an entry of a pin map, on a cell in this site
abbrev pub PinIsNamed : DeviceRec → (site : NameNumber) → PinMapping → Type 0
PinIsNamed rec site entry = IsSome (bel_pin_at rec site entry.bel entry.bel_pin)

-- of so many names those of listed cell types are marked
pub record AreCellTypes (listed : List CellBelMapping) (count : ℕ) (types : Marks) : Type 0 where
  pub marked : (name : NameNumber) → name < count
      → has_mark types name ≡ list_any (λ m. nat_eq m.cell name) listed
  pub many : length types ≡ count

abbrev pub AllInstancesNamed : DeviceRec → Phys → Type 0
AllInstancesNamed rec phys =
    AllFit (InstanceNamedAt rec) phys.site_insts (length phys.site_insts)

abbrev pub AllPlacementsNamed : DeviceRec → Phys → Type 0
AllPlacementsNamed rec phys =
    AllFit (PlacementNamedAt rec) phys.placements (length phys.placements)

-- of nets and of their segments, and of nothing else
abbrev pub AreNetsNamed : DeviceRec → Phys → Spot → Type 0
AreNetsNamed rec phys spot =
    OfNets phys (NetIsNamed phys) (λ n net k. SegmentHasEnds rec net k) spot
