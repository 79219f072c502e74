-- L1: what is named is there.
use Rattle.std.specs.Prelude.{◌≡◌, ◌<◌, ℕ, List, map, take, length, slice_get, Contains, true}
use Rattle.std.specs.Prelude.{nat_eq, Some, IsSome, IfSome, option_and_then}
use Rattle.std.specs.List.{AllByRecursion, list_any}
use Rattle.ix_message.specs.Shape.{Text}
use Rattle.ix_num.specs.Numbers.{NameNumber}
use Rattle.ix_rec.specs.declared.device.DeviceRec.{DeviceRec}
use Rattle.ix_rec.specs.declared.device.LutElement.{LutElement}
use Rattle.ix_rec.specs.declared.phys.Phys.{Phys}
use Rattle.ix_rec.specs.declared.phys.CellPlacement.{CellPlacement}
use Rattle.ix_rec.specs.declared.phys.PhysNet.{PhysNet}
use Rattle.ix_rec.specs.declared.phys.NetType.{NetType}
use Rattle.ix_rec.specs.declared.phys.NetType.TheVariants.{Signal, Gnd, Vcc}
use Rattle.ix_rec.specs.declared.phys.Property.{Property}
use Rattle.ix_rec.specs.declared.phys.SiteInstance.{SiteInstance}
use Rattle.ix_device_rules.specs.Rules.{is_new}
use Rattle.ix_device.specs.Lookups.{site_named, site_type_number}
use Rattle.ix_graph.specs.Ends.{ends}
use Rattle.ix_legal.specs.Sites.{ElementNumber, bel_at, bel_pin_at, elements_at}
use Rattle.ix_legal.specs.Segments.{segment_at}
use Rattle.ix_legal.specs.Holders.{nets_of_type}
use Rattle.ix_legal.specs.TableKeys.{IsTableKey, table_key, table_bits}
use Rattle.ix_legal.specs.Spots.{Spot, AskedOf}
use Rattle.ix_legal.specs.Spots.{InstanceAt, PlacementAt, NetAt, SegmentAt, PropertyAt}

-- of a site instance: the site and the site type
pub record InstanceIsNamed (rec : DeviceRec) (instance : SiteInstance) : Type 0 where
  pub site : IsSome (site_named rec instance.site)
  pub site_type : IsSome (site_type_number rec instance.ty)

-- Of a placement: the cell type, which the device's cell-to-BEL map has to list, the site, the BEL,
-- and the BELs and pins of its pin map.
pub record PlacementIsNamed (rec : DeviceRec) (placement : CellPlacement) : Type 0 where
  pub cell_type : list_any (λ m. nat_eq m.cell placement.ty) rec.cell_bel_map ≡ true
  pub site : IsSome (site_named rec placement.site)
  pub bel : IsSome (bel_at rec placement.site placement.bel)
  pub pins : AllByRecursion (λ e. IsSome (bel_pin_at rec placement.site e.bel e.bel_pin))
      placement.pin_map

-- Of a net: a signal net has a name that no signal net before it has, and no net before one of a
-- constant is of that constant.
-- of these nets before it, which are of its type
abbrev pub NetIsAlone : NetType → (name : NameNumber) → List PhysNet → Type 0
NetIsAlone Signal name before = is_new (map (λ net. net.name) before) name ≡ true
NetIsAlone constant name before = length before ≡ 0

abbrev pub NetIsNamed : Phys → ℕ → PhysNet → Type 0
NetIsNamed phys n net = NetIsAlone net.ty net.name (nets_of_type net.ty (take n phys.nets))

-- Of a segment: it has ends. It has none where a name of it leads nowhere.
abbrev pub SegmentHasEnds : DeviceRec → PhysNet → ℕ → Type 0
SegmentHasEnds rec net k = IfSome (segment_at net k) (λ s. IsSome (ends rec s))

-- Of a table: its key, which no property before it has, names the site of an instance and an
-- element of that site's own type, and its value tells bits.
pub record TableIsNamed (names : List Text) (rec : DeviceRec) (phys : Phys) (i : ℕ)
    (property : Property) : Type 0 where
  pub instance : SiteInstance
  pub stands : Contains phys.site_insts instance
  pub site_text : Text
  pub site_is : slice_get names instance.site ≡ Some site_text
  pub element : ElementNumber
  pub key_is : slice_get names property.key ≡ Some (table_key site_text element)
  pub elements : List LutElement
  pub of_site : elements_at rec instance.site ≡ Some elements
  pub in_site : element < length elements
  pub once : is_new (map (λ p. p.key) (take i phys.properties)) property.key ≡ true
  pub digits : IsSome (option_and_then table_bits (slice_get names property.value))

abbrev pub KeyIsNamed : List Text → DeviceRec → Phys → ℕ → Property → Type 0
KeyIsNamed names rec phys i property = (key : Text) → slice_get names property.key ≡ Some key
    → IsTableKey key → TableIsNamed names rec phys i property

abbrev pub IsNamed : List Text → DeviceRec → Phys → Spot → Type 0
IsNamed names rec phys (InstanceAt i) = AskedOf phys.site_insts i (InstanceIsNamed rec)
IsNamed names rec phys (PlacementAt i) = AskedOf phys.placements i (PlacementIsNamed rec)
IsNamed names rec phys (NetAt n) = AskedOf phys.nets n (NetIsNamed phys n)
IsNamed names rec phys (SegmentAt n k) = AskedOf phys.nets n (λ net. SegmentHasEnds rec net k)
IsNamed names rec phys (PropertyAt i) = AskedOf phys.properties i (KeyIsNamed names rec phys i)
IsNamed names rec phys spot = Unit {0}
