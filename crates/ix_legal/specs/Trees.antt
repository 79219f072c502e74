-- L4: segments are joined. L5: trees begin at proper roots. L6: they don't meet.
use Rattle.std.specs.Prelude.{◌≡◌, ◌≢◌, ◌⊎◌, ◌<◌, ◌≤◌, Contains, false, Some, None}
use Rattle.ix_num.specs.Numbers.{NameNumber, NodeNumber}
use Rattle.ix_num.specs.declared.resource.Constant.{Constant}
use Rattle.ix_num.specs.declared.resource.Constant.TheVariants as constants
use Rattle.ix_num.specs.declared.resource.Res.{Res}
use Rattle.ix_num.specs.declared.resource.Res.TheVariants.{Node}
use Rattle.ix_rec.specs.declared.device.DeviceRec.{DeviceRec}
use Rattle.ix_rec.specs.declared.device.Direction.TheVariants.{Output}
use Rattle.ix_rec.specs.declared.phys.Phys.{Phys}
use Rattle.ix_rec.specs.declared.phys.CellPlacement.{CellPlacement}
use Rattle.ix_rec.specs.declared.phys.PinMapping.{PinMapping}
use Rattle.ix_rec.specs.declared.phys.PhysNet.{PhysNet}
use Rattle.ix_rec.specs.declared.phys.NetType.{NetType}
use Rattle.ix_rec.specs.declared.phys.NetType.TheVariants.{Signal, Gnd, Vcc}
use Rattle.ix_rec.specs.declared.phys.Segment.{Segment}
use Rattle.ix_rec.specs.declared.phys.BranchKind.TheVariants.{BelPin}
use Rattle.ix_graph.specs.Constants.{constant_of_node}
use Rattle.ix_legal.specs.Sites.{direction_at, source_at, element_at}
use Rattle.ix_legal.specs.Segments.{SegmentNumber, segment_at, IsSourceRoot, IsStubRoot, IsParent}
use Rattle.ix_legal.specs.Segments.{in_end_of, in_end, out_end, Enters}
use Rattle.ix_legal.specs.Holders.{constant_of_net, constant_of}
use Rattle.ix_legal.specs.Placements.{has_cell}
use Rattle.ix_legal.specs.Spots.{Spot, OfNets, OfSegments}

-- L4, of a segment: its in-end is its parent's out-end.
abbrev pub LeavesParent : DeviceRec → PhysNet → SegmentNumber → Type 0
LeavesParent rec net k = (parent : SegmentNumber) → IsParent net parent k
    → in_end rec net k ≡ out_end rec net parent

abbrev pub IsJoined : DeviceRec → Phys → Spot → Type 0
IsJoined rec phys spot = OfSegments phys (λ n net k. LeavesParent rec net k) spot

-- L5, of a source root of a signal net: it is the net's first, and a BEL pin of direction output
-- that a placed cell's pin map names.

pub record IsMapped (phys : Phys) (site bel pin : NameNumber) : Type 0 where
  pub placement : CellPlacement
  pub placed : Contains phys.placements placement
  pub site_is : placement.site ≡ site
  pub entry : PinMapping
  pub maps : Contains placement.pin_map entry
  pub bel_is : entry.bel ≡ bel
  pub pin_is : entry.bel_pin ≡ pin

pub record IsDriver (rec : DeviceRec) (phys : Phys) (k : SegmentNumber) (s : Segment) : Type 0 where
  pub only : k ≡ 0
  pub is_bel_pin : s.kind ≡ BelPin
  pub output : direction_at rec s.first s.second s.third ≡ Some Output
  pub mapped : IsMapped phys s.first s.second s.third

-- Of a source root of a constant net: it is a site source of that constant, on a BEL that has no
-- cell and is in no LUT element; or its in-end is a node of that constant, as that of a PIP or an
-- input site pin alone can be.

pub record IsSiteSource (rec : DeviceRec) (phys : Phys) (c : Constant) (s : Segment) : Type 0 where
  pub is_bel_pin : s.kind ≡ BelPin
  pub source : source_at rec s.first s.second s.third ≡ Some c
  pub no_cell : has_cell phys.placements s.first s.second ≡ false
  pub no_element : element_at rec s.first s.second ≡ None

abbrev pub IsFromConstant : DeviceRec → Constant → Segment → Type 0
IsFromConstant rec c s = (n : NodeNumber) × (in_end_of rec s ≡ Some (Node n))
    × (constant_of_node rec n ≡ Some c)

abbrev pub IsSource : NetType → DeviceRec → Phys → SegmentNumber → Segment → Type 0
IsSource Signal rec phys k s = IsDriver rec phys k s
IsSource Gnd rec phys k s =
    IsSiteSource rec phys constants.Gnd s ⊎ IsFromConstant rec constants.Gnd s
IsSource Vcc rec phys k s =
    IsSiteSource rec phys constants.Vcc s ⊎ IsFromConstant rec constants.Vcc s

-- of a stub's root: its in-end is a node
abbrev pub IsFromNode : DeviceRec → Segment → Type 0
IsFromNode rec s = (n : NodeNumber) × (in_end_of rec s ≡ Some (Node n))

pub record RootFits (rec : DeviceRec) (phys : Phys) (net : PhysNet) (k : SegmentNumber) : Type 0
  where
    pub source : (s : Segment) → segment_at net k ≡ Some s → IsSourceRoot net k
        → IsSource net.ty rec phys k s
    pub stub : (s : Segment) → segment_at net k ≡ Some s → IsStubRoot net k → IsFromNode rec s

-- Of a net: a signal net has a source root. Of trees in preorder the first segment is a root.
abbrev pub HasSource : NetType → PhysNet → Type 0
HasSource Signal net = IsSourceRoot net 0
HasSource constant net = Unit {0}

abbrev pub IsRooted : DeviceRec → Phys → Spot → Type 0
IsRooted rec phys spot =
    OfNets phys (λ n net. HasSource net.ty net) (λ n net k. RootFits rec phys net k) spot

-- L6, of a segment: what it enters no segment before it enters; it isn't the in-end of a source
-- root up to it; and in the net of a constant it is no node of that constant. The in-end of a
-- source root is entered by no segment before it.
pub record EntersAlone (rec : DeviceRec) (net : PhysNet) (k : SegmentNumber) : Type 0 where
  pub once : (r : Res) (earlier : SegmentNumber) → Enters rec net k r → earlier < k
      → ¬ Enters rec net earlier r
  pub no_root : (r : Res) (root : SegmentNumber) → Enters rec net k r → root ≤ k
      → IsSourceRoot net root → in_end rec net root ≢ Some r
  pub as_root : (r : Res) (earlier : SegmentNumber) → IsSourceRoot net k
      → in_end rec net k ≡ Some r → earlier < k → ¬ Enters rec net earlier r
  pub no_constant : (r : Res) (c : Constant) → Enters rec net k r
      → constant_of_net net.ty ≡ Some c → constant_of rec r ≢ Some c

abbrev pub IsApart : DeviceRec → Phys → Spot → Type 0
IsApart rec phys spot = OfSegments phys (λ n net k. EntersAlone rec net k) spot
