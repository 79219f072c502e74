-- L7: no resource has two holders. L8: wires of sites in use alone. L10: no stubs.
use Rattle.std.specs.Prelude.{◌≡◌, ◌<◌, length, slice_get, true, Some, IfSome}
use Rattle.ix_num.specs.declared.resource.Constant.{Constant}
use Rattle.ix_num.specs.declared.resource.Res.{Res}
use Rattle.ix_num.specs.declared.resource.Res.TheVariants.{Node}
use Rattle.ix_rec.specs.declared.device.DeviceRec.{DeviceRec}
use Rattle.ix_rec.specs.declared.phys.Phys.{Phys}
use Rattle.ix_rec.specs.declared.phys.PhysNet.{PhysNet}
use Rattle.ix_rec.specs.declared.phys.Segment.{Segment}
use Rattle.ix_rec.specs.declared.phys.BranchKind.{BranchKind}
use Rattle.ix_rec.specs.declared.phys.BranchKind.TheVariants.{Pip}
use Rattle.ix_legal.specs.declared.level.Level.{Level}
use Rattle.ix_legal.specs.declared.level.Level.TheVariants.{Placed, Routed}
use Rattle.ix_legal.specs.Segments.{NetNumber, SegmentNumber, segment_at, IsEnd}
use Rattle.ix_legal.specs.Holders.{HasEnd, constant_of, constant_of_net, IsEndOfPip}
use Rattle.ix_legal.specs.Placements.{has_instance}
use Rattle.ix_legal.specs.Spots.{Spot, OfSegments}

-- Which resources L7 is asked of: before routing only those nodes at which a PIP ends that some net
-- uses.
abbrev pub Counts : Level → DeviceRec → Phys → Res → Type 0
Counts Placed rec phys (Node n) = IsEndOfPip rec phys (Node n)
Counts level rec phys r = Unit {0}

-- L7, of a segment: no net before its own has one of its ends that counts, and where that is a
-- node of a constant, its net is of that constant.
pub record SharesNothing (level : Level) (rec : DeviceRec) (phys : Phys) (n : NetNumber)
    (net : PhysNet) (k : SegmentNumber) : Type 0 where
  pub of_one_net : (r : Res) (earlier : NetNumber) (other : PhysNet) → IsEnd rec net k r
      → Counts level rec phys r → earlier < n → slice_get phys.nets earlier ≡ Some other
      → ¬ HasEnd rec other r
  pub own_constant : (r : Res) (c : Constant) → IsEnd rec net k r → Counts level rec phys r
      → constant_of rec r ≡ Some c → constant_of_net net.ty ≡ Some c

abbrev pub IsUnshared : Level → DeviceRec → Phys → Spot → Type 0
IsUnshared level rec phys spot = OfSegments phys (SharesNothing level rec phys) spot

-- L8, of a segment: it is a PIP, or its site has an instance.
abbrev pub SiteInUse : BranchKind → Phys → Segment → Type 0
SiteInUse Pip phys s = Unit {0}
SiteInUse kind phys s = has_instance phys s.first ≡ true

abbrev pub IsInUse : Phys → Spot → Type 0
IsInUse phys spot = OfSegments phys (λ n net k. IfSome (segment_at net k) (λ s.
    SiteInUse s.kind phys s)) spot

-- L10, of a segment: it is in a tree of a source. It is asked of routed netlists.
abbrev pub InSourceTree : PhysNet → SegmentNumber → Type 0
InSourceTree net k = IfSome (segment_at net k) (λ s. k < length net.sources)

abbrev pub IsRouted : Level → Phys → Spot → Type 0
IsRouted Routed phys spot = OfSegments phys (λ n net k. InSourceTree net k) spot
IsRouted Placed phys spot = Unit {0}
