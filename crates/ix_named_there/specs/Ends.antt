-- Which segments have ends.
use Rattle.std.specs.Prelude.{Option, Some, None}
use Rattle.ix_rec.specs.declared.device.DeviceRec.{DeviceRec}
use Rattle.ix_rec.specs.declared.phys.Phys.{Phys}
use Rattle.ix_legal.specs.declared.spot.Spot.{Spot}
use Rattle.ix_legal.specs.declared.spot.Spot.TheVariants.{SegmentAt}
use Rattle.ix_legal.specs.Segments.{NetNumber, SegmentNumber}
use Rattle.ix_legal.specs.Spots.{Everywhere, IsFirstBreak, OfSegments}
use Rattle.ix_legal.specs.Names.{SegmentHasEnds}

abbrev pub HaveEnds : DeviceRec → Phys → Spot → Type 0
HaveEnds rec phys spot = OfSegments phys (λ n net k. SegmentHasEnds rec net k) spot

-- none where each segment has ends, else the first that hasn't: a net and a segment of it
abbrev pub TellsEnds : DeviceRec → Phys → Option (NetNumber × SegmentNumber) → Type 0
TellsEnds rec phys None = Everywhere (HaveEnds rec phys)
TellsEnds rec phys (Some at) = IsFirstBreak (HaveEnds rec phys) (SegmentAt at.0 at.1)
