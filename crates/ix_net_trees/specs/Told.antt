-- What is told of the segments of one net.
use Rattle.std.specs.Prelude.{◌≡◌, ◌<◌, ℕ, List, length, slice_index, Option, Some, None}
use Rattle.ix_rec.specs.declared.device.DeviceRec.{DeviceRec}
use Rattle.ix_rec.specs.declared.phys.PhysNet.{PhysNet}
use Rattle.ix_rec.specs.declared.phys.Segment.{Segment}
use Rattle.ix_legal.specs.Segments.{SegmentNumber, segment_at}
use Rattle.ix_ends.specs.declared.pair.Pair.{Pair}
use Rattle.ix_ends.specs.Ends.{EndsSeen, HasNumbers}

-- a number stands at this place of a list
abbrev pub IsAt : List ℕ → (place number : ℕ) → Type 0
IsAt numbers place number = (place < length numbers) × (slice_index numbers place ≡ number)

-- these are the numbers of the ends of a net's segment
abbrev pub AreNumbers : DeviceRec → EndsSeen → PhysNet → SegmentNumber → Pair → Type 0
AreNumbers rec seen net k pair = (s : Segment) → segment_at net k ≡ Some s
    → HasNumbers rec seen s pair

-- none where each segment keeps what is asked, else the first that doesn't
abbrev pub TellsOfNet : (SegmentNumber → Type 0) → Option SegmentNumber → Type 0
TellsOfNet Asked None = (k : SegmentNumber) → Asked k
TellsOfNet Asked (Some k) = ((j : SegmentNumber) → j < k → Asked j) × (¬ Asked k)
