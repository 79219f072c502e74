-- Marks by number, net by net and segment by segment.
use Rattle.std.specs.Prelude.{◌≡◌, ◌⊎◌, ◌↔◌, ◌<◌, ◌≤◌, ℕ, suc, List, length, slice_get, Bool, true}
use Rattle.std.specs.Prelude.{Some, None, Option, set}
use Rattle.ix_num.specs.declared.resource.Constant.{Constant}
use Rattle.ix_num.specs.declared.resource.Res.{Res}
use Rattle.ix_num.specs.declared.resource.Res.TheVariants.{Node, Wire}
use Rattle.ix_rec.specs.declared.device.DeviceRec.{DeviceRec}
use Rattle.ix_rec.specs.declared.phys.Phys.{Phys}
use Rattle.ix_rec.specs.declared.phys.PhysNet.{PhysNet}
use Rattle.ix_rec.specs.declared.phys.NetType.{NetType}
use Rattle.ix_rec.specs.declared.phys.Segment.{Segment}
use Rattle.ix_rec.specs.declared.phys.BranchKind.TheVariants.{Pip}
use Rattle.ix_graph.specs.Graph.{Graph}
use Rattle.ix_graph.specs.Constants.{constant_of_node}
use Rattle.ix_legal.specs.declared.level.Level.{Level}
use Rattle.ix_legal.specs.Segments.{NetNumber, SegmentNumber, segment_at, IsEnd}
use Rattle.ix_legal.specs.Holders.{constant_of, constant_of_net}
use Rattle.ix_legal.specs.declared.spot.Spot.TheVariants.{SegmentAt}
use Rattle.ix_legal.specs.Spots.{Everywhere, IsFirstBreak}
use Rattle.ix_legal.specs.Sharing.{Counts, SharesNothing, IsUnshared}
use Rattle.ix_legal.specs.Breaks.{AreKept}
use Rattle.ix_ends.specs.declared.pair.Pair.{Pair}
use Rattle.ix_ends.specs.Ends.{EndsSeen, ResNumber, IsNumbered, HasNumbers}

-- what nets have as ends, by net
abbrev pub Having : Type 1
Having = NetNumber → Res → Type 0

-- a net has it as an end of one of its first segments, of all of them in the nets before this one
pub record HasSoFar (rec : DeviceRec) (nets : List PhysNet) (count : NetNumber)
    (segments : SegmentNumber) (n : NetNumber) (r : Res) : Type 0 where
  pub net : PhysNet
  pub net_is : slice_get nets n ≡ Some net
  pub place : SegmentNumber
  pub is_end : IsEnd rec net place r
  pub so_far : (n < count) ⊎ ((n ≡ count) × (place < segments))

-- and one more
abbrev pub WithEnd : Having → NetNumber → Res → Having
WithEnd has n r m other = has m other ⊎ ((m ≡ n) × (other ≡ r))

-- of nets up to this one alone
abbrev pub IsUpTo : NetNumber → Having → Type 0
IsUpTo n has = (m : NetNumber) (r : Res) → has m r → m ≤ n

-- the first net that has it
pub record IsFirstOf (has : Having) (r : Res) (n : NetNumber) : Type 0 where
  pub has_it : has n r
  pub none_before : (earlier : NetNumber) → earlier < n → ¬ has earlier r

-- The marks of resources by number: 0 where no net has it, else the first that does, and 1.
pub record AreMarks (rec : DeviceRec) (seen : EndsSeen) (has : Having) (marks : List ℕ) : Type 0
  where
    pub all : length marks ≡ seen.count
    pub unmarked : (r : Res) (number : ResNumber) → IsNumbered rec seen r number
        → slice_get marks number ≡ Some 0 → (n : NetNumber) → ¬ has n r
    pub marked : (r : Res) (number : ResNumber) (n : NetNumber) → IsNumbered rec seen r number
        → slice_get marks number ≡ Some (suc n) → IsFirstOf has r n

-- A mark was put where there was none: this is the first net that has the resource since.
pub record IsMarked (old new : List ℕ) (number : ResNumber) (n first : NetNumber) : Type 0 where
  pub at : slice_get new number ≡ Some (suc first)
  pub how : ((slice_get old number ≡ Some 0) × (first ≡ n) × (new ≡ set old number (suc n)))
      ⊎ ((slice_get old number ≡ Some (suc first)) × (new ≡ old))

-- the resources of which it is asked whether they are shared, by number
pub record AreCounted (level : Level) (rec : DeviceRec) (phys : Phys) (seen : EndsSeen)
    (counted : List Bool) : Type 0 where
  pub all : length counted ≡ seen.count
  pub each : (r : Res) (number : ResNumber) → IsNumbered rec seen r number
      → (slice_get counted number ≡ Some true) ↔ Counts level rec phys r

-- a net isn't of a constant other than the resource's
abbrev pub IsOwnConstant : DeviceRec → NetType → Res → Type 0
IsOwnConstant rec ty r = (c : Constant) → constant_of rec r ≡ Some c → constant_of_net ty ≡ Some c

-- no net before this one has it, and its constant is the net's
pub record SharesNot (rec : DeviceRec) (has : Having) (n : NetNumber) (ty : NetType) (r : Res)
    : Type 0 where
  pub none_before : (earlier : NetNumber) → earlier < n → ¬ has earlier r
  pub own_constant : IsOwnConstant rec ty r

-- of an end: what is asked of it where it counts
abbrev pub EndFits : Level → DeviceRec → Phys → Having → NetNumber → NetType → Res → Type 0
EndFits level rec phys has n ty r = Counts level rec phys r → SharesNot rec has n ty r

-- a wire, or an end of a PIP of the nets so far
pub record IsPipSoFar (rec : DeviceRec) (nets : List PhysNet) (count : NetNumber)
    (segments : SegmentNumber) (r : Res) : Type 0 where
  pub n : NetNumber
  pub net : PhysNet
  pub net_is : slice_get nets n ≡ Some net
  pub place : SegmentNumber
  pub segment : Segment
  pub segment_is : segment_at net place ≡ Some segment
  pub is_pip : segment.kind ≡ Pip
  pub is_end : IsEnd rec net place r
  pub so_far : (n < count) ⊎ ((n ≡ count) × (place < segments))

abbrev pub IsWire : Res → Type 0
IsWire (Node n) = ⊥
IsWire (Wire site wire) = Unit {0}

-- the marks of wires and of ends of PIPs
pub record AreOfPips (rec : DeviceRec) (seen : EndsSeen) (Met : Res → Type 0) (counted : List Bool)
    : Type 0 where
  pub all : length counted ≡ seen.count
  pub each : (r : Res) (number : ResNumber) → IsNumbered rec seen r number
      → (slice_get counted number ≡ Some true) ↔ (IsWire r ⊎ Met r)

-- What net `n` may have, segment by segment: none of its first so many shares an end.
abbrev pub NetShares : Level → DeviceRec → Phys → NetNumber → PhysNet → (count : SegmentNumber)
    → Type 0
NetShares level rec phys n net count = (k : SegmentNumber) → k < count
    → SharesNothing level rec phys n net k

-- the first segment of a net that shares an end
pub record IsFirstSharing (level : Level) (rec : DeviceRec) (phys : Phys) (n : NetNumber)
    (net : PhysNet) (k : SegmentNumber) : Type 0 where
  pub before : NetShares level rec phys n net k
  pub shares : ¬ SharesNothing level rec phys n net k

-- the marks when all segments of the nets before this one have theirs, and so many of its own
abbrev pub MarksAt : DeviceRec → EndsSeen → Phys → NetNumber → SegmentNumber → List ℕ → Type 0
MarksAt rec seen phys n k marks = AreMarks rec seen (HasSoFar rec phys.nets n k) marks

-- a segment of a net, with the numbers of its ends
pub record IsHere (rec : DeviceRec) (seen : EndsSeen) (phys : Phys) (n : NetNumber) (net : PhysNet)
    (k : SegmentNumber) (s : Segment) (pair : Pair) : Type 0 where
  pub net_is : slice_get phys.nets n ≡ Some net
  pub segment_is : segment_at net k ≡ Some s
  pub numbers : HasNumbers rec seen s pair

-- where nothing was found, all ends of the nets before this one are marked
abbrev pub MarksAfter : {A : Type 0} → DeviceRec → EndsSeen → Phys → NetNumber → (marks : List ℕ)
    → Option A → Type 0
MarksAfter rec seen phys n marks None = MarksAt rec seen phys n 0 marks
MarksAfter rec seen phys n marks (Some found) = Unit {0}

-- a net shares no end, or this is its first segment that shares one
abbrev pub IsFirstInNet : Level → DeviceRec → Phys → NetNumber → Option SegmentNumber → Type 0
IsFirstInNet level rec phys n None =
    (net : PhysNet) (k : SegmentNumber) → slice_get phys.nets n ≡ Some net
    → SharesNothing level rec phys n net k
IsFirstInNet level rec phys n (Some k) =
    (net : PhysNet) → slice_get phys.nets n ≡ Some net → IsFirstSharing level rec phys n net k

-- the same of all nets
abbrev pub IsFirstOfAll : Level → DeviceRec → Phys → Option (NetNumber × SegmentNumber) → Type 0
IsFirstOfAll level rec phys None = Everywhere (IsUnshared level rec phys)
IsFirstOfAll level rec phys (Some at) =
    IsFirstBreak (IsUnshared level rec phys) (SegmentAt at.0 at.1)

-- the marks of wires, and of ends of PIPs of the nets so far
abbrev pub CountedAt : DeviceRec → EndsSeen → Phys → NetNumber → SegmentNumber → List Bool → Type 0
CountedAt rec seen phys n k counted = AreOfPips rec seen (IsPipSoFar rec phys.nets n k) counted

-- what a graph tells of the constants of nodes is the record's
pub record KnowsConstants (rec : DeviceRec) (graph : Graph) (seen : EndsSeen) : Type 0 where
  pub firsts : seen.nodes ≤ length graph.firsts
  pub constants : (n : ℕ) → n < seen.nodes
      → slice_get graph.constants n ≡ Some (constant_of_node rec n)

-- Within a net: the marks, and that its segments so far share nothing.
pub record IsInNet (rec : DeviceRec) (seen : EndsSeen) (phys : Phys) (counted : List Bool)
    (n : NetNumber) (k : SegmentNumber) (marks : List ℕ) : Type 0 where
  pub marks_are : MarksAt rec seen phys n k marks
  pub share_nothing : (level : Level) → AreCounted level rec phys seen counted → (net : PhysNet)
      → slice_get phys.nets n ≡ Some net → NetShares level rec phys n net k

-- Before a net: the marks, and that no segment of the nets before it shares anything.
pub record IsBeforeNet (rec : DeviceRec) (seen : EndsSeen) (phys : Phys) (counted : List Bool)
    (n : NetNumber) (marks : List ℕ) : Type 0 where
  pub marks_are : MarksAt rec seen phys n 0 marks
  pub share_nothing : (level : Level) → AreCounted level rec phys seen counted
      → AreKept phys (λ m net. Unit {0}) (SharesNothing level rec phys) n

-- the first so many marks, set at numbers of wires
pub record AreOfWires (seen : EndsSeen) (count : ℕ) (counted : List Bool) : Type 0 where
  pub all : length counted ≡ count
  pub each : (number : ResNumber) → number < count
      → (slice_get counted number ≡ Some true) ↔ (seen.nodes ≤ number)
