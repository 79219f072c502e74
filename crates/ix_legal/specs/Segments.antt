-- The segments of a net in preorder, its source trees before its stubs: a segment's number is its
-- place there. What stands below what is told by their depths.
use Rattle.std.specs.Prelude.{◌≡◌, ◌⊎◌, ◌<◌, ◌≤◌, ◌+◌, ℕ, List, ◌++◌, length, slice_get, Option}
use Rattle.std.specs.Prelude.{Some, None, option_map, option_and_then}
use Rattle.std.specs.List.{AllByRecursion}
use Rattle.ix_num.specs.declared.resource.Res.{Res}
use Rattle.ix_rec.specs.declared.device.DeviceRec.{DeviceRec}
use Rattle.ix_rec.specs.declared.forest.Branch.{Branch}
use Rattle.ix_rec.specs.declared.phys.Phys.{Phys}
use Rattle.ix_rec.specs.declared.phys.PhysNet.{PhysNet}
use Rattle.ix_rec.specs.declared.phys.Segment.{Segment}
use Rattle.ix_rec.specs.declared.phys.BranchKind.{BranchKind}
use Rattle.ix_rec.specs.declared.phys.BranchKind.TheVariants.{BelPin}
use Rattle.ix_rec.specs.Forest.{IsPreorder}
use Rattle.ix_graph.specs.Ends.{ends}

-- a net's place in the netlist's list of nets
abbrev pub NetNumber : Type 0
NetNumber = ℕ

abbrev pub SegmentNumber : Type 0
SegmentNumber = ℕ

-- the segments with their depths
abbrev pub segments : PhysNet → List (Branch Segment)
segments net = net.sources ++ net.stubs

-- The trees of each net are in preorder. A netlist whose trees are forests is so.
abbrev pub HasPreorder : Phys → Type 0
HasPreorder phys = AllByRecursion (λ net. IsPreorder net.sources × IsPreorder net.stubs) phys.nets

abbrev pub segment_at : PhysNet → SegmentNumber → Option Segment
segment_at net k = option_map (λ b. b.item) (slice_get (segments net) k)

abbrev pub depth_at : PhysNet → SegmentNumber → Option ℕ
depth_at net k = option_map (λ b. b.depth) (slice_get (segments net) k)

-- Roots and parents.

abbrev pub IsRoot : PhysNet → SegmentNumber → Type 0
IsRoot net k = depth_at net k ≡ Some 0

abbrev pub IsSourceRoot : PhysNet → SegmentNumber → Type 0
IsSourceRoot net k = (k < length net.sources) × IsRoot net k

abbrev pub IsStubRoot : PhysNet → SegmentNumber → Type 0
IsStubRoot net k = (length net.sources ≤ k) × IsRoot net k

-- the parent of a segment: the last before it that stands higher, by one step
pub record IsParent (net : PhysNet) (parent child : SegmentNumber) : Type 0 where
  pub depth : ℕ
  pub parent_is : depth_at net parent ≡ Some depth
  pub child_is : depth_at net child ≡ Some (depth + 1)
  pub before : parent < child
  pub last : (between : SegmentNumber) (other : ℕ) → parent < between → between < child
      → depth_at net between ≡ Some other → depth < other

-- Ends.

abbrev pub in_end_of : DeviceRec → Segment → Option Res
in_end_of rec s = option_map (λ e. e.0) (ends rec s)

abbrev pub in_end : DeviceRec → PhysNet → SegmentNumber → Option Res
in_end rec net k = option_and_then (in_end_of rec) (segment_at net k)

abbrev pub out_end : DeviceRec → PhysNet → SegmentNumber → Option Res
out_end rec net k = option_map (λ e. e.1) (option_and_then (ends rec) (segment_at net k))

abbrev pub IsEnd : DeviceRec → PhysNet → SegmentNumber → Res → Type 0
IsEnd rec net k r = (in_end rec net k ≡ Some r) ⊎ (out_end rec net k ≡ Some r)

-- a segment of this kind with this out-end enters it, but for a BEL pin
abbrev pub entered_by : BranchKind → Option Res → Option Res
entered_by BelPin r = None
entered_by kind r = r

abbrev pub entered : DeviceRec → PhysNet → SegmentNumber → Option Res
entered rec net k = option_and_then (λ s. entered_by s.kind (out_end rec net k)) (segment_at net k)

abbrev pub Enters : DeviceRec → PhysNet → SegmentNumber → Res → Type 0
Enters rec net k r = entered rec net k ≡ Some r
