-- Marks on resources, by their numbers.
use Rattle.std.specs.Prelude.{◌≡◌, ◌↔◌, ◌<◌, ◌≤◌, ℕ, List, slice_index, Some}
use Rattle.ix_num.specs.declared.resource.Res.{Res}
use Rattle.ix_rec.specs.declared.device.DeviceRec.{DeviceRec}
use Rattle.ix_rec.specs.declared.phys.PhysNet.{PhysNet}
use Rattle.ix_legal.specs.Segments.{SegmentNumber, IsSourceRoot, Enters, in_end}
use Rattle.ix_ends.specs.Ends.{ResNumber, EndsSeen, IsNumbered}

-- No mark is past this one, and these numbers have it.
pub record AreMarked (marks : List ℕ) (mark : ℕ) (Marked : ResNumber → Type 0) : Type 0 where
  pub low : (number : ResNumber) → slice_index marks number ≤ mark
  pub each : (number : ResNumber) → (slice_index marks number ≡ mark) ↔ Marked number

-- one of the first so many segments of a net enters the resource of this number
pub record IsEntered (rec : DeviceRec) (seen : EndsSeen) (net : PhysNet) (count : ℕ)
    (number : ResNumber) : Type 0 where
  pub resource : Res
  pub number_is : IsNumbered rec seen resource number
  pub place : SegmentNumber
  pub before : place < count
  pub enters : Enters rec net place resource

-- the resource of this number is the in-end of a source root among them
pub record IsBegun (rec : DeviceRec) (seen : EndsSeen) (net : PhysNet) (count : ℕ)
    (number : ResNumber) : Type 0 where
  pub resource : Res
  pub number_is : IsNumbered rec seen resource number
  pub place : SegmentNumber
  pub before : place < count
  pub is_root : IsSourceRoot net place
  pub in_is : in_end rec net place ≡ Some resource
