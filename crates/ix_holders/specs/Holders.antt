-- Which net first has each resource of a netlist as an end.
use Rattle.std.specs.Prelude.{◌≡◌, ◌<◌, ℕ, zero, suc, List, length, slice_get, Option, Some, None}
use Rattle.std.specs.Prelude.{Result, Err}
use Rattle.ix_num.specs.declared.resource.Res.{Res}
use Rattle.ix_rec.specs.declared.device.DeviceRec.{DeviceRec}
use Rattle.ix_rec.specs.declared.phys.Phys.{Phys}
use Rattle.ix_rec.specs.declared.phys.PhysNet.{PhysNet}
use Rattle.ix_legal.specs.declared.level.Level.{Level}
use Rattle.ix_legal.specs.Segments.{NetNumber}
use Rattle.ix_legal.specs.Holders.{HasEnd}
use Rattle.ix_legal.specs.declared.spot.Spot.TheVariants.{SegmentAt}
use Rattle.ix_legal.specs.Spots.{IsFirstBreak}
use Rattle.ix_legal.specs.Sharing.{IsUnshared}
use Rattle.ix_ends.specs.Ends.{EndsSeen, ResNumber, IsNumbered}
use Rattle.ix_holders.specs.declared.holders.SharingFault.{SharingFault}
use Rattle.ix_holders.specs.declared.holders.SharingFault.TheVariants.{Shared}

-- what the table keeps of a resource: 0 where no net has it, else the net's number and 1
abbrev pub net_of : (mark : ℕ) → Option NetNumber
net_of zero = None
net_of (suc n) = Some n

-- the first of these nets that has a resource as an end
pub record FirstHas (rec : DeviceRec) (nets : List PhysNet) (r : Res) (n : NetNumber) : Type 0 where
  pub net : PhysNet
  pub net_is : slice_get nets n ≡ Some net
  pub has : HasEnd rec net r
  pub none_before : (earlier : NetNumber) (other : PhysNet) → earlier < n
      → slice_get nets earlier ≡ Some other → ¬ HasEnd rec other r

-- none where no net has it
abbrev pub IsFirst : DeviceRec → List PhysNet → Res → Option NetNumber → Type 0
IsFirst rec nets r None = (n : NetNumber) (net : PhysNet) → slice_get nets n ≡ Some net
    → ¬ HasEnd rec net r
IsFirst rec nets r (Some n) = FirstHas rec nets r n

-- by number, the first net that has each resource
pub record AreHolders (rec : DeviceRec) (phys : Phys) (seen : EndsSeen)
    (firsts : List (Option NetNumber)) : Type 0 where
  pub all : length firsts ≡ seen.count
  pub each : (r : Res) (number : ResNumber) (first : Option NetNumber)
      → IsNumbered rec seen r number → slice_get firsts number ≡ Some first
      → IsFirst rec phys.nets r first

-- why there are no holders: the first segment that shares an end, or want of memory
abbrev pub IsShared : {A : Type 0} → Level → DeviceRec → Phys → Result A SharingFault → Type 0
IsShared level rec phys (Err (Shared n k)) =
    IsFirstBreak (IsUnshared level rec phys) (SegmentAt n k)
IsShared level rec phys result = Unit {0}
