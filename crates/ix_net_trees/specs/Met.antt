-- What the segments of a net have met.
use Rattle.std.specs.Prelude.{◌≡◌, ◌≤◌, ℕ, length, slice_index}
use Rattle.ix_rec.specs.declared.device.DeviceRec.{DeviceRec}
use Rattle.ix_rec.specs.declared.phys.PhysNet.{PhysNet}
use Rattle.ix_legal.specs.Segments.{NetNumber}
use Rattle.ix_ends.specs.Ends.{ResNumber, EndsSeen}
use Rattle.ix_net_trees.specs.declared.apart.Met.{Met}
use Rattle.ix_net_trees.specs.Seen.{AreMarked, IsEntered, IsBegun}

-- there is a mark for each resource
pub record IsWhole (count : ℕ) (met : Met) : Type 0 where
  pub entered : length met.entered ≡ count
  pub begun : length met.begun ≡ count

-- Only nets before this one have met anything: the mark of a net is its number plus 1.
pub record IsUnmet (count : ℕ) (n : NetNumber) (met : Met) : Type 0 where
  pub whole : IsWhole count met
  pub entered : (number : ResNumber) → slice_index met.entered number ≤ n
  pub begun : (number : ResNumber) → slice_index met.begun number ≤ n

-- the first so many segments of the net of this mark have met these
pub record IsMet (rec : DeviceRec) (seen : EndsSeen) (net : PhysNet) (mark count : ℕ) (met : Met)
    : Type 0 where
  pub whole : IsWhole seen.count met
  pub entered : AreMarked met.entered mark (IsEntered rec seen net count)
  pub begun : AreMarked met.begun mark (IsBegun rec seen net count)
