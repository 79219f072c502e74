use Rattle.std.proofs.Common.{◌≡◌, ℕ, List, map, ◌++◌, slice_get, Some}
use Rattle.std.specs.List.{range_with_len}
use Rattle.ix_rec.specs.declared.device.DeviceRec.{DeviceRec}
use Rattle.ix_hierarchy.specs.declared.instance.Instance.{Instance}
use Rattle.ix_hierarchy.specs.Hierarchy.{Path, ports_of}
use Rattle.ix_joined.specs.Joining.{TopPlace}
use Rattle.ix_top_bits.specs.Given.{AreBitsOf, AreGiven}
use Rattle.ix_top_bits.proofs.Places.{placed}
use Rattle.ix_top_bits.proofs.bits.put_port.Given as goal

abbrev pub invariant-loop-index : goal.invariant-loop-index
invariant-loop-index l = (device : DeviceRec) (all : List Instance) (paths : List Path) (place : ℕ)
    (places : List TopPlace) → AreGiven l.rec device l.kinds l.own all paths l.firsts
    → slice_get (ports_of l.rec l.rec.top_inst.cell) place ≡ Some l.port
    → AreBitsOf l.rec all paths l.firsts places l.initial.bits.items
    → AreBitsOf l.rec all paths l.firsts
    (places ++ map (placed place l.port l.one) (range_with_len 0 l.index)) l.bits.items
