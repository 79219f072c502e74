use Rattle.std.proofs.Common.{List, take}
use Rattle.ix_rec.specs.declared.device.DeviceRec.{DeviceRec}
use Rattle.ix_hierarchy.specs.declared.instance.Instance.{Instance}
use Rattle.ix_hierarchy.specs.Hierarchy.{Path, ports_of}
use Rattle.ix_joined.specs.Joining.{places_from}
use Rattle.ix_top_bits.specs.Given.{AreBitsOf, AreGiven}
use Rattle.ix_top_bits.proofs.bits.top_bits.Given as goal

abbrev pub invariant-loop-place : goal.invariant-loop-place
invariant-loop-place l = (device : DeviceRec) (all : List Instance) (paths : List Path)
    → AreGiven l.rec device l.kinds l.own all paths l.firsts
    → AreBitsOf l.rec all paths l.firsts
    (places_from l.rec 0 (take l.place (ports_of l.rec l.rec.top_inst.cell))) l.bits.items
