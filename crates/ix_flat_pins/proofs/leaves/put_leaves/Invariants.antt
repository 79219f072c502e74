use Rattle.ix_joined.specs.Joining.{Known}
use Rattle.ix_flat_lists.specs.Listed.{AreLeaves}
use Rattle.ix_flat_pins.specs.Items.{Adds, IsReady, IsPinOfLeaves, Parts}
use Rattle.ix_flat_pins.proofs.leaves.put_leaves.Given as goal

abbrev pub invariant-loop-k : goal.invariant-loop-k
invariant-loop-k l = (known : Known) (parts : Parts)
    → IsReady known l.rec l.joined l.constants l.states l.numbers parts
    → AreLeaves known l.rec l.leaves parts.cells
    → Adds known l.rec parts (IsPinOfLeaves parts.cells l.ports l.k) l.initial.items.items l.items.items
