use Rattle.std.proofs.Common.{◌≡◌, length}
use Rattle.ix_hierarchy.specs.Hierarchy.{Path}
use Rattle.ix_joined.specs.Joining.{Known, IsJoined}
use Rattle.ix_net_states.specs.Least.{AreStatesOf}
use Rattle.ix_net_states.specs.Walking.{IsDone, IsDoneTo, IsLeafAt}
use Rattle.ix_net_states.proofs.states.put_pins.Given as goal

abbrev pub invariant-loop-place : goal.invariant-loop-place
invariant-loop-place l = (length l.states ≡ length l.joined.firsts.items)
    × ((known : Known) (path : Path) → IsJoined known l.rec l.joined
    → l.constants ≡ known.device.constants → IsLeafAt known l.rec l.instance path
    → AreStatesOf known l.rec l.joined (IsDone known l.instance) l.initial.states
    → AreStatesOf known l.rec l.joined (IsDoneTo known l.joined l.instance path l.start l.place)
    l.states)
