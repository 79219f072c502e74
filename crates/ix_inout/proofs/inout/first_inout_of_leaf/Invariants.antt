use Rattle.std.proofs.Common.{◌≡◌}
use Rattle.ix_hierarchy.specs.Hierarchy.{Path}
use Rattle.ix_joined.specs.Joining.{Known}
use Rattle.ix_inout.specs.Leaf.{IsAtLeaf}
use Rattle.ix_inout.proofs.Firsts.{NoneBeforePort}
use Rattle.ix_inout.proofs.inout.first_inout_of_leaf.Given as goal

abbrev pub invariant-loop-place : goal.invariant-loop-place
invariant-loop-place l = (known : Known) (path : Path)
    → IsAtLeaf known l.fn.rec l.fn.joined l.fn.instance path
    → l.fn.constants ≡ known.device.constants
    → NoneBeforePort l.fn.rec path l.ports l.place
