use Rattle.std.proofs.Common.{◌≤◌, ◌+◌, List, length}
use Rattle.ix_strings.specs.Names.{KeepsNumbers}
use Rattle.ix_hierarchy.specs.Nets.{Occurrence}
use Rattle.ix_joined.specs.Joining.{IsJoined, Known}
use Rattle.ix_flat_lists.specs.Listed.{AreSignalNets}
use Rattle.ix_net_names.specs.NetNames.{AreNamed}
use Rattle.ix_net_names.proofs.naming.put_net_names.Given as goal

abbrev pub invariant-loop-k : goal.invariant-loop-k
invariant-loop-k l = record {
  keeps : KeepsNumbers l.fn.names l.names;
  counted : length l.names + l.left ≤ length l.fn.names + l.fn.left;
  are : (known : Known) (nets : List Occurrence) → IsJoined known l.rec l.joined
      → AreSignalNets known l.rec l.joined l.signals nets
      → AreNamed l.names l.rec nets l.ids.items l.k;
}
