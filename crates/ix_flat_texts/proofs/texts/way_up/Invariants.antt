use Rattle.std.proofs.Common.{◌<◌, length}
use Rattle.ix_flat_texts.specs.Ways.{IsUp}
use Rattle.ix_flat_texts.proofs.texts.way_up.Given as goal

abbrev pub invariant-loop-at : goal.invariant-loop-at
invariant-loop-at l = IsUp l.instances l.instance l.way.items l.at × (l.at < length l.instances)

abbrev pub decreases-loop-at : goal.decreases-loop-at
decreases-loop-at l = l.at
