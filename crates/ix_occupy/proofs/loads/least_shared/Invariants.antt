use Rattle.std.proofs.Common.{take}
use Rattle.ix_occupy.specs.Kept.{IsLeastShared}
use Rattle.ix_occupy.proofs.loads.least_shared.Given as goal

abbrev pub invariant-loop-node : goal.invariant-loop-node
invariant-loop-node l = IsLeastShared l.loads (take l.node-index l.nodes) l.least
