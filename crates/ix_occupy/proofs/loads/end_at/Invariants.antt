use Rattle.std.proofs.Common.{take}
use Rattle.ix_occupy.specs.Kept.{EndsAt}
use Rattle.ix_occupy.proofs.loads.end_at.Given as goal

abbrev pub invariant-loop-node : goal.invariant-loop-node
invariant-loop-node l = EndsAt l.initial.loads l.loads (take l.node-index l.nodes)
