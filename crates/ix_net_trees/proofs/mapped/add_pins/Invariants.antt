use Rattle.ix_net_trees.proofs.Mapping.{AddsUpTo}
use Rattle.ix_net_trees.proofs.mapped.add_pins.Given as goal

abbrev pub invariant-loop-k : goal.invariant-loop-k
invariant-loop-k l = AddsUpTo l.fn.placement l.fn.keys l.keys l.k
