use Rattle.ix_net_trees.proofs.Mapping.{AreMappedUpTo}
use Rattle.ix_net_trees.proofs.mapped.mapped_pins.Given as goal

abbrev pub invariant-loop-i : goal.invariant-loop-i
invariant-loop-i l = AreMappedUpTo l.fn.phys l.keys l.i
