use Rattle.ix_first.specs.First.{value_of}
use Rattle.ix_belmap.proofs.Pinned.{KnowsNets}
use Rattle.ix_belmap.proofs.nets.port_nets.Given as goal

abbrev pub invariant-loop-cell : goal.invariant-loop-cell
invariant-loop-cell l = KnowsNets l.flat (value_of l.nets) l.cell-iterator
