use Rattle.ix_graph.proofs.StartLemmas.{AreBegun}
use Rattle.ix_graph.proofs.pips.starts_of.Given as goal

abbrev pub invariant-loop-i : goal.invariant-loop-i
invariant-loop-i l = AreBegun l.types l.kinds l.i l.starts l.next
