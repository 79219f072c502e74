use Rattle.ix_graph.proofs.EntryLemmas.{AreEmpty}
use Rattle.ix_graph.proofs.nodes.empty_tables.Given as goal

abbrev pub invariant-loop-i : goal.invariant-loop-i
invariant-loop-i l = AreEmpty l.rec l.i l.tables.items
