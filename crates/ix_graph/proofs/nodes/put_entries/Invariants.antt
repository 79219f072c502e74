use Rattle.ix_graph.proofs.EntryLemmas.{EntriesPut}
use Rattle.ix_graph.proofs.nodes.put_entries.Given as goal

abbrev pub invariant-loop-i : goal.invariant-loop-i
invariant-loop-i l = EntriesPut l.device l.i l.tables l.firsts
