use Rattle.std.proofs.Common.{take}
use Rattle.ix_graph.proofs.EntryLemmas.{ArePut}
use Rattle.ix_graph.proofs.nodes.put_entry.Given as goal

abbrev pub invariant-loop-i : goal.invariant-loop-i
invariant-loop-i l = ArePut l.device (take l.i l.entry.wires) l.node l.initial.tables l.tables l.initial.firsts l.firsts
