use Rattle.std.specs.List.{list_any}
use Rattle.ix_graph.specs.Marks.{Adds, listed_in}
use Rattle.ix_graph.specs.NodeTables.{wires_before}
use Rattle.ix_graph.proofs.constants.mark_tiles.Given as goal

abbrev pub invariant-loop-i : goal.invariant-loop-i
invariant-loop-i l = Adds (λ c n. list_any (listed_in l.device c n) (wires_before l.device l.i)) l.initial.marks l.marks
