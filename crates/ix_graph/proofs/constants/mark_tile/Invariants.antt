use Rattle.std.proofs.Common.{take}
use Rattle.std.specs.List.{list_any}
use Rattle.ix_graph.specs.Marks.{Adds, entry_marks}
use Rattle.ix_graph.proofs.constants.mark_tile.Given as goal

abbrev pub invariant-loop-i : goal.invariant-loop-i
invariant-loop-i l = Adds (λ c n. list_any (entry_marks c l.nodes n) (take l.i l.ty.constants)) l.initial.marks l.marks
