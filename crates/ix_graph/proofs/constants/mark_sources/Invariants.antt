use Rattle.std.proofs.Common.{take}
use Rattle.std.specs.List.{list_any}
use Rattle.ix_graph.specs.Marks.{Adds, source_marks}
use Rattle.ix_graph.proofs.constants.mark_sources.Given as goal

abbrev pub invariant-loop-i : goal.invariant-loop-i
invariant-loop-i l = Adds (λ c n. list_any (source_marks l.device c n) (take l.i l.sources)) l.initial.marks l.marks
