use Rattle.std.proofs.Common.{take}
use Rattle.ix_graph.specs.Boxes.{AreWidened}
use Rattle.ix_graph.proofs.spans.add_tile.Given as goal

abbrev pub invariant-loop-i : goal.invariant-loop-i
invariant-loop-i l = AreWidened (l.row, l.column) (take l.i l.nodes) l.initial.boxes.items l.boxes.items
