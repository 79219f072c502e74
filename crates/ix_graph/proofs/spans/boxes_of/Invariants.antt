use Rattle.std.proofs.Common.{take}
use Rattle.ix_graph.proofs.SpanLemmas.{AreBoxes}
use Rattle.ix_graph.proofs.spans.boxes_of.Given as goal

abbrev pub invariant-loop-i : goal.invariant-loop-i
invariant-loop-i l = AreBoxes l.rec (take l.i l.rec.tile_list) l.count l.boxes.items
