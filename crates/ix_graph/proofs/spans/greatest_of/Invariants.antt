use Rattle.std.proofs.Common.{◌≡◌, map, take}
use Rattle.ix_graph.specs.Spans.{greatest}
use Rattle.ix_graph.specs.Boxes.{span_of_box}
use Rattle.ix_graph.proofs.spans.greatest_of.Given as goal

abbrev pub invariant-loop-b : goal.invariant-loop-b
invariant-loop-b l = l.greatest ≡ greatest (map span_of_box (take l.b-index l.boxes))
