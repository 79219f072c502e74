use Rattle.std.proofs.Common.{◌&&◌, take, slice_get}
use Rattle.std.specs.List.{list_any}
use Rattle.ix_device.specs.Sources.{is_constant}
use Rattle.ix_graph.specs.Graph.{is_node}
use Rattle.ix_graph.specs.Marks.{Adds}
use Rattle.ix_graph.proofs.constants.mark_entry.Given as goal

abbrev pub invariant-loop-i : goal.invariant-loop-i
invariant-loop-i l = Adds (λ c n. list_any (λ w. is_constant c l.entry.constant && is_node n (slice_get l.nodes w)) (take l.i l.entry.wires)) l.initial.marks l.marks
