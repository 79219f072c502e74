use Rattle.std.proofs.Common.{◌≤◌, ◌&&◌, slice_get, length, arith}
use Rattle.ix_device.specs.Sources.{is_constant}
use Rattle.ix_graph.specs.Graph.{is_node}
use Rattle.ix_graph.proofs.MarkLemmas.{one_more, wire_marked, all_added}
use Rattle.ix_graph.proofs.constants.mark_entry.Goals as goal

pub loop-i-preserved : goal.loop-i-preserved
loop-i-preserved c =
    one_more (λ k n w. is_constant k c.args.entry.now.constant && is_node n (slice_get c.args.nodes.now w)) c.args.entry.now.wires c.loop-i.i c.at.result.now c.args.marks.now c.loop-i.marks c.mark.new.marks c.at.ensures c.loop-i.invariant
    (wire_marked c.args.nodes.now c.at.result.now c.at-in-loop-i.result.now c.args.entry.now.constant c.loop-i.marks c.mark.new.marks c.at-in-loop-i.ensures c.mark.ensures)

pub returns : goal.returns
returns c =
    let end : length c.args.entry.now.wires ≤ c.loop-i.i = omega arith in
    all_added (λ k n w. is_constant k c.args.entry.now.constant && is_node n (slice_get c.args.nodes.now w)) c.args.entry.now.wires c.loop-i.i c.args.marks.now c.loop-i.marks end c.loop-i.invariant
