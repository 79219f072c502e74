use Rattle.std.proofs.Common.{ap, sym, ◌∙◌, slice_get}
use Rattle.ix_graph.specs.NodeTables.{number_in}
use Rattle.ix_graph.proofs.EntryLemmas.{listed, one_more_wire, one_more_none}
use Rattle.ix_graph.proofs.nodes.put_entry.Goals as goal
use Rattle.ix_graph.proofs.nodes.put_entry.Goals.{in-Some+in_ok-put_wire, in_default}

pub loop-i-preserved : goal.loop-i-preserved
loop-i-preserved c =
    let known = listed c.args.device.now c.at.result.now c.at-names.result.now c.tile_wire.result (ap (λ r. slice_get r.wires c.at.result.now) (sym c.rec-rec.ensures.same) ∙ c.at-names.ensures) c.tile_wire.ensures in
    elim c.match-tile_wire.branch [
      | in-Some+in_ok-put_wire w ↦
          one_more_wire c.args.device.now c.args.entry.now.wires c.loop-i.i c.at.result.now w.in-Some.wire c.in_ok-node.node c.args.tables.now c.loop-i.tables c.match-tile_wire.tables c.args.firsts.now c.loop-i.firsts c.match-tile_wire.firsts
          c.at.ensures (known ∙ w.in-Some.is) (c.in_ok-node.ensures ∙ c.len.ensures) (λ q. ap (λ ts. number_in ts q) w.tables-is ∙ w.in_ok-put_wire.ensures.tables q) (w.firsts-is ∙ w.in_ok-put_wire.ensures.firsts) c.loop-i.invariant
      | in_default w ↦
          one_more_none c.args.device.now c.args.entry.now.wires c.loop-i.i c.at.result.now c.in_ok-node.node c.args.tables.now c.loop-i.tables c.match-tile_wire.tables c.args.firsts.now c.loop-i.firsts c.match-tile_wire.firsts
          c.at.ensures (known ∙ w.in_default.is) w.tables-is w.firsts-is c.loop-i.invariant
    ]
