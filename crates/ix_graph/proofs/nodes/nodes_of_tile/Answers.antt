use Rattle.std.proofs.Common.{◌<◌, ap, sym, ◌∙◌, slice_get, is_some, position, arith}
use Rattle.std.proofs.lemmas.Option.{same_Some}
use Rattle.ix_graph.specs.Nodes.{wire_count, has_wire, entries}
use Rattle.ix_graph.proofs.TileNumbers.{count_of_type, one_more_named, one_more_alone, tile_numbered}
use Rattle.ix_graph.proofs.nodes.nodes_of_tile.Goals as goal
use Rattle.ix_graph.proofs.nodes.nodes_of_tile.Goals.{in-Some+in_ok-push, in_default+in_ok-next_node+in_ok-push-2+in_ok-number_of+in_ok-push-3}

pub get-requires-in-loop-i : goal.get-requires-in-loop-i
get-requires-in-loop-i c =
    let tile = ap (λ r. slice_get r.tile_list c.args.tile) (sym c.rec-rec.ensures.same) ∙ ap (slice_get c.rec-rec.result.now.tile_list) (sym c.get.ensures) ∙ c.at.ensures in
    let type_at = ap (λ r. slice_get r.tile_type_list c.at.result.now.ty) (sym c.rec-rec.ensures.same) ∙ c.at-ty.ensures in
    let count = count_of_type c.args.device.now c.at.result.now c.at-ty.result.now type_at in
    let within : c.loop-i.i < wire_count c.args.device.now c.at.result.now = omega arith in
    ap is_some (c.requires.table c.at.result.now c.loop-i.i tile within)

pub loop-i-preserved : goal.loop-i-preserved
loop-i-preserved c =
    let tile = ap (λ r. slice_get r.tile_list c.args.tile) (sym c.rec-rec.ensures.same) ∙ ap (slice_get c.rec-rec.result.now.tile_list) (sym c.get.ensures) ∙ c.at.ensures in
    let type_at = ap (λ r. slice_get r.tile_type_list c.at.result.now.ty) (sym c.rec-rec.ensures.same) ∙ c.at-ty.ensures in
    let count = count_of_type c.args.device.now c.at.result.now c.at-ty.result.now type_at in
    let within : c.loop-i.i < wire_count c.args.device.now c.at.result.now = omega arith in
    let entry = same_Some (position (has_wire (c.args.tile, c.loop-i.i)) (entries c.args.device.now)) c.get-in-loop-i.result (sym (c.requires.table c.at.result.now c.loop-i.i tile within) ∙ c.get-in-loop-i.ensures) in
    elim c.match-get.branch [
      | in-Some+in_ok-push w ↦
          one_more_named c.args.device.now c.args.tile c.loop-i.i c.loop-i.numbers c.match-get.numbers c.loop-i.firsts c.match-get.firsts w.in-Some.node
          (entry ∙ w.in-Some.is) (w.numbers-is ∙ w.in_ok-push.ensures.ok) w.firsts-is c.loop-i.invariant
      | in_default+in_ok-next_node+in_ok-push-2+in_ok-number_of+in_ok-push-3 w ↦
          one_more_alone c.args.device.now c.args.tile c.at.result.now c.loop-i.i c.loop-i.numbers c.match-get.numbers c.loop-i.firsts c.match-get.firsts w.in_ok-next_node.field-0 w.in_ok-number_of.field-0
          tile within (entry ∙ w.in_default.is) (w.numbers-is ∙ w.in_ok-push-2.ensures.ok) (w.in_ok-next_node.ensures ∙ w.len-in_default.ensures) (w.firsts-is ∙ w.in_ok-push-3.ensures.ok) w.in_ok-number_of.ensures c.loop-i.invariant
    ]

pub returns-clause-firsts : goal.returns-clause-firsts
returns-clause-firsts c =
    let tile = ap (λ r. slice_get r.tile_list c.args.tile) (sym c.rec-rec.ensures.same) ∙ ap (slice_get c.rec-rec.result.now.tile_list) (sym c.get.ensures) ∙ c.at.ensures in
    let type_at = ap (λ r. slice_get r.tile_type_list c.at.result.now.ty) (sym c.rec-rec.ensures.same) ∙ c.at-ty.ensures in
    let count = count_of_type c.args.device.now c.at.result.now c.at-ty.result.now type_at in
    (tile_numbered c.args.device.now c.args.tile c.at.result.now c.loop-i.i c.loop-i.numbers c.loop-i.firsts tile (omega arith) c.loop-i.invariant).1
