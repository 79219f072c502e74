use Rattle.std.proofs.Common.{◌≡◌, ◌+◌, ap, subst, ◌∙◌, map, slice_get, IfSome}
use Rattle.ix_graph.specs.Nodes.{entries, node_of, wires_in, wire_count}
use Rattle.ix_graph.specs.NodeTables.{firsts_with, wires_before}
use Rattle.ix_graph.proofs.TileNumbers.{no_tile_numbered, next_table, tells_of_tile, one_more_numbered, all_numbered}
use Rattle.ix_graph.proofs.nodes.nodes_of_tiles.Goals as goal

pub loop-i-init : goal.loop-i-init
loop-i-init c = no_tile_numbered c.args.device.now c.args.tables.items c.into_iter-i-iterator.result.count c.into_iter-i-iterator.result.iter.rest.items c.into_iter-i-iterator.result.iter.rest.len c.in_ok-wires.wires c.args.firsts.now
    (ap (λ e. e.count) c.into_iter-i-iterator.ensures.into_iter_gives ∙ c.enumerate-i-items.ensures.count)
    (ap (λ e. e.iter.rest.items) c.into_iter-i-iterator.ensures.into_iter_gives ∙ ap (λ s. s.rest.items) c.enumerate-i-items.ensures.source ∙ c.into_iter.ensures.rest)
    (ap (λ e. e.iter.rest.len) c.into_iter-i-iterator.ensures.into_iter_gives ∙ ap (λ s. s.rest.len) c.enumerate-i-items.ensures.source ∙ c.into_iter.ensures.len ∙ c.args.tables.ok.0) c.in_ok-wires.ensures c.requires.firsts

pub nodes_of_tile-requires-clause-table : goal.nodes_of_tile-requires-clause-table
nodes_of_tile-requires-clause-table c =
    tells_of_tile c.args.device.now c.args.tables.items c.new-tile.result c.in-Some.table (entries c.args.device.now) c.requires.tables
    (ap (slice_get c.args.tables.items) (c.new-tile.ensures ∙ c.in_ok-number_of.ensures ∙ c.in-Some.ensures.steps.1)
    ∙ (next_table c.args.device.now c.args.tables.items c.loop-i.i-iterator.count c.loop-i.i-iterator.iter.rest.items c.loop-i.i-iterator.iter.rest.len c.loop-i.wires c.loop-i.firsts c.in-Some.table c.next.new.self.iter.rest.items c.loop-i.invariant c.in-Some.ensures.steps.0.0).0)

pub loop-i-preserved : goal.loop-i-preserved
loop-i-preserved c =
    let tile : c.new-tile.result ≡ c.loop-i.i-iterator.count = c.new-tile.ensures ∙ c.in_ok-number_of.ensures ∙ c.in-Some.ensures.steps.1 in
    one_more_numbered c.args.device.now c.args.tables.items c.loop-i.i-iterator.count c.next.new.self.count c.loop-i.i-iterator.iter.rest.items c.loop-i.i-iterator.iter.rest.len c.next.new.self.iter.rest.len c.loop-i.wires c.loop-i.firsts c.in-Some.table c.next.new.self.iter.rest.items c.in_ok-nodes_of_tile.field-0 c.push.new.self c.nodes_of_tile.new.firsts
    c.loop-i.invariant c.requires.count c.in-Some.ensures.steps.0.0 c.in-Some.ensures.steps.0.1 c.in-Some.ensures.steps.2
    (subst (λ k. IfSome (slice_get c.args.device.now.tile_list k) (λ t. c.in_ok-nodes_of_tile.field-0 ≡ map (node_of c.args.device.now) (wires_in k (wire_count c.args.device.now t)))) tile c.in_ok-nodes_of_tile.ensures.nodes)
    (c.in_ok-nodes_of_tile.ensures.firsts ∙ ap (λ k. firsts_with c.args.device.now (wires_before c.args.device.now (k + 1))) tile) c.in_ok-push.ensures.ok

pub returns-clause-wires : goal.returns-clause-wires
returns-clause-wires c = (all_numbered c.args.device.now c.args.tables.items c.loop-i.i-iterator.count c.loop-i.i-iterator.iter.rest.items c.loop-i.i-iterator.iter.rest.len c.loop-i.wires c.loop-i.firsts c.loop-i.invariant c.requires.count c.in-None.ensures.steps.0.0).0

pub returns-clause-firsts : goal.returns-clause-firsts
returns-clause-firsts c = (all_numbered c.args.device.now c.args.tables.items c.loop-i.i-iterator.count c.loop-i.i-iterator.iter.rest.items c.loop-i.i-iterator.iter.rest.len c.loop-i.wires c.loop-i.firsts c.loop-i.invariant c.requires.count c.in-None.ensures.steps.0.0).1
