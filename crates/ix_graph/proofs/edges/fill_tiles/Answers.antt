use Rattle.std.proofs.Common.{◌≡◌, ◌≤◌, ◌<◌, ◌+◌, ◌*◌, ◌^◌, ◌∙◌, ap, refl, sym, subst, [], length, map, take, unwrap_or, arith}
use Rattle.std.specs.List.{filter}
use Rattle.std.proofs.lemmas.List.{length-map}
use Rattle.std.proofs.lemmas.Option.{same_Some}
use Rattle.ix_device.proofs.Walks.{at_place}
use Rattle.ix_rows.specs.Rows.{row_in, room_in}
use Rattle.ix_graph.specs.Pips.{ways_from, pips_of_type}
use Rattle.ix_graph.specs.Graph.{goes_from, edge}
use Rattle.ix_graph.specs.Tables.{pip_count}
use Rattle.ix_graph.specs.Edges.{told, AreWithin, all_outs}
use Rattle.ix_graph.specs.Nodes.{AreBelow}
use Rattle.ix_graph.proofs.WayLemmas.{count_next}
use Rattle.ix_graph.proofs.EdgeLemmas.{tile_room, row_next, some_pips}
use Rattle.ix_graph.proofs.edges.fill_tiles.Goals as goal

pub loop-tile-init : goal.loop-tile-init
unfolding ways_from
loop-tile-init c = (λ n. ap (map told) (c.requires.empty n), λ n. refl, refl)

pub at-requires-in-loop-tile : goal.at-requires-in-loop-tile
at-requires-in-loop-tile c = at_place _ c.args.pips.now.kinds c.loop-tile.tile c.at.result.now c.requires.nodes.kinds_stand c.at.ensures

pub fill_tile-requires-clause-within : goal.fill_tile-requires-clause-within
fill_tile-requires-clause-within c =
    subst (λ xs. AreWithin (length c.at-in-loop-tile-2.result.now) xs) (ap (λ o. unwrap_or o []) c.at-in-loop-tile.ensures) (c.requires.nodes.within c.loop-tile.tile c.at.result.now c.at-in-loop-tile-2.result.now c.at.ensures c.at-in-loop-tile-2.ensures)

pub fill_tile-requires-clause-below : goal.fill_tile-requires-clause-below
fill_tile-requires-clause-below c =
    subst (λ k. AreBelow k c.at-in-loop-tile-2.result.now) (sym c.loop-tile.invariant.2) (at_place _ c.args.wires.now c.loop-tile.tile c.at-in-loop-tile-2.result.now c.requires.nodes.below c.at-in-loop-tile-2.ensures)

pub fill_tile-requires-clause-few : goal.fill_tile-requires-clause-few
fill_tile-requires-clause-few c =
    let types = c.args.pips.now.types in
    let kinds = c.args.pips.now.kinds in
    let first : c.at-first.result.now ≡ pip_count types (take c.loop-tile.tile kinds) = same_Some _ _ (sym c.at-first.ensures ∙ c.requires.tables.starts.each c.loop-tile.tile (omega arith)) in
    let next : pip_count types (take (c.loop-tile.tile + 1) kinds) ≡ pip_count types (take c.loop-tile.tile kinds) + length (pips_of_type types c.at.result.now)
    = count_next types kinds c.loop-tile.tile c.at.result.now c.at.ensures in
    let here : length (pips_of_type types c.at.result.now) ≡ length c.at-in-loop-tile.result.now = ap (λ o. length (unwrap_or o [])) c.at-in-loop-tile.ensures in
    let all : pip_count types (take (c.loop-tile.tile + 1) kinds) ≤ pip_count types kinds = some_pips types kinds (c.loop-tile.tile + 1) in
    let few : 2 * pip_count types kinds < 2 ^ 32 = c.requires.tables.starts.few in
    omega arith

pub fill_tile-requires-clause-room : goal.fill_tile-requires-clause-room
fill_tile-requires-clause-room c =
    λ n. subst (λ xs. length (row_in c.loop-tile.filler n) + all_outs c.at-in-loop-tile-2.result.now n xs ≤ room_in c.loop-tile.filler n) (ap (λ o. unwrap_or o []) c.at-in-loop-tile.ensures)
    (tile_room c.args.wires.now c.args.pips.now.types c.args.pips.now.kinds c.loop-tile.tile c.at.result.now c.at-in-loop-tile-2.result.now c.at.ensures c.at-in-loop-tile-2.ensures n (room_in c.loop-tile.filler n) (length (row_in c.loop-tile.filler n))
    (c.loop-tile.invariant.1 n ∙ c.requires.room n)
    (sym (length-map (row_in c.loop-tile.filler n) told) ∙ ap length (c.loop-tile.invariant.0 n) ∙ length-map (filter (goes_from c.args.wires.now n) (ways_from c.args.pips.now.types 0 0 (take c.loop-tile.tile c.args.pips.now.kinds))) (edge c.args.wires.now)))

pub loop-tile-preserved : goal.loop-tile-preserved
loop-tile-preserved c = (
  λ n. row_next c.args.wires.now c.args.pips.now.types c.args.pips.now.kinds c.loop-tile.tile c.at.result.now c.at-in-loop-tile-2.result.now c.at.ensures c.at-in-loop-tile-2.ensures n c.at-first.result.now c.at-in-loop-tile.result.now _ _
      (same_Some _ _ (sym c.at-first.ensures ∙ c.requires.tables.starts.each c.loop-tile.tile (omega arith))) (ap (λ o. unwrap_or o []) c.at-in-loop-tile.ensures) (c.loop-tile.invariant.0 n) (c.fill_tile.ensures.edges c.loop-tile.tile n),
  λ n. c.fill_tile.ensures.room n ∙ c.loop-tile.invariant.1 n,
  c.fill_tile.ensures.rows ∙ c.loop-tile.invariant.2,
)
