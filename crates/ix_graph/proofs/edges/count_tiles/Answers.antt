use Rattle.std.proofs.Common.{◌≡◌, ◌≤◌, ◌<◌, ◌+◌, ◌*◌, ◌^◌, ◌∙◌, ap, refl, sym, subst, [], length, take, unwrap_or, arith}
use Rattle.ix_device.proofs.Walks.{at_place}
use Rattle.ix_rows.specs.Rows.{total_size}
use Rattle.ix_graph.specs.Pips.{ways_from, pips_of_type}
use Rattle.ix_graph.specs.Tables.{pip_count}
use Rattle.ix_graph.specs.Edges.{AreWithin}
use Rattle.ix_graph.specs.Nodes.{AreBelow}
use Rattle.ix_graph.proofs.WayLemmas.{count_next}
use Rattle.ix_graph.proofs.EdgeLemmas.{tile_counted_next, some_pips}
use Rattle.ix_graph.proofs.edges.count_tiles.Goals as goal

pub loop-tile-init : goal.loop-tile-init
unfolding ways_from
loop-tile-init c = (λ n. omega arith, omega arith, refl)

pub at-requires-in-loop-tile : goal.at-requires-in-loop-tile
at-requires-in-loop-tile c = at_place _ c.args.pips.now.kinds c.loop-tile.tile c.at.result.now c.requires.nodes.kinds_stand c.at.ensures

pub count_tile-requires-clause-within : goal.count_tile-requires-clause-within
count_tile-requires-clause-within c =
    subst (λ xs. AreWithin (length c.at-in-loop-tile-2.result.now) xs) (ap (λ o. unwrap_or o []) c.at-in-loop-tile.ensures) (c.requires.nodes.within c.loop-tile.tile c.at.result.now c.at-in-loop-tile-2.result.now c.at.ensures c.at-in-loop-tile-2.ensures)

pub count_tile-requires-clause-below : goal.count_tile-requires-clause-below
count_tile-requires-clause-below c =
    subst (λ k. AreBelow k c.at-in-loop-tile-2.result.now) (sym c.loop-tile.invariant.2) (at_place _ c.args.wires.now c.loop-tile.tile c.at-in-loop-tile-2.result.now c.requires.nodes.below c.at-in-loop-tile-2.ensures)

pub count_tile-requires-clause-few : goal.count_tile-requires-clause-few
count_tile-requires-clause-few c =
    let types = c.args.pips.now.types in
    let kinds = c.args.pips.now.kinds in
    let next : pip_count types (take (c.loop-tile.tile + 1) kinds) ≡ pip_count types (take c.loop-tile.tile kinds) + length (pips_of_type types c.at.result.now)
    = count_next types kinds c.loop-tile.tile c.at.result.now c.at.ensures in
    let here : length (pips_of_type types c.at.result.now) ≡ length c.at-in-loop-tile.result.now = ap (λ o. length (unwrap_or o [])) c.at-in-loop-tile.ensures in
    let all : pip_count types (take (c.loop-tile.tile + 1) kinds) ≤ pip_count types kinds = some_pips types kinds (c.loop-tile.tile + 1) in
    let few : 2 * pip_count types kinds < 2 ^ 32 = c.requires.tables.starts.few in
    let so_far : total_size c.loop-tile.sizes ≤ 2 * pip_count types (take c.loop-tile.tile kinds) = c.loop-tile.invariant.1 in
    omega arith

pub loop-tile-preserved : goal.loop-tile-preserved
loop-tile-preserved c =
    let types = c.args.pips.now.types in
    let kinds = c.args.pips.now.kinds in
    let next : pip_count types (take (c.loop-tile.tile + 1) kinds) ≡ pip_count types (take c.loop-tile.tile kinds) + length (pips_of_type types c.at.result.now)
    = count_next types kinds c.loop-tile.tile c.at.result.now c.at.ensures in
    let here : length (pips_of_type types c.at.result.now) ≡ length c.at-in-loop-tile.result.now = ap (λ o. length (unwrap_or o [])) c.at-in-loop-tile.ensures in
    let so_far : total_size c.loop-tile.sizes ≤ 2 * pip_count types (take c.loop-tile.tile kinds) = c.loop-tile.invariant.1 in
    let more : total_size c.count_tile.new.sizes ≤ total_size c.loop-tile.sizes + 2 * length c.at-in-loop-tile.result.now = c.count_tile.ensures.total in (
      λ n. tile_counted_next c.args.wires.now types kinds c.loop-tile.tile c.at.result.now c.at-in-loop-tile-2.result.now c.at.ensures c.at-in-loop-tile-2.ensures n _ _ _ c.at-in-loop-tile.result.now
          (ap (λ o. unwrap_or o []) c.at-in-loop-tile.ensures) (c.loop-tile.invariant.0 n) (c.count_tile.ensures.sizes n),
      omega arith,
      c.count_tile.ensures.rows ∙ c.loop-tile.invariant.2,
    )
