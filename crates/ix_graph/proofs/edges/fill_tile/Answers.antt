use Rattle.std.proofs.Common.{◌≡◌, ◌∙◌, ap, refl, sym, take, map, ◌++◌, arith}
use Rattle.std.proofs.lemmas.List.{append-nil, take_all}
use Rattle.ix_device.proofs.Walks.{at_place}
use Rattle.ix_rows.specs.Rows.{row_in, room_in}
use Rattle.ix_graph.specs.Pips.{ways_in}
use Rattle.ix_graph.specs.Edges.{told, edges_out}
use Rattle.ix_graph.proofs.EdgeLemmas.{one_more_edge, room_next}
use Rattle.ix_graph.proofs.edges.fill_tile.Goals as goal

pub loop-i-init : goal.loop-i-init
unfolding ways_in
loop-i-init c = (λ tile n. sym (append-nil _), λ n. refl, refl)

pub fill_pip-requires-clause-wire0 : goal.fill_pip-requires-clause-wire0
fill_pip-requires-clause-wire0 c = (at_place _ c.args.pips.now c.loop-i.i c.at.result.now c.requires.within c.at.ensures).0

pub fill_pip-requires-clause-wire1 : goal.fill_pip-requires-clause-wire1
fill_pip-requires-clause-wire1 c = (at_place _ c.args.pips.now c.loop-i.i c.at.result.now c.requires.within c.at.ensures).1

pub fill_pip-requires-clause-room : goal.fill_pip-requires-clause-room
fill_pip-requires-clause-room c =
    λ n. room_next told c.args.nodes.now n 0 c.args.first c.args.pips.now c.loop-i.i c.at.result.now (row_in c.args.filler.now n) (row_in c.loop-i.filler n) (room_in c.args.filler.now n) (room_in c.loop-i.filler n) c.at.ensures (c.loop-i.invariant.0 0 n) (c.requires.room n) (c.loop-i.invariant.1 n)

pub loop-i-preserved : goal.loop-i-preserved
loop-i-preserved c = (
  λ tile n. one_more_edge c.args.nodes.now n tile c.args.first c.args.pips.now c.loop-i.i c.at.result.now _ _ _ c.at.ensures (c.loop-i.invariant.0 tile n) (c.fill_pip.ensures.edges tile n),
  λ n. c.fill_pip.ensures.room n ∙ c.loop-i.invariant.1 n,
  c.fill_pip.ensures.rows ∙ c.loop-i.invariant.2,
)

pub returns-clause-edges : goal.returns-clause-edges
returns-clause-edges c =
    let all : take c.loop-i.i c.args.pips.now ≡ c.args.pips.now = take_all c.loop-i.i c.args.pips.now (omega arith) in
    λ tile n. c.loop-i.invariant.0 tile n ∙ ap (λ xs. map told (row_in c.args.filler.now n) ++ edges_out c.args.nodes.now n (ways_in tile c.args.first xs)) all
