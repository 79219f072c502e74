use Rattle.std.proofs.Common.{◌≡◌, ◌<◌, ◌∙◌, ap, sym, subst, arith, slice_get, None}
use Rattle.std.proofs.Common.{length, get_or, List, take, map, ◌++◌}
use Rattle.ix_hierarchy.specs.FlatDesign.{cell_texts}
use Rattle.std.specs.List.{flat_map}
use Rattle.std.proofs.lemmas.List.{take_all}
use Rattle.std.proofs.lemmas.Option.{slice_get-get_or, slice_get_within}
use Rattle.ix_message.specs.Shape.{Text}
use Rattle.ix_rec.specs.declared.device.Direction.TheVariants.{Input}
use Rattle.ix_joined.specs.declared.top_bit.TopBit.{TopBit}
use Rattle.ix_joined.specs.Joining.{top_places}
use Rattle.ix_port_cells.specs.CellTexts.{AreCells, place_cell, port_cell}
use Rattle.ix_port_cells.proofs.Texts.{names_keep}
use Rattle.ix_port_cells.proofs.Whole.{bit_there, cells_whole, walked_next}
use Rattle.ix_port_cells.proofs.cells.put_port_cells.Goals as goal

pub loop-k-init : goal.loop-k-init
loop-k-init c = record {
  keeps = λ id text h. h;
  counted = omega arith;
  are = ap (map (cell_texts c.args.names.now)) c.requires.none;
}

pub put_port_cell-requires-clause-there : goal.put_port_cell-requires-clause-there
put_port_cell-requires-clause-there c =
    let r = c.requires.bits in
    let bits = c.args.bits.now in
    let bit : TopBit = get_or bits c.loop-k.k record { port = 0; index = 0; dir = Input; net = None } in
    let place = bit_there c.args.rec.now r.0 r.1 r.2 bits c.loop-k.k bit r.3
    (slice_get-get_or bits c.loop-k.k _ c.loop-k-test.true) in
    subst (λ n. n < length c.args.rec.now.port_list) (sym place.number_is)
    (slice_get_within c.args.rec.now.port_list place.at.number place.port place.port_is)

pub loop-k-preserved : goal.loop-k-preserved
loop-k-preserved c =
    let r = c.requires.bits in
    let design = c.args.rec.now in
    let bits = c.args.bits.now in
    let k = c.loop-k.k in
    let mid = c.loop-k.names in
    let bit : TopBit = get_or bits k record { port = 0; index = 0; dir = Input; net = None } in
    let place = bit_there design r.0 r.1 r.2 bits k bit r.3
    (slice_get-get_or bits k _ c.loop-k-test.true) in
    let told = c.in_ok-put_port_cell.ensures.cells
    (flat_map (place_cell mid design) (take k (top_places design))) place.port
    (names_keep c.args.names.now mid c.args.types.now c.loop-k.invariant.keeps c.requires.types)
    (ap (slice_get design.port_list) place.number_is ∙ place.port_is) place.towards
    c.loop-k.invariant.are in
    walked_next design c.args.names.now mid c.put_port_cell.new.names c.args.left.now c.loop-k.left
    c.put_port_cell.new.left k c.loop-k.cells.items c.put_port_cell.new.cells.items place.at place.port
    c.loop-k.invariant c.requires.fits (λ o n keeps fits. c.names_grow.ensures o n design keeps fits)
    place.at_is place.port_is c.put_port_cell.ensures.keeps c.put_port_cell.ensures.counted
    (subst (λ n. AreCells c.put_port_cell.new.names c.put_port_cell.new.cells.items
    (flat_map (place_cell mid design) (take k (top_places design)) ++ port_cell mid place.port n))
    place.index_is told)

pub returns-clause-cells : goal.returns-clause-cells
returns-clause-cells c =
    let r = c.requires.bits in
    let design = c.args.rec.now in
    let names = c.loop-k.names in
    let many : length c.args.bits.now ≡ length (top_places design) = r.3.many in
    let whole : take c.loop-k.k (top_places design) ≡ top_places design =
    take_all c.loop-k.k (top_places design) (omega arith) in
    subst (λ (texts : List (Text × Text)). AreCells names c.loop-k.cells.items texts)
    (ap (flat_map (place_cell names design)) whole ∙ cells_whole names design)
    c.loop-k.invariant.are
