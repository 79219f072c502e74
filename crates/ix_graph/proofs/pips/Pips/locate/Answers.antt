use Rattle.std.proofs.Common.{◌∙◌, ap, sym, ◌-◌, ◌/◌, ◌%◌, length, Some, slice_get, unwrap_or, [], nat_eq, arith}
use Rattle.std.proofs.lemmas.Option.{same_Some}
use Rattle.ix_graph.proofs.WayLemmas.{count_next, number_within, located}
use Rattle.ix_graph.proofs.StartLemmas.{type_there}
use Rattle.ix_graph.proofs.pips.Pips.locate.Goals as goal

pub tile_of-tile-requires-clause-there : goal.tile_of-tile-requires-clause-there
tile_of-tile-requires-clause-there c =
    let within = number_within c.args.self.now.types c.args.self.now.kinds c.args.pip c.requires.there in
    let same = c.get-number.ensures in
    rw same within

pub at-pips-requires : goal.at-pips-requires
at-pips-requires c =
    let p = c.args.self.now in
    let start = same_Some _ _ (sym c.at.ensures ∙ c.requires.tables.starts.each c.tile_of-tile.result c.tile_of-tile.ensures.tile) in
    let next = count_next p.types p.kinds c.tile_of-tile.result c.at-2.result.now c.at-2.ensures in
    let begins = c.tile_of-tile.ensures.begins in
    let ends = c.tile_of-tile.ensures.ends in
    type_there p.types c.at-2.result.now (c.get-number.result / 2 - c.at.result.now) (omega arith)

pub at-requires-3 : goal.at-requires-3
at-requires-3 c =
    let p = c.args.self.now in
    let start = same_Some _ _ (sym c.at.ensures ∙ c.requires.tables.starts.each c.tile_of-tile.result c.tile_of-tile.ensures.tile) in
    let next = count_next p.types p.kinds c.tile_of-tile.result c.at-2.result.now c.at-2.ensures in
    let begins = c.tile_of-tile.ensures.begins in
    let ends = c.tile_of-tile.ensures.ends in
    let pips = ap (λ o. length (unwrap_or o [])) c.at-pips.ensures in
    omega arith

pub returns : goal.returns
returns c =
    let p = c.args.self.now in
    let place = c.get-number.result / 2 - c.at.result.now in
    let start = same_Some _ _ (sym c.at.ensures ∙ c.requires.tables.starts.each c.tile_of-tile.result c.tile_of-tile.ensures.tile) in
    let begins = c.tile_of-tile.ensures.begins in
    let halves = ap (λ n. n / 2) c.get-number.ensures in
    located p.types p.kinds c.tile_of-tile.result c.at-2.result.now c.at-2.ensures c.args.pip place c.at-3.result.now
    (ap (λ o. slice_get (unwrap_or o []) place) c.at-pips.ensures ∙ c.at-3.ensures) (omega arith) c.requires.there
    ∙ ap (λ tile. Some (tile, c.at-3.result.now, nat_eq (c.args.pip % 2) 0)) (sym c.new.ensures)
    ∙ ap (λ k. Some (c.new.result, c.at-3.result.now, nat_eq (k % 2) 0)) (sym c.get.ensures)
