use Rattle.std.proofs.Common.{◌≡◌, ◌∙◌, ap, sym, ◌+◌, take, slice_get, Some, None, option_map, arith}
use Rattle.std.proofs.lemmas.Option.{same_Some}
use Rattle.ix_graph.specs.Pips.{pips_of_type}
use Rattle.ix_graph.specs.Tables.{pip_count, goes, way_number}
use Rattle.ix_graph.proofs.WayLemmas.{under_key, joined, place_within}
use Rattle.ix_graph.proofs.StartLemmas.{numbers_fit}
use Rattle.ix_graph.proofs.pips.Pips.between.Goals as goal

pub returns-in_err-place : goal.returns-in_err-place
returns-in_err-place c =
    let p = c.args.self.now in
    let kind = c.at.result.now in
    let at : slice_get p.kinds c.args.tile ≡ Some kind = ap (slice_get p.kinds) (sym c.get-at.ensures) ∙ c.at.ensures in
    let none = under_key p.types kind c.args.wire0 c.args.wire1 c.args.forward c.new.result c.first_number.result None c.new.ensures c.first_number.ensures c.in_err-place.was in
    c.from_residual.ensures ∙ sym (joined p.types p.kinds c.args.tile kind c.args.wire0 c.args.wire1 c.args.forward at ∙ ap (option_map (λ j. way_number (pip_count p.types (take c.args.tile p.kinds) + j) c.args.forward)) none)

pub overflow_add-at : goal.overflow_add-at
overflow_add-at c =
    let p = c.args.self.now in
    let kind = c.at.result.now in
    let at : slice_get p.kinds c.args.tile ≡ Some kind = ap (slice_get p.kinds) (sym c.get-at.ensures) ∙ c.at.ensures in
    let start = same_Some _ _ (sym c.at-2.ensures ∙ ap (slice_get p.starts) c.get-at.ensures ∙ c.requires.tables.starts.each c.args.tile c.requires.tile) in
    let found = under_key p.types kind c.args.wire0 c.args.wire1 c.args.forward c.new.result c.first_number.result (Some c.in_ok-place.place) c.new.ensures c.first_number.ensures c.in_ok-place.was in
    let fit = numbers_fit p.types p.kinds p.starts c.requires.tables.starts c.args.tile kind c.in_ok-place.place at (place_within (goes c.args.wire0 c.args.wire1 c.args.forward) (pips_of_type p.types kind) c.in_ok-place.place found) in
    omega arith

pub way_of-requires : goal.way_of-requires
way_of-requires c =
    let p = c.args.self.now in
    let kind = c.at.result.now in
    let at : slice_get p.kinds c.args.tile ≡ Some kind = ap (slice_get p.kinds) (sym c.get-at.ensures) ∙ c.at.ensures in
    let start = same_Some _ _ (sym c.at-2.ensures ∙ ap (slice_get p.starts) c.get-at.ensures ∙ c.requires.tables.starts.each c.args.tile c.requires.tile) in
    let found = under_key p.types kind c.args.wire0 c.args.wire1 c.args.forward c.new.result c.first_number.result (Some c.in_ok-place.place) c.new.ensures c.first_number.ensures c.in_ok-place.was in
    let fit = numbers_fit p.types p.kinds p.starts c.requires.tables.starts c.args.tile kind c.in_ok-place.place at (place_within (goes c.args.wire0 c.args.wire1 c.args.forward) (pips_of_type p.types kind) c.in_ok-place.place found) in
    omega arith

pub returns : goal.returns
returns c =
    let p = c.args.self.now in
    let kind = c.at.result.now in
    let at : slice_get p.kinds c.args.tile ≡ Some kind = ap (slice_get p.kinds) (sym c.get-at.ensures) ∙ c.at.ensures in
    let start = same_Some _ _ (sym c.at-2.ensures ∙ ap (slice_get p.starts) c.get-at.ensures ∙ c.requires.tables.starts.each c.args.tile c.requires.tile) in
    let found = under_key p.types kind c.args.wire0 c.args.wire1 c.args.forward c.new.result c.first_number.result (Some c.in_ok-place.place) c.new.ensures c.first_number.ensures c.in_ok-place.was in
    ap Some (c.way_of.ensures ∙ ap (λ n. way_number (n + c.in_ok-place.place) c.args.forward) start)
    ∙ sym (joined p.types p.kinds c.args.tile kind c.args.wire0 c.args.wire1 c.args.forward at ∙ ap (option_map (λ j. way_number (pip_count p.types (take c.args.tile p.kinds) + j) c.args.forward)) found)
