use Rattle.std.proofs.Common.{◌≡◌, ◌≤◌, ◌∙◌, ap, sym, get_or, length, take, map, arith}
use Rattle.std.proofs.lemmas.Option.{slice_get-get_or, slice_get_within}
use Rattle.std.proofs.lemmas.List.{take_all}
use Rattle.std.proofs.lemmas.Result.{IfOk-weaker}
use Rattle.ix_hierarchy.specs.Fits.{InstanceFits}
use Rattle.std.proofs.Common.{nat_eq, slice_index_or, []}
use Rattle.ix_hierarchy.specs.Hierarchy.{joined, flat_name}
use Rattle.ix_flat_texts.specs.Ways.{behind}
use Rattle.ix_flat_texts.proofs.Joins.{at_place}
use Rattle.ix_flat_texts.proofs.Way.{name_in, way_next, there, all_named}
use Rattle.ix_flat_texts.proofs.texts.joined_names.Goals as goal

pub at-requires : goal.at-requires
at-requires c =
    let here = there c.args.rec.now c.requires.way.0 c.args.way.now c.loop-i.i
    (get_or c.args.way.now c.loop-i.i 0) c.requires.way.1
    (slice_get-get_or c.args.way.now c.loop-i.i 0 c.loop-i-test.true) in
    slice_get_within c.args.rec.now.inst_list (get_or c.args.way.now c.loop-i.i 0) here.0 here.1

pub put_name-requires : goal.put_name-requires
put_name-requires c =
    (at_place (InstanceFits (length c.args.names.now) c.args.rec.now) c.args.rec.now.inst_list
    (get_or c.args.way.now c.loop-i.i 0) c.at.result.now c.requires.fits.insts c.at.ensures).name

pub loop-i-preserved : goal.loop-i-preserved
loop-i-preserved c =
    let names = c.args.names.now in
    let design = c.args.rec.now in
    let way = c.args.way.now in
    c.in_ok-put_name.ensures
    ∙ ap (λ t. behind (nat_eq c.loop-i.i 0) t (slice_index_or names c.at.result.now.name []))
    c.loop-i.invariant
    ∙ sym (way_next names design way c.loop-i.i (get_or way c.loop-i.i 0) c.at.result.now
    (slice_get-get_or way c.loop-i.i 0 c.loop-i-test.true) c.at.ensures)

pub returns : goal.returns
returns c = λ path is.
    let names = c.args.names.now in
    let design = c.args.rec.now in
    let way = c.args.way.now in
    let end : length way ≤ c.loop-i.i = omega arith in
    let all : take c.loop-i.i way ≡ way = take_all c.loop-i.i way end in
    let text : c.as_str.result.now ≡ flat_name names design path [] =
    c.as_str.ensures.value ∙ c.loop-i.invariant ∙ ap (λ w. joined (map (name_in names design) w)) all
    ∙ all_named names design path way is in
    IfOk-weaker c.new.result (λ word. word ≡ c.as_str.result.now)
    (λ word. word ≡ flat_name names design path []) (λ word e. e ∙ text) c.new.ensures
