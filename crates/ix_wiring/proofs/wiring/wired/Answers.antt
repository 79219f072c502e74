use Rattle.std.proofs.Common.{◌∙◌, ap, refl, subst, length}
use Rattle.std.specs.FinMap.{get, get-empty}
use Rattle.ix_rec.specs.Maps.{pin_order}
use Rattle.std.proofs.lemmas.Option.{slice_get_read}
use Rattle.ix_wiring.proofs.Partly.{many_nets, put_next, start, whole}
use Rattle.ix_wiring.specs.Wired.{IsNetIn}
use Rattle.ix_wiring.proofs.wiring.wired.Goals as goal

pub loop-i-init : goal.loop-i-init
loop-i-init c = start c.args.net_names.now c.args.pins.now c.new-map.result c.in_ok-nets.nets.items
    (λ q. ap (λ m. get m q) c.new-map.ensures ∙ get-empty pin_order q) c.in_ok-nets.ensures

pub drive-requires : goal.drive-requires
drive-requires c = subst (λ n. IsNetIn n c.index-pins-i.result.net)
    (many_nets c.args.net_names.now c.args.pins.now c.loop-i.i c.loop-i.map c.loop-i.nets.items
    c.loop-i.invariant)
    (c.requires.nets c.loop-i.i c.index-pins-i.result (slice_get_read c.args.pins.now
    (length c.args.pins.now) c.loop-i.i c.index-pins-i.result refl c.loop-i-test.true
    c.index-pins-i.is))

pub loop-i-preserved : goal.loop-i-preserved
loop-i-preserved c = put_next c.args.net_names.now c.args.pins.now c.loop-i.i
    c.index-pins-i.result c.loop-i.map c.insert.new.self c.loop-i.nets.items c.drive.new.nets.items
    (slice_get_read c.args.pins.now (length c.args.pins.now) c.loop-i.i c.index-pins-i.result refl
    c.loop-i-test.true c.index-pins-i.is)
    c.loop-i.invariant c.in_ok-insert.ensures.value c.insert.ensures.others c.drive.ensures

pub returns : goal.returns
returns c = whole c.args.net_names.now c.args.pins.now c.loop-i.i
    (record { pins = c.loop-i.map; nets = c.loop-i.nets }) c.loop-i-test.false
    c.loop-i.invariant
