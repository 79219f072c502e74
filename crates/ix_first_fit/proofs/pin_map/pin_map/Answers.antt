use Rattle.std.proofs.Common.{◌<◌, IfSome, ap, sym, subst, ◌∙◌, length, option_map}
use Rattle.std.proofs.lemmas.Result.{IfOk-weaker}
use Rattle.ix_device.specs.PinsListed.{pins_listed}
use Rattle.ix_first_fit.proofs.Netlists.{type_told, type_found, bel_there, pins_at_is, pins_wanted}
use Rattle.ix_first_fit.proofs.pin_map.pin_map.Goals as goal

pub pins_of-requires-clause-bel : goal.pins_of-requires-clause-bel
pins_of-requires-clause-bel c =
    let e = type_told c.args.device.now c.rec.result.now c.get.result c.args.t c.at-site_type.result.now c.rec.ensures.same c.get.ensures c.at-site_type.ensures in
    subst (λ o. IfSome o (λ v. c.args.spot.now.bel < length v.bels)) (sym e) (bel_there c.args.device.now c.args.ty c.args.t c.args.spot.now c.at-site_type.result.now c.requires.ty e c.requires.admitted)

pub returns-in_ok-sorted-in-Some : goal.returns-in_ok-sorted-in-Some
returns-in_ok-sorted-in-Some c =
    let e = type_told c.args.device.now c.rec.result.now c.get.result c.args.t c.at-site_type.result.now c.rec.ensures.same c.get.ensures c.at-site_type.ensures in
    IfOk-weaker c.named_pins.result _ _ (λ named h. record {
      given = pins_listed c.in-Some.pins;
      given_is = pins_at_is c.args.device.now c.args.ty c.args.t c.args.spot.now c.requires.ty ∙ sym c.pins_of.ensures ∙ ap (option_map pins_listed) c.in-Some.is;
      sorted = c.in_ok-sorted-in-Some.sorted;
      same = c.in_ok-sorted-in-Some.ensures.same;
      rises = c.in_ok-sorted-in-Some.ensures.rises;
      told = h ∙ pins_wanted c.args.device.now c.args.spot.now.site c.args.bel c.at-site_type.result.now c.in_ok-sorted-in-Some.sorted (type_found c.args.device.now c.args.spot.now.site c.args.t c.at-site_type.result.now c.requires.ty e);
    }) c.named_pins.ensures
