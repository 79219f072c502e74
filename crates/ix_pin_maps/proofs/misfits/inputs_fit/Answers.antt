use Rattle.std.proofs.Common.{◌∙◌, ap, sym, subst, refl, option_map, true≢false}
use Rattle.ix_pin_maps.specs.Entries.{InputsFit}
use Rattle.ix_pin_maps.proofs.Admission.{inputs_differ, is_on, lut_bel_there}
use Rattle.ix_pin_maps.proofs.Fitting.{no_bel, has_then, then_has}
use Rattle.ix_pin_maps.proofs.misfits.inputs_fit.Goals as goal

pub input_places-requires-clause-differ : goal.input_places-requires-clause-differ
input_places-requires-clause-differ c =
    let rec = c.args.device.now in let placement = c.args.placement.now in
    let on = is_on rec placement.site placement.bel c.args.at.ty c.args.at.bel c.requires.place in
    let lut_is = sym c.requires.lut ∙ ap (option_map (λ l. l.now)) c.in-Some.is in
    inputs_differ rec placement c.in-Some.lut.now c.in-Some-bel.bel.now c.requires.placed lut_is
    (lut_bel_there rec placement.site placement.bel c.args.at.ty c.args.at.bel on
    ∙ sym c.in-Some-bel.ensures.bel)

pub returns-in-None : goal.returns-in-None
returns-in-None c =
    let lut_is = ap (option_map (λ l. l.now)) (sym c.in-None.is) ∙ c.requires.lut in
    (λ yes. subst (InputsFit c.args.device.now c.args.placement.now) lut_is tt, λ fit. refl)

pub returns-in-None-bel : goal.returns-in-None-bel
returns-in-None-bel c =
    let rec = c.args.device.now in let placement = c.args.placement.now in
    let on = is_on rec placement.site placement.bel c.args.at.ty c.args.at.bel c.requires.place in
    let lut_is = sym c.requires.lut ∙ ap (option_map (λ l. l.now)) c.in-Some.is in (
      λ yes. absurd (true≢false (sym yes)),
      λ fit. absurd (no_bel rec placement c.in-Some.lut.now lut_is
          (lut_bel_there rec placement.site placement.bel c.args.at.ty c.args.at.bel on
          ∙ sym c.in-None-bel.ensures.bel) fit),
    )

pub returns-in-Some-bel : goal.returns-in-Some-bel
returns-in-Some-bel c =
    let rec = c.args.device.now in let placement = c.args.placement.now in
    let on = is_on rec placement.site placement.bel c.args.at.ty c.args.at.bel c.requires.place in
    let lut_is = sym c.requires.lut ∙ ap (option_map (λ l. l.now)) c.in-Some.is in
    let bel_is = lut_bel_there rec placement.site placement.bel c.args.at.ty c.args.at.bel on
    ∙ sym c.in-Some-bel.ensures.bel in (
      λ yes. has_then rec placement c.in-Some.lut.now lut_is c.in-Some-bel.bel.now bel_is
          c.input_places.result c.input_places.ensures (sym c.is_some.ensures ∙ yes),
      λ fit. c.is_some.ensures ∙ then_has rec placement c.in-Some.lut.now lut_is
          c.in-Some-bel.bel.now bel_is c.input_places.result c.input_places.ensures fit,
    )
