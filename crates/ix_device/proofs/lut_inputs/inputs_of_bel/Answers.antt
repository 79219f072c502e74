use Rattle.std.proofs.Common.{◌∙◌, ap, sym, Some}
use Rattle.ix_device.proofs.TypeLemmas.{bel_within, no_inputs, some_inputs}
use Rattle.ix_device.proofs.lut_inputs.inputs_of_bel.Goals as goal

pub returns-then-not-branch : goal.returns-then-not-branch
returns-then-not-branch c =
    no_inputs c.args.rec.now c.args.pins.now.ty.now c.args.places.now c.args.bel c.requires.places c.in-Some.place c.at-entry.result.now c.at-element.result.now c.in-Some.ensures c.at-entry.ensures c.at-element.ensures (sym c.in_ok-is_usable-in-Some.ensures ∙ c.if-not-branch.true)

pub at-requires : goal.at-requires
at-requires c =
    bel_within c.args.rec.now c.args.pins.now.ty.now c.args.places.now c.args.bel c.requires.places c.in-Some.place c.at-entry.result.now c.at-element.result.now c.in-Some.ensures c.at-entry.ensures c.at-element.ensures

pub returns-in_ok-number_of-in-Some : goal.returns-in_ok-number_of-in-Some
returns-in_ok-number_of-in-Some c =
    ap Some (c.in_ok-number_of-in-Some.ensures ∙ c.len-inputs.ensures)
    ∙ some_inputs c.args.rec.now c.args.pins.now.ty.now c.args.places.now c.args.bel c.requires.places c.in-Some.place c.at-entry.result.now c.at-element.result.now c.in-Some.ensures c.at-entry.ensures c.at-element.ensures c.at.result.now (sym c.in_ok-is_usable-in-Some.ensures ∙ c.if-not-branch.false) c.at.ensures
