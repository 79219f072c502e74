use Rattle.std.proofs.Common.{◌∙◌, ap, Some}
use Rattle.ix_device.proofs.TypeLemmas.{element_same, source_same}
use Rattle.ix_device.proofs.types.type_tables.Goals as goal

pub returns : goal.returns
returns c = record {
  bels = c.in_ok-bels.ensures;
  bel_pins = c.in_ok-bel_pins.ensures;
  site_pins = c.in_ok-site_pin_numbers.ensures;
  wires = c.in_ok-wires.ensures;
  elements = λ bel within. c.in_ok-elements_of_bels.ensures bel within ∙ ap Some (element_same c.args.rec.now c.args.ty.now c.args.places.now bel c.requires.places);
  inputs = c.in_ok-inputs.ensures;
  sources = λ pin within. c.in_ok-sources.ensures pin within ∙ ap Some (source_same c.args.rec.now c.args.ty.now c.args.sources.now pin within c.requires.sources);
  site_pips = c.in_ok-site_pips.ensures;
}
