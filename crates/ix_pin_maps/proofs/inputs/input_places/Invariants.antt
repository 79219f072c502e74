use Rattle.ix_pin_maps.specs.Inputs.{MapsFirst}
use Rattle.ix_pin_maps.proofs.inputs.input_places.Given as goal

abbrev pub invariant-loop-i : goal.invariant-loop-i
invariant-loop-i l = MapsFirst l.lut l.bel l.placement l.i l.places
