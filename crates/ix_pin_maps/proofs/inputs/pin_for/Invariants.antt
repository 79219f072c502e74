use Rattle.std.proofs.Common.{◌≡◌, take}
use Rattle.ix_pin_maps.specs.Inputs.{pins_among, listed}
use Rattle.ix_pin_maps.proofs.inputs.pin_for.Given as goal

abbrev pub invariant-loop-i : goal.invariant-loop-i
invariant-loop-i l = pins_among (take l.i l.placement.pin_map) l.cell_pin ≡ listed l.found
