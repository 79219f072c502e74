use Rattle.std.proofs.Common.{length}
use Rattle.ix_device.specs.Places.{usable_inputs}
use Rattle.ix_device.proofs.FilledTables.{IsFilled}
use Rattle.ix_device.proofs.lut_inputs.inputs_of_bels.Given as goal

abbrev pub invariant-loop-bel : goal.invariant-loop-bel
invariant-loop-bel l = IsFilled (length l.pins.ty.now.bels) (usable_inputs l.rec l.pins.ty.now) l.bel l.inputs
