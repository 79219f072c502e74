use Rattle.ix_extract.specs.Taken.{ArePins}
use Rattle.ix_extract.proofs.pins.pins_on_nets.Given as goal

abbrev pub invariant-loop-cell : goal.invariant-loop-cell
invariant-loop-cell l = ArePins l.on.device.now l.on.phys.now l.cell l.pins
