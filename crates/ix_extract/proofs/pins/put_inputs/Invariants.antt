use Rattle.ix_extract.specs.Taken.{AddsPins, IsInputAmong}
use Rattle.ix_extract.proofs.pins.put_inputs.Given as goal

abbrev pub invariant-loop-j : goal.invariant-loop-j
invariant-loop-j l = AddsPins l.on.device.now l.on.phys.now l.at.cell
    (IsInputAmong l.lut.input_pins l.j) l.fn.pins l.pins
