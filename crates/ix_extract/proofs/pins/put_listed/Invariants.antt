use Rattle.ix_device.specs.PinsListed.{pins_listed}
use Rattle.ix_extract.specs.Taken.{AddsPins, IsListed}
use Rattle.ix_extract.proofs.pins.put_listed.Given as goal

abbrev pub invariant-loop-j : goal.invariant-loop-j
invariant-loop-j l = AddsPins l.on.device.now l.on.phys.now l.at.cell
    (IsListed l.on.device.now l.at.placement.now (pins_listed l.list) l.j) l.fn.pins l.pins
