use Rattle.ix_extract.specs.Taken.{AreFixed}
use Rattle.ix_extract.proofs.ports.port_sites.Given as goal

abbrev pub invariant-loop-cell : goal.invariant-loop-cell
invariant-loop-cell l = AreFixed l.on.names.now l.on.device.now l.on.phys.now l.cell l.fixed
