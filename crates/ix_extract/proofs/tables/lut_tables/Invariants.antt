use Rattle.ix_extract.specs.Taken.{AreTables}
use Rattle.ix_extract.proofs.tables.lut_tables.Given as goal

abbrev pub invariant-loop-cell : goal.invariant-loop-cell
invariant-loop-cell l = AreTables l.on.names.now l.on.device.now l.on.phys.now l.cell l.tables
