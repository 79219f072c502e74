use Rattle.ix_flat_rules.specs.Lacking.{NoLutPort}
use Rattle.ix_flat_rules.proofs.tables.first_lut_port.Given as goal

abbrev pub invariant-loop-k : goal.invariant-loop-k
invariant-loop-k l = NoLutPort l.device l.types l.bits l.k
