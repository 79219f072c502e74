use Rattle.std.proofs.Common.{◌≤◌}
use Rattle.std.specs.FinMap.{len}
use Rattle.ix_fill_tables.specs.Forced.{AreForced}
use Rattle.ix_fill_tables.proofs.forced.forced_tables.Given as goal

abbrev pub invariant-loop-k : goal.invariant-loop-k
invariant-loop-k l = record {
  forced : AreForced l.on.device.now l.on.phys.now l.on.flat.now l.k l.forced;
  few : len l.forced ≤ l.k;
}
