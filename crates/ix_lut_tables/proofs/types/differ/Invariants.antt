use Rattle.std.proofs.Common.{◌≡◌, drop}
use Rattle.ix_device.specs.Elements.{differ}
use Rattle.ix_lut_tables.proofs.types.differ.Given as goal

abbrev pub invariant-loop-i : goal.invariant-loop-i
invariant-loop-i l = differ l.names ≡ differ (drop l.i l.names)
