use Rattle.std.proofs.Common.{◌≡◌, drop}
use Rattle.ix_device_rules.specs.Rules.{is_new}
use Rattle.ix_lut_tables.proofs.types.is_new.Given as goal

abbrev pub invariant-loop-j : goal.invariant-loop-j
invariant-loop-j l = is_new (drop l.from l.names) l.name ≡ is_new (drop l.j l.names) l.name
