use Rattle.std.proofs.Common.{take, map, ◌++◌}
use Rattle.ix_keys.specs.Keys.{key}
use Rattle.ix_device_rules.specs.Tables.{SameKeys}
use Rattle.ix_device_rules.proofs.tables.add_parts.Given as goal

abbrev pub invariant-loop-i : goal.invariant-loop-i
invariant-loop-i g l = SameKeys l.table (l.fn.table ++ map (λ p. key l.number (g.T.Part.part_of p) (g.T.Part.name_of p)) (take l.i l.parts))
