use Rattle.std.proofs.Common.{take}
use Rattle.ix_device.specs.Listed.{PutsMap}
use Rattle.ix_device.proofs.admissions.put_map.Given as goal

abbrev pub invariant-loop-i : goal.invariant-loop-i
invariant-loop-i l = PutsMap l.types l.initial.table l.table l.map (take l.i l.entries) l.pins
