use Rattle.std.proofs.Common.{take}
use Rattle.ix_device.specs.Listed.{PutsMapping}
use Rattle.ix_device.proofs.admissions.put_mapping.Given as goal

abbrev pub invariant-loop-i : goal.invariant-loop-i
invariant-loop-i l = PutsMapping l.types l.initial.table l.table l.place l.mapping.cell (take l.i l.mapping.common_pins)
