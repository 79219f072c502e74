use Rattle.std.proofs.Common.{◌≡◌, map, take}
use Rattle.ix_device.specs.Sources.{lists_constant}
use Rattle.ix_device.proofs.constants.types_that_list.Given as goal

abbrev pub invariant-loop-i : goal.invariant-loop-i
invariant-loop-i l = l.lists ≡ map (lists_constant l.c) (take l.i l.types)
