use Rattle.std.proofs.Common.{◌≡◌, false, take}
use Rattle.std.specs.List.{list_any}
use Rattle.ix_device.specs.Sources.{lists_here}
use Rattle.ix_device.proofs.constants.lists_constant.Given as goal

abbrev pub invariant-loop-i : goal.invariant-loop-i
invariant-loop-i l = list_any (lists_here l.c) (take l.i l.ty.constants) ≡ false
