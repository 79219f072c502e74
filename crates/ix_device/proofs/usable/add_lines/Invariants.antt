use Rattle.std.proofs.Common.{◌≡◌, take}
use Rattle.ix_device.specs.Shapes.{with_lines}
use Rattle.ix_device.proofs.usable.add_lines.Given as goal

abbrev pub invariant-loop-i : goal.invariant-loop-i
invariant-loop-i l = l.all ≡ with_lines l.initial.all (take l.i l.lines)
