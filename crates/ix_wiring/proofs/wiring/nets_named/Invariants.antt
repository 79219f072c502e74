use Rattle.std.proofs.Common.{take}
use Rattle.ix_wiring.specs.Wired.{AreUndriven}
use Rattle.ix_wiring.proofs.wiring.nets_named.Given as goal

abbrev pub invariant-loop-i : goal.invariant-loop-i
invariant-loop-i l = AreUndriven (take l.i l.net_names) l.nets.items
