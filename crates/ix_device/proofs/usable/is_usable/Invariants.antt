use Rattle.ix_device.proofs.LineLemmas.{AreAllLines}
use Rattle.ix_device.proofs.usable.is_usable.Given as goal

abbrev pub invariant-loop-i : goal.invariant-loop-i
invariant-loop-i l = AreAllLines l.pins.ty.now l.element.bels l.i l.all
