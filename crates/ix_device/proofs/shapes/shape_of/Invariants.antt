use Rattle.ix_device.proofs.ShapeLemmas.{AreShapes}
use Rattle.ix_device.proofs.shapes.shape_of.Given as goal

abbrev pub invariant-loop-i : goal.invariant-loop-i
invariant-loop-i l = AreShapes l.pins.ty.now l.element l.i l.lines l.bels
