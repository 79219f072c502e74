use Rattle.ix_device.proofs.LineLemmas.{AreFirstLines}
use Rattle.ix_device.proofs.usable.own_lines.Given as goal

abbrev pub invariant-loop-i : goal.invariant-loop-i
invariant-loop-i l = AreFirstLines l.pins.ty.now l.bel l.i l.lines
