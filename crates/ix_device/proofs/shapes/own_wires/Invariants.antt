use Rattle.std.proofs.Common.{◌≡◌, length, take}
use Rattle.ix_device.proofs.LineLemmas.{AreFirstLines}
use Rattle.ix_device.proofs.shapes.own_wires.Given as goal

abbrev pub invariant-loop-j : goal.invariant-loop-j
invariant-loop-j l = AreFirstLines l.pins.ty.now l.bel l.j (take l.j l.wires) × (length l.wires ≡ 6)
