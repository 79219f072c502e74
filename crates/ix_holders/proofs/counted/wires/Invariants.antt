use Rattle.ix_holders.specs.Marks.{AreOfWires}
use Rattle.ix_holders.proofs.counted.wires.Given as goal

abbrev pub invariant-loop-number : goal.invariant-loop-number
invariant-loop-number l = AreOfWires l.ends l.number l.marks.items
