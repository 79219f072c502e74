use Rattle.ix_inout.specs.Leaf.{NoInoutBit}
use Rattle.ix_inout.proofs.inout.first_inout_bit.Given as goal

abbrev pub invariant-loop-bit : goal.invariant-loop-bit
invariant-loop-bit l = NoInoutBit l.bits l.bit-index
