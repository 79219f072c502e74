use Rattle.ix_holders.specs.Marks.{CountedAt}
use Rattle.ix_holders.proofs.counted.add_pips.Given as goal

abbrev pub invariant-loop-k : goal.invariant-loop-k
invariant-loop-k l = CountedAt l.device l.ends l.phys l.net l.k l.marks
