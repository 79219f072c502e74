use Rattle.ix_holders.specs.Marks.{CountedAt}
use Rattle.ix_holders.proofs.counted.add_all_pips.Given as goal

abbrev pub invariant-loop-net : goal.invariant-loop-net
invariant-loop-net l = CountedAt l.device l.ends l.phys l.net 0 l.marks
