use Rattle.ix_holders.specs.Marks.{IsInNet}
use Rattle.ix_holders.proofs.marks.first_in_net.Given as goal

abbrev pub invariant-loop-k : goal.invariant-loop-k
invariant-loop-k l = IsInNet l.device l.ends l.phys l.counted l.net l.k l.marks
