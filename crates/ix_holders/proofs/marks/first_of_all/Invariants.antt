use Rattle.ix_holders.specs.Marks.{IsBeforeNet}
use Rattle.ix_holders.proofs.marks.first_of_all.Given as goal

abbrev pub invariant-loop-net : goal.invariant-loop-net
invariant-loop-net l = IsBeforeNet l.device l.ends l.phys l.counted l.net l.marks
