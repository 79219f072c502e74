use Rattle.ix_net_uses.proofs.Firsts.{StubsKept}
use Rattle.ix_net_uses.proofs.stubs.first_of_all.Given as goal

abbrev pub invariant-loop-n : goal.invariant-loop-n
invariant-loop-n l = StubsKept l.phys l.n
