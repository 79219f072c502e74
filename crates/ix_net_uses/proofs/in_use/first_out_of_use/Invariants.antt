use Rattle.ix_net_uses.proofs.Firsts.{UsesKept}
use Rattle.ix_net_uses.proofs.in_use.first_out_of_use.Given as goal

abbrev pub invariant-loop-n : goal.invariant-loop-n
invariant-loop-n l = UsesKept l.phys l.n
