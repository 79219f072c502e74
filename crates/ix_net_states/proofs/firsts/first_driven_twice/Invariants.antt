use Rattle.ix_net_states.proofs.Least.{NoneBefore}
use Rattle.ix_net_states.proofs.firsts.first_driven_twice.Given as goal

abbrev pub invariant-loop-net : goal.invariant-loop-net
invariant-loop-net l = NoneBefore (λ state. state.driven_twice) l.states l.net
