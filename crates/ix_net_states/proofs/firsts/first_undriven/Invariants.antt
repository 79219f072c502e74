use Rattle.ix_net_states.proofs.Least.{NoneBefore}
use Rattle.ix_net_states.specs.Least.{is_undriven}
use Rattle.ix_net_states.proofs.firsts.first_undriven.Given as goal

abbrev pub invariant-loop-net : goal.invariant-loop-net
invariant-loop-net l = NoneBefore is_undriven l.states l.net
