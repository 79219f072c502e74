use Rattle.ix_keys.specs.Keys.{name_key}
use Rattle.ix_first.specs.First.{value_at}
use Rattle.ix_first_fit.proofs.Netlists.{UsedSoFar}
use Rattle.ix_first_fit.proofs.netlist.instances.Given as goal

abbrev pub invariant-loop-i : goal.invariant-loop-i
invariant-loop-i l = UsedSoFar l.device l.spots l.i (λ q. value_at l.used (name_key q)) l.all
