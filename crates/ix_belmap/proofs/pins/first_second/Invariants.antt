use Rattle.ix_keys.specs.Keys.{name_key}
use Rattle.ix_first.specs.First.{value_at}
use Rattle.ix_belmap.proofs.Failures.{KnowsUsed}
use Rattle.ix_belmap.proofs.pins.first_second.Given as goal

abbrev pub invariant-loop-i : goal.invariant-loop-i
invariant-loop-i l = KnowsUsed l.all (λ pin. value_at l.used (name_key pin)) l.i
