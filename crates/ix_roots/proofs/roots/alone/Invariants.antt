use Rattle.ix_roots.proofs.Steps.{AreAlone}
use Rattle.ix_roots.proofs.roots.alone.Given as goal

abbrev pub invariant-loop-number : goal.invariant-loop-number
invariant-loop-number l = AreAlone l.above.items l.number
