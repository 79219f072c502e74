use Rattle.ix_roots.proofs.Steps.{IsSettled}
use Rattle.ix_roots.proofs.roots.settle.Given as goal

abbrev pub invariant-loop-i : goal.invariant-loop-i
invariant-loop-i l = IsSettled l.fn.above l.above l.i
