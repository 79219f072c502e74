use Rattle.ix_unknown.specs.Marked.{AreMarked}
use Rattle.ix_unknown.proofs.way.mark_all.Given as goal

abbrev pub invariant-loop-declaration : goal.invariant-loop-declaration
invariant-loop-declaration l = AreMarked l.fn.rec l.fn.kinds l.fn.closed l.marks l.declaration-index
