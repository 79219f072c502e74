use Rattle.ix_roots.proofs.Finding.{IsFinding}
use Rattle.ix_roots.proofs.roots.find.Given as goal

abbrev pub invariant-loop-above : goal.invariant-loop-above
invariant-loop-above l = IsFinding l.fn.above l.above l.number l.at

abbrev pub decreases-loop-above : goal.decreases-loop-above
decreases-loop-above l = l.at
