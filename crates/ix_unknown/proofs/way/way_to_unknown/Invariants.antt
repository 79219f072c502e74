use Rattle.ix_unknown.specs.Marked.{place_of}
use Rattle.ix_unknown.proofs.Going.{IsGoing}
use Rattle.ix_unknown.proofs.way.way_to_unknown.Given as goal

abbrev pub invariant-loop-declaration : goal.invariant-loop-declaration
invariant-loop-declaration l =
    IsGoing l.fn.rec l.fn.kinds l.fn.closed l.way.items l.declaration

abbrev pub decreases-loop-declaration : goal.decreases-loop-declaration
decreases-loop-declaration l = place_of l.declaration l.fn.closed
