use Rattle.std.proofs.Common.{vec_len}
use Rattle.ix_reach.specs.State.{AreGone}
use Rattle.ix_reach.proofs.search.merge.Given as goal

abbrev pub invariant-loop-part : goal.invariant-loop-part
invariant-loop-part l = AreGone l.fn.parts.items l.place l.parts.items

abbrev pub decreases-loop-part : goal.decreases-loop-part
decreases-loop-part l = vec_len l.parts
