use Rattle.std.proofs.Common.{length}
use Rattle.ix_second_names.specs.Seen.{AreSeen}
use Rattle.ix_second_names.proofs.second.seen_twice.Given as goal

abbrev pub invariant-loop-place : goal.invariant-loop-place
invariant-loop-place l = AreSeen l.fn.names l.marks (length l.fn.marks) l.place
