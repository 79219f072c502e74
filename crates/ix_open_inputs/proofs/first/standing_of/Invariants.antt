use Rattle.std.proofs.Common.{[], slice_index_or}
use Rattle.ix_open_inputs.proofs.Ordered.{NoneBefore}
use Rattle.ix_open_inputs.proofs.first.standing_of.Given as goal

abbrev pub invariant-loop-place : goal.invariant-loop-place
invariant-loop-place l = NoneBefore l.names l.rec l.ports (slice_index_or l.names l.name []) l.place
