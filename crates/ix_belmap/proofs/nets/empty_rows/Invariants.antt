use Rattle.std.proofs.Common.{◌≡◌, [], replicate}
use Rattle.ix_belmap.specs.Marks.{lists_of}
use Rattle.ix_belmap.proofs.nets.empty_rows.Given as goal

abbrev pub invariant-loop : goal.invariant-loop
invariant-loop l = lists_of l.rows.items ≡ replicate l.counter []
