use Rattle.std.proofs.Common.{◌≡◌, ◌+◌, min, length, get_or}
use Rattle.ix_hierarchy.specs.Hierarchy.{child_of}
use Rattle.ix_counted.specs.Counts.{most, sum_to, with_instance}
use Rattle.ix_counted.proofs.count.count_in.Given as goal

abbrev pub invariant-loop-place : goal.invariant-loop-place
invariant-loop-place l = l.count ≡ min (length l.cell.nets
    + sum_to (λ place. with_instance (λ d. get_or l.counts d 0) (child_of l.rec l.cell place))
    l.place)
    most
