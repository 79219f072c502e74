use Rattle.ix_belmap.specs.Groups.{is_fixed}
use Rattle.ix_belmap.proofs.Grouped.{IsParted}
use Rattle.ix_belmap.proofs.grouping.fixed_first.Given as goal

abbrev pub invariant-loop-group : goal.invariant-loop-group
invariant-loop-group l =
    IsParted (is_fixed l.flat) l.fn.groups l.first.items l.others.items l.group-iterator.rest.items
