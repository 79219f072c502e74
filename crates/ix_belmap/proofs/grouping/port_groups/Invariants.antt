use Rattle.ix_belmap.specs.Marks.{lists_of}
use Rattle.ix_belmap.proofs.Grouped.{AreSoFar}
use Rattle.ix_belmap.proofs.grouping.port_groups.Given as goal

abbrev pub invariant-loop-port : goal.invariant-loop-port
invariant-loop-port l = AreSoFar l.device l.flat (lists_of l.rows.items) l.groups l.marks l.port
