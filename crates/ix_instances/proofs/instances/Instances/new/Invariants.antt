use Rattle.ix_instances.specs.Walked.{IsUnderWay, work_left}
use Rattle.ix_instances.proofs.instances.Instances.new.Given as goal

abbrev pub invariant-loop-next : goal.invariant-loop-next
invariant-loop-next l = IsUnderWay l.fn.rec l.instances.all.items l.instances.nets l.next

abbrev pub decreases-loop-next : goal.decreases-loop-next
decreases-loop-next l = work_left l.instances.all.items l.next
