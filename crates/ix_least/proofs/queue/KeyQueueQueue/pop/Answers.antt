use Rattle.ix_least.proofs.Queues.{takes_from_pop}
use Rattle.ix_least.proofs.queue.KeyQueueQueue.pop.Goals as goal

pub returns-clause-taken : goal.returns-clause-taken
returns-clause-taken c = rw (← c.self.view_is) (takes_from_pop _ _ _ c.self.invariant
    c.in-Some.ensures.permutation c.in-Some.ensures.heap_order)
