use Rattle.ix_least.proofs.Queues.{near_adds_from_push}
use Rattle.ix_least.proofs.queue.NearQueueQueue.push.Goals as goal

pub returns : goal.returns
returns c = rw (← c.self.view_is) (near_adds_from_push _ _ _ c.in_ok-push.ensures.permutation
    c.args._key c.requires)
