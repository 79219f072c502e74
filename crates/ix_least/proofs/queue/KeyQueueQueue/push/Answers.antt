use Rattle.ix_least.proofs.Queues.{adds_from_push}
use Rattle.ix_least.proofs.queue.KeyQueueQueue.push.Goals as goal

pub returns : goal.returns
returns c = rw (← c.self.view_is) (adds_from_push _ _ _ c.in_ok-push.ensures.permutation)
