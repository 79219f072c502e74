use Rattle.ix_rec.proofs.ForestLemmas.{IsPreorder-push}
use Rattle.ix_rec.proofs.forest.Forest.push.Goals as goal

pub invariant_of-self-2 : goal.invariant_of-self-2
invariant_of-self-2 g c = rw c.in_ok-push.ensures.items (IsPreorder-push c.self.inside.branches.items _ c.self.invariant (rw c.self.view_is c.requires))

pub returns-clause-preorder : goal.returns-clause-preorder
returns-clause-preorder g c = rw c.in_ok-push.ensures.items (IsPreorder-push c.self.inside.branches.items _ c.self.invariant (rw c.self.view_is c.requires))
