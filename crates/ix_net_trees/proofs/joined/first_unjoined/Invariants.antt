use Rattle.std.proofs.Common.{ℕ}
use Rattle.ix_rec.specs.declared.phys.PhysNet.{PhysNet}
use Rattle.ix_legal.specs.Breaks.{AreKept}
use Rattle.ix_legal.specs.Trees.{LeavesParent}
use Rattle.ix_net_trees.proofs.joined.first_unjoined.Given as goal

abbrev pub invariant-loop-n : goal.invariant-loop-n
invariant-loop-n l = AreKept l.fn.phys (λ (n : ℕ) (net : PhysNet). Unit {0})
    (λ (n : ℕ) (net : PhysNet). LeavesParent l.fn.device net) l.n
