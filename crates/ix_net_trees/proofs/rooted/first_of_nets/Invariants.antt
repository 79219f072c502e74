use Rattle.std.proofs.Common.{ℕ}
use Rattle.ix_rec.specs.declared.phys.PhysNet.{PhysNet}
use Rattle.ix_legal.specs.Breaks.{AreKept}
use Rattle.ix_legal.specs.Trees.{HasSource, RootFits}
use Rattle.ix_net_trees.proofs.rooted.first_of_nets.Given as goal

abbrev pub invariant-loop-n : goal.invariant-loop-n
invariant-loop-n l = AreKept l.fn.known.phys.now (λ (n : ℕ) (net : PhysNet). HasSource net.ty net)
    (λ (n : ℕ) (net : PhysNet). RootFits l.fn.known.device.now l.fn.known.phys.now net) l.n
