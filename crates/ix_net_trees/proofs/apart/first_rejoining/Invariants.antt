use Rattle.std.proofs.Common.{ℕ}
use Rattle.ix_rec.specs.declared.phys.PhysNet.{PhysNet}
use Rattle.ix_legal.specs.Breaks.{AreKept}
use Rattle.ix_legal.specs.Trees.{EntersAlone}
use Rattle.ix_net_trees.specs.Met.{IsUnmet}
use Rattle.ix_net_trees.proofs.apart.first_rejoining.Given as goal

abbrev pub invariant-loop-n : goal.invariant-loop-n
invariant-loop-n l = record {
  unmet : IsUnmet l.fn.ends.count l.n l.met;
  kept : AreKept l.fn.phys (λ (n : ℕ) (net : PhysNet). Unit {0})
      (λ (n : ℕ) (net : PhysNet). EntersAlone l.fn.device net) l.n;
}
