use Rattle.ix_rec.specs.declared.phys.Phys.{Phys}
use Rattle.ix_uses.specs.Uses.{AreUses}
use Rattle.ix_net_uses.specs.Firsts.{AllInUse}
use Rattle.ix_net_uses.proofs.in_use.first_outside.Given as goal

abbrev pub invariant-loop-number : goal.invariant-loop-number
invariant-loop-number l = (phys : Phys) → AreUses phys l.uses → AllInUse phys l.net l.number
