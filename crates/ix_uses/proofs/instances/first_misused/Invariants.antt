use Rattle.std.proofs.Common.{length}
use Rattle.ix_uses.specs.Fitting.{AreUsed}
use Rattle.ix_uses.proofs.instances.first_misused.Given as goal

abbrev pub invariant-loop-i : goal.invariant-loop-i
invariant-loop-i l = AreUsed l.device l.instances (length l.fn.sites) l.i l.sites
