use Rattle.ix_extract.specs.Taken.{AreSignals}
use Rattle.ix_extract.proofs.signals.signal_nets.Given as goal

abbrev pub invariant-loop-n : goal.invariant-loop-n
invariant-loop-n l = AreSignals l.phys.nets l.n l.nets l.ranks.items
