use Rattle.std.proofs.Common.{take}
use Rattle.ix_graph.specs.Tables.{AreForward, AreBackward}
use Rattle.ix_graph.proofs.pips.first_pips.Given as goal

abbrev pub invariant-loop-i : goal.invariant-loop-i
invariant-loop-i l = record { forward : AreForward (take l.i l.types) l.forward; backward : AreBackward (take l.i l.types) l.backward }
