use Rattle.ix_device_rules.proofs.LoopFacts.{Counted}
use Rattle.ix_device_rules.proofs.tiles_are_few.tiles_fit.Given as goal

abbrev pub invariant-loop-i : goal.invariant-loop-i
invariant-loop-i l =
    Counted l.rec l.i l.fn.walk l.walk l.wires l.pips
