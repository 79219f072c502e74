use Rattle.ix_wiring.proofs.Partly.{Partly}
use Rattle.ix_wiring.proofs.wiring.wired.Given as goal

abbrev pub invariant-loop-i : goal.invariant-loop-i
invariant-loop-i l = Partly l.net_names l.pins l.i l.map l.nets.items
