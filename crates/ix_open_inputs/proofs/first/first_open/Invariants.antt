use Rattle.ix_open_inputs.specs.Places.{IsBest}
use Rattle.ix_open_inputs.proofs.first.first_open.Given as goal

abbrev pub invariant-loop-input : goal.invariant-loop-input
invariant-loop-input l = IsBest l.names l.rec l.ports l.pins l.unjoined l.input l.best
