use Rattle.ix_joined.specs.Joining.{Known}
use Rattle.ix_flat_rules.specs.Givens.{AreInputsKnown}
use Rattle.ix_flat_rules.proofs.AllInputs.{AreJoinedTo}
use Rattle.ix_flat_rules.proofs.inputs.ask_inputs.Given as goal

abbrev pub invariant-loop-k : goal.invariant-loop-k
invariant-loop-k l = (known : Known)
    → (is : AreInputsKnown known l.names l.rec l.device l.luts l.joined l.states l.leaves)
    → AreJoinedTo known l.rec is.cells l.k
