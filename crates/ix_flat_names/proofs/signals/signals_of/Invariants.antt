use Rattle.std.proofs.Common.{◌≡◌}
use Rattle.ix_rec.specs.declared.netlist.NetlistRec.{NetlistRec}
use Rattle.ix_joined.specs.declared.joined.Joined.{Joined}
use Rattle.ix_joined.specs.Joining.{Known, IsJoined}
use Rattle.ix_joined.specs.States.{AreNetStates}
use Rattle.ix_flat_names.specs.Signals.{AreSignalsTo}
use Rattle.ix_flat_names.proofs.signals.signals_of.Given as goal

abbrev pub invariant-loop-net : goal.invariant-loop-net
invariant-loop-net l = (known : Known) (design : NetlistRec) (joined : Joined)
    → IsJoined known design joined → joined.firsts.items ≡ l.firsts
    → AreNetStates known design joined l.states
    → AreSignalsTo known design joined l.net l.signals.items
