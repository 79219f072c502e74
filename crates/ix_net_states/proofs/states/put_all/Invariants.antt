use Rattle.std.proofs.Common.{◌≡◌, length}
use Rattle.ix_joined.specs.Joining.{Known}
use Rattle.ix_net_states.specs.Least.{AreStatesOf}
use Rattle.ix_net_states.specs.Walking.{AreReady, IsDone}
use Rattle.ix_net_states.proofs.states.put_all.Given as goal

abbrev pub invariant-loop-instance : goal.invariant-loop-instance
invariant-loop-instance l = (length l.states ≡ length l.joined.firsts.items)
    × ((known : Known) → AreReady known l.rec l.joined l.constants l.bits
    → AreStatesOf known l.rec l.joined (λ _. ⊥) l.fn.states
    → AreStatesOf known l.rec l.joined (IsDone known l.instance) l.states)
