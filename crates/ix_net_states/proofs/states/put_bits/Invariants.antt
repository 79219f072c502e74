use Rattle.std.proofs.Common.{◌≡◌, length}
use Rattle.ix_joined.specs.Joining.{Known}
use Rattle.ix_net_states.specs.Least.{AreStatesOf}
use Rattle.ix_net_states.specs.Walking.{AreReady, IsTopDone}
use Rattle.ix_net_states.proofs.states.put_bits.Given as goal

abbrev pub invariant-loop-k : goal.invariant-loop-k
invariant-loop-k l = (length l.states ≡ length l.joined.firsts.items)
    × ((known : Known) → AreReady known l.rec l.joined l.constants l.bits
    → AreStatesOf known l.rec l.joined (λ _. ⊥) l.initial.states
    → AreStatesOf known l.rec l.joined (IsTopDone l.rec l.k) l.states)
