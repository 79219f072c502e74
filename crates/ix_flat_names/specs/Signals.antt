-- The signal nets among the first numbers.
use Rattle.std.specs.Prelude.{◌≡◌, ◌<◌, ◌&&◌, ℕ, List, slice_get, Some, Bool, nat_eq}
use Rattle.std.specs.Prelude.{slice_index, slice_index_or, is_none}
use Rattle.ix_rec.specs.declared.netlist.NetlistRec.{NetlistRec}
use Rattle.ix_hierarchy.specs.Nets.{Occurrence}
use Rattle.ix_hierarchy.specs.FlatDesign.{IsSignal}
use Rattle.ix_hierarchy.specs.Lists.{IsNumber}
use Rattle.ix_joined.specs.declared.joined.Joined.{Joined}
use Rattle.ix_joined.specs.declared.state.NetState.{NetState}
use Rattle.ix_joined.specs.Roles.{nothing}
use Rattle.ix_joined.specs.Joining.{Known}

-- they rise, and each is one
pub record AreSignalsTo (known : Known) (design : NetlistRec) (joined : Joined) (count : ℕ)
    (signals : List ℕ) : Type 0 where
  pub each : (n number : ℕ) → slice_get signals n ≡ Some number → (number < count)
      × ((at : Occurrence) × IsNumber design joined.instances.items known.paths at number
      × IsSignal known.names known.device design at)
  pub rise : (m n a b : ℕ) → m < n → slice_get signals m ≡ Some a → slice_get signals n ≡ Some b
      → a < b
  pub all : (number : ℕ) (at : Occurrence) → number < count
      → IsNumber design joined.instances.items known.paths at number
      → IsSignal known.names known.device design at → (n : ℕ) × (slice_get signals n ≡ Some number)

-- the number is that of a first occurrence, of a net with a sink and no constant
abbrev pub is_first_signal : (firsts : List ℕ) → (states : List NetState) → ℕ → Bool
is_first_signal firsts states net = nat_eq (slice_index firsts net) net
    && ((slice_index_or states net nothing).has_sink
    && is_none (slice_index_or states net nothing).constant)
