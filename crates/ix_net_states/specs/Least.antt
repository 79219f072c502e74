-- The first net that breaks a rule.
use Rattle.std.specs.Prelude.{◌≡◌, ◌&&◌, ℕ, List, slice_get, Bool, not, length, Some}
use Rattle.ix_rec.specs.declared.netlist.NetlistRec.{NetlistRec}
use Rattle.ix_hierarchy.specs.Nets.{Occurrence, spot_of}
use Rattle.ix_hierarchy.specs.Walk.{Spot, IsFirst}
use Rattle.ix_hierarchy.specs.Lists.{IsNumber}
use Rattle.ix_joined.specs.declared.joined.Joined.{Joined}
use Rattle.ix_joined.specs.declared.state.NetState.{NetState}
use Rattle.ix_joined.specs.Joining.{Known, IsPinOf}
use Rattle.ix_joined.specs.States.{IsState}
use Rattle.ix_hierarchy.specs.Pins.{Pin}

-- the net of this number is the first that breaks it
pub record IsFirstBroken (known : Known) (design : NetlistRec) (joined : Joined)
    (Breaks : Spot → Type 0) (net : ℕ) : Type 0 where
  pub at : Occurrence
  pub number_is : IsNumber design joined.instances.items known.paths at net
  pub first : IsFirst Breaks (spot_of at)

-- What private contracts need.

-- a net with a sink and no driver
abbrev pub is_undriven : NetState → Bool
is_undriven state = state.has_sink && not state.driven

-- the state of each number, for some of the pins
pub record AreStatesOf (known : Known) (design : NetlistRec) (joined : Joined)
    (Done : Pin → Type 0) (states : List NetState) : Type 0 where
  pub many : length states ≡ length joined.firsts.items
  pub each : (net : ℕ) (state : NetState) → slice_get states net ≡ Some state
      → IsState known.names known.device design (λ pin. Done pin
      × IsPinOf design joined.instances.items known.paths joined.firsts.items pin net) state
