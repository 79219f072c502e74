-- What is known of nets, by the numbers of their first occurrences.
use Rattle.std.specs.Prelude.{◌≡◌, ◌≢◌, ◌↔◌, ℕ, List, length, slice_get, Option, Some, None, IsTrue}
use Rattle.ix_num.specs.declared.resource.Constant.{Constant}
use Rattle.ix_message.specs.Shape.{Text}
use Rattle.ix_rec.specs.declared.device.DeviceRec.{DeviceRec}
use Rattle.ix_rec.specs.declared.netlist.NetlistRec.{NetlistRec}
use Rattle.ix_hierarchy.specs.Hierarchy.{Path, PortBit}
use Rattle.ix_hierarchy.specs.Nets.{Occurrence, IsFirstOf}
use Rattle.ix_hierarchy.specs.Pins.{Pin, LeafPin, IsDriver, IsSink, IsConstantPin}
use Rattle.ix_hierarchy.specs.Pins.{HasSink, IsOnNet}
use Rattle.ix_hierarchy.specs.Broken.{HasTwoDrivers}
use Rattle.ix_hierarchy.specs.Lists.{IsNumber}
use Rattle.ix_joined.specs.declared.joined.Joined.{Joined}
use Rattle.ix_joined.specs.declared.state.NetState.{NetState}
use Rattle.ix_joined.specs.Joining.{Known, IsPinOf}

-- the constant of a net: of a constant pin that is on it; none exactly where none is
abbrev pub IsConstantOf : List Text → DeviceRec → NetlistRec → (On : Pin → Type 0)
    → Option Constant → Type 0
IsConstantOf names rec design On None = (constant : Constant) (path : Path) (bit : PortBit)
    → IsConstantPin names rec design constant path bit → On (LeafPin path bit) → ⊥
IsConstantOf names rec design On (Some constant) = (path : Path) × (bit : PortBit)
    × IsConstantPin names rec design constant path bit × On (LeafPin path bit)

-- a net that has these pins is in this state
pub record IsState (names : List Text) (rec : DeviceRec) (design : NetlistRec)
    (On : Pin → Type 0) (state : NetState) : Type 0 where
  pub driven : IsTrue state.driven
      ↔ ((pin : Pin) × IsDriver names rec design pin × On pin)
  pub driven_twice : IsTrue state.driven_twice
      ↔ ((one : Pin) × (other : Pin) × (one ≢ other) × IsDriver names rec design one
      × IsDriver names rec design other × On one × On other)
  pub has_sink : IsTrue state.has_sink ↔ ((pin : Pin) × IsSink rec design pin × On pin)
  pub constant : IsConstantOf names rec design On state.constant

-- the state of each number: those that aren't first ones have no pins
pub record AreStates (known : Known) (design : NetlistRec) (joined : Joined)
    (states : List NetState) : Type 0 where
  pub many : length states ≡ length joined.firsts.items
  pub each : (net : ℕ) (state : NetState) → slice_get states net ≡ Some state
      → IsState known.names known.device design (λ pin. IsPinOf design joined.instances.items
      known.paths joined.firsts.items pin net) state

-- the state of a first occurrence, by the net that is its
pub record IsNetState (names : List Text) (rec : DeviceRec) (design : NetlistRec)
    (at : Occurrence) (state : NetState) : Type 0 where
  pub driven : IsTrue state.driven
      ↔ ((pin : Pin) × IsDriver names rec design pin × IsOnNet design pin at)
  pub driven_twice : IsTrue state.driven_twice ↔ HasTwoDrivers names rec design at
  pub has_sink : IsTrue state.has_sink ↔ HasSink rec design at
  pub constant : IsConstantOf names rec design (λ pin. IsOnNet design pin at) state.constant

-- what states say of nets: of first occurrences all, of others nothing
pub record AreNetStates (known : Known) (design : NetlistRec) (joined : Joined)
    (states : List NetState) : Type 0 where
  pub first : (at : Occurrence) (net : ℕ) (state : NetState)
      → IsNumber design joined.instances.items known.paths at net → IsFirstOf design at
      → slice_get states net ≡ Some state
      → IsNetState known.names known.device design at state
  pub driven_first : (net : ℕ) (state : NetState) → slice_get states net ≡ Some state
      → IsTrue state.driven → slice_get joined.firsts.items net ≡ Some net
  pub sink_first : (net : ℕ) (state : NetState) → slice_get states net ≡ Some state
      → IsTrue state.has_sink → slice_get joined.firsts.items net ≡ Some net
