-- The nets of a flat design: their names and drivers, and the pins that are on them.
use Rattle.std.specs.Prelude.{◌≡◌, ℕ, List, length, slice_get, Option, Some}
use Rattle.std.specs.FinMap.{get}
use Rattle.ix_num.specs.declared.resource.NetRef.{NetRef}
use Rattle.ix_message.specs.Shape.{Text}
use Rattle.ix_rec.specs.declared.device.Constants.{Constants}
use Rattle.ix_rec.specs.declared.flow.CellPin.{CellPin}
use Rattle.ix_rec.specs.declared.flow.FlatNet.{FlatNet}
use Rattle.ix_rec.specs.declared.netlist.NetlistRec.{NetlistRec}
use Rattle.ix_hierarchy.specs.Nets.{Occurrence}
use Rattle.ix_hierarchy.specs.Pins.{HasSink}
use Rattle.ix_hierarchy.specs.Broken.{Keeps4}
use Rattle.ix_hierarchy.specs.FlatDesign.{IsDriverOf, IsNetText, IsOfNet, IsPinOnNet, LeafCell}
use Rattle.ix_joined.specs.declared.joined.Joined.{Joined}
use Rattle.ix_joined.specs.declared.state.NetState.{NetState}
use Rattle.ix_joined.specs.declared.top_bit.TopBit.{TopBit}
use Rattle.ix_joined.specs.Joining.{AreTopBits, IsJoined, Known}
use Rattle.ix_joined.specs.States.{AreNetStates, AreStates}
use Rattle.ix_flat_lists.specs.declared.named.Named.{Named}
use Rattle.ix_flat_lists.specs.declared.port_names.PortNames.{PortNames}
use Rattle.ix_flat_lists.specs.Listed.{ArePortNames}
use Rattle.ix_flat_lists.specs.Naming.{IsNamed}
use Rattle.ix_flat_laws.specs.Laws.{AreApart}
use Rattle.ix_wiring.specs.declared.wiring.Wiring.{Wiring}

-- what is known of a design before its nets are made
pub record IsReady (known : Known) (design : NetlistRec) (joined : Joined)
    (constants : Option Constants) (types : PortNames) (bits : List TopBit)
    (states : List NetState) (named : Named) : Type 0 where
  pub joined_is : IsJoined known design joined
  pub keeps : Keeps4 known.names known.device design
  pub constants_are : constants ≡ known.device.constants
  pub types_are : ArePortNames known.names types
  pub bits_are : AreTopBits design joined.instances.items known.paths joined.firsts.items bits
  pub states_are : AreStates known design joined states
  pub net_states_are : AreNetStates known design joined states
  pub named_is : IsNamed known design joined named

-- The signal nets and the pins of the flat design that has these leaves and these signal nets, and
-- so many port cells.
pub record AreFlatNets (known : Known) (design : NetlistRec) (leaves : List LeafCell)
    (signals : List Occurrence) (ports : ℕ) (wiring : Wiring) : Type 0 where
  pub nets_count : length wiring.nets.items ≡ length signals
  pub net_names : (n : ℕ) (net : FlatNet) (at : Occurrence)
      → slice_get wiring.nets.items n ≡ Some net → slice_get signals n ≡ Some at
      → (text : Text) × (slice_get known.names net.name ≡ Some text)
      × IsNetText known.names design at text
  pub drivers : (n : ℕ) (net : FlatNet) (at : Occurrence)
      → slice_get wiring.nets.items n ≡ Some net → slice_get signals n ≡ Some at
      → (driver : CellPin) × (net.driver ≡ Some driver)
      × IsDriverOf known.device known.names design leaves ports at driver
  pub pins : (cell pin : ℕ) (net : NetRef) → get wiring.pins (cell, pin) ≡ Some net
      → (text : Text) × (slice_get known.names pin ≡ Some text)
      × IsPinOnNet known.device known.names design leaves signals ports cell text net
  pub all_pins : (cell : ℕ) (text : Text) (net : NetRef)
      → IsPinOnNet known.device known.names design leaves signals ports cell text net
      → (pin : ℕ) × (slice_get known.names pin ≡ Some text)
      × (get wiring.pins (cell, pin) ≡ Some net)
  pub all_nets : (at : Occurrence) → HasSink known.device design at
      → (net : NetRef) × IsOfNet known.names known.device design signals at net
  pub apart : AreApart known.names design ports leaves
