-- What the lists of a design give, and its nets made of them.
use Rattle.std.proofs.Common.{◌≡◌, sym, subst, ◌∙◌, ℕ, List, length}
use Rattle.std.proofs.Common.{Option}
use Rattle.ix_rec.specs.declared.device.Constants.{Constants}
use Rattle.ix_rec.specs.declared.netlist.NetlistRec.{NetlistRec}
use Rattle.ix_hierarchy.specs.Walk.{NetAt}
use Rattle.ix_joined.specs.declared.joined.Joined.{Joined}
use Rattle.ix_joined.specs.declared.state.NetState.{NetState}
use Rattle.ix_joined.specs.declared.top_bit.TopBit.{TopBit}
use Rattle.ix_joined.specs.Joining.{AreTopBits, Known}
use Rattle.ix_flat_lists.specs.declared.named.Named.{Named}
use Rattle.ix_flat_lists.specs.declared.port_names.PortNames.{PortNames}
use Rattle.ix_flat_lists.specs.Listed.{AreLeaves, ArePortNames}
use Rattle.ix_flat_laws.specs.Laws.{AreApart}
use Rattle.ix_flat_pins.specs.Items.{AreItems, IsFlat, IsListed, Parts}
use Rattle.ix_pin_laws.specs.Laws.{PinsAreApart, PortCellsAreCounted}
use Rattle.ix_wiring.specs.declared.flat_pin.FlatPin.{FlatPin}
use Rattle.ix_wiring.specs.declared.wiring.Wiring.{Wiring}
use Rattle.ix_wiring.specs.Wired.{IsWired}
use Rattle.ix_flat_nets.specs.Nets.{AreFlatNets, IsReady}
use Rattle.ix_flat_nets.proofs.Cells.{AreListed}
use Rattle.ix_flat_nets.proofs.Made.{all_nets_are, all_pins_are, driver_is, many_nets, name_at}
use Rattle.ix_flat_nets.proofs.Made.{one_each, pins_are}

abbrev pub parts_of : (known : Known) (design : NetlistRec) (joined : Joined)
    (constants : Option Constants) (types : PortNames) (bits : List TopBit)
    (states : List NetState) (named : Named)
    → IsReady known design joined constants types bits states named → Parts
parts_of known design joined constants types bits states named ready =
    record { cells = ready.named_is.leaves; nets = ready.named_is.nets }

pub is_listed : (known : Known) (design : NetlistRec) (joined : Joined)
    (constants : Option Constants) (types : PortNames) (bits : List TopBit)
    (states : List NetState) (named : Named)
    → (ready : IsReady known design joined constants types bits states named)
    → IsListed known design joined constants states named.signals.items
    (parts_of known design joined constants types bits states named ready)
is_listed known design joined constants types bits states named ready = record {
  joined_is = ready.joined_is;
  constants_are = ready.constants_are;
  states_are = ready.states_are;
  signals_are = ready.named_is.are_nets;
  one_driver = λ at first two. ready.keeps.0.1 (NetAt at.path at.net) (first, two);
}

pub are_listed : (known : Known) (design : NetlistRec) (joined : Joined)
    (constants : Option Constants) (types : PortNames) (bits : List TopBit)
    (states : List NetState) (named : Named) (items : List FlatPin) → PortCellsAreCounted
    → PinsAreApart → (ready : IsReady known design joined constants types bits states named)
    → AreItems known design (parts_of known design joined constants types bits states named ready)
    (IsFlat design types bits ready.named_is.leaves named.ports (length named.leaves.items)) items
    → AreListed known design types bits
    (parts_of known design joined constants types bits states named ready) named.ports items
are_listed known design joined constants types bits states named items counted apart ready are =
    let parts = parts_of known design joined constants types bits states named ready in record {
      places = ready.bits_are.places;
      many = ready.bits_are.many;
      directions = λ k at bit x y. (ready.bits_are.each k at bit x y).dir_is;
      counted = counted known.names design;
      leaves = ready.named_is.are_leaves.are;
      signals = ready.named_is.are_nets.are;
      pins = subst (λ n. AreItems known design parts
          (IsFlat design types bits ready.named_is.leaves named.ports n) items)
          ready.named_is.are_leaves.many are;
      apart = subst (λ n. AreApart known.names design n ready.named_is.leaves)
          (sym ready.named_is.ports)
          (apart known.names known.device design ready.named_is.leaves ready.joined_is.keeps.0.0
          ready.named_is.are_leaves.are);
      driven = ready.keeps.1;
    }

pub flat_nets_are : (known : Known) (design : NetlistRec) (joined : Joined)
    (constants : Option Constants) (types : PortNames) (bits : List TopBit)
    (states : List NetState) (named : Named) (items : List FlatPin) (wiring : Wiring)
    → (ready : IsReady known design joined constants types bits states named)
    → AreListed known design types bits
    (parts_of known design joined constants types bits states named ready) named.ports items
    → IsWired named.net_names.items items wiring
    → AreFlatNets known design ready.named_is.leaves ready.named_is.nets named.ports wiring
flat_nets_are known design joined constants types bits states named items wiring ready are wired =
    let parts = parts_of known design joined constants types bits states named ready in
    let names = named.net_names.items in record {
      nets_count = many_nets names items wiring.nets.items wired.nets ∙ ready.named_is.many;
      net_names = λ n net at h there. ready.named_is.net_names n net.name at
          (name_at names items wiring.nets.items wired.nets n net h) there;
      drivers = driver_is known design types bits parts named.ports items are names
          wiring.nets.items wired.nets;
      pins = pins_are known design types bits parts named.ports items are wiring.pins wired.of;
      all_pins = all_pins_are known design types bits parts named.ports items are wiring.pins
          (wired.all (one_each known design types bits parts named.ports items are));
      all_nets = all_nets_are known design joined states ready.named_is.nets ready.joined_is
          ready.states_are ready.net_states_are ready.named_is.are_nets.are;
      apart = are.apart;
    }

-- what the pins that were listed give, where lists of numbers are those of the cells and the nets
pub listed_after : (known : Known) (design : NetlistRec) (joined : Joined)
    (constants : Option Constants) (types : PortNames) (bits : List TopBit)
    (states : List NetState) (named : Named) (items : List FlatPin) (leaves signals : List ℕ)
    → leaves ≡ named.leaves.items → signals ≡ named.signals.items → PortCellsAreCounted
    → PinsAreApart → (ready : IsReady known design joined constants types bits states named)
    → ((other : Known) (parts : Parts)
    → IsListed other design joined constants states signals parts
    → AreLeaves other design leaves parts.cells
    → AreTopBits design joined.instances.items other.paths joined.firsts.items bits
    → ArePortNames other.names types
    → AreItems other design parts
    (IsFlat design types bits parts.cells named.ports (length leaves)) items)
    → AreListed known design types bits
    (parts_of known design joined constants types bits states named ready) named.ports items
listed_after known design joined constants types bits states named items leaves signals its_leaves
    its_signals counted apart ready made =
    let parts = parts_of known design joined constants types bits states named ready in
    are_listed known design joined constants types bits states named items counted apart ready
    (subst (λ xs. AreItems known design parts
    (IsFlat design types bits ready.named_is.leaves named.ports (length xs)) items) its_leaves
    (made known parts
    (subst (λ xs. IsListed known design joined constants states xs parts) (sym its_signals)
    (is_listed known design joined constants types bits states named ready))
    (subst (λ xs. AreLeaves known design xs parts.cells) (sym its_leaves)
    ready.named_is.are_leaves)
    ready.bits_are ready.types_are))
