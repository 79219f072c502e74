-- What is listed over the names that there are in the end.
use Rattle.std.proofs.Common.{◌≡◌, refl, sym, subst, List, codes}
use Rattle.ix_message.specs.Shape.{Text}
use Rattle.ix_rec.specs.declared.device.DeviceRec.{DeviceRec}
use Rattle.ix_rec.specs.declared.netlist.NetlistRec.{NetlistRec}
use Rattle.ix_strings.specs.Names.{AllDiffer, KeepsNumbers}
use Rattle.ix_hierarchy.specs.FlatDesign.{port_pin}
use Rattle.ix_hierarchy.specs.Hierarchy.{Path}
use Rattle.ix_joined.specs.declared.joined.Joined.{Joined}
use Rattle.ix_joined.specs.declared.top_bit.TopBit.{TopBit}
use Rattle.ix_joined.specs.declared.state.NetState.{NetState}
use Rattle.ix_joined.specs.Joining.{AreTopBits, IsJoined, Known}
use Rattle.ix_joined.specs.States.{AreNetStates, AreStates}
use Rattle.ix_flat_lists.specs.declared.port_names.PortNames.{PortNames}
use Rattle.ix_flat_lists.specs.Listed.{ArePortNames}
use Rattle.ix_flat_lists.specs.Naming.{IsNamed}
use Rattle.ix_join.specs.Asked.{AreAllJoined}
use Rattle.ix_names_grow.specs.Grown.{IsGrown}
use Rattle.ix_net_states.specs.Walking.{AreReady}
use Rattle.ix_flatten.specs.declared.listing.Listed.{Listed}
use Rattle.ix_flatten.specs.Stages.{AreListed}

pub types_keep : (old new : List Text) (types : PortNames) → KeepsNumbers old new
    → ArePortNames old types → ArePortNames new types
types_keep old new types keeps is = record {
  input = keeps types.input (codes "$PORT_IN") is.input;
  output = keeps types.output (codes "$PORT_OUT") is.output;
  pin = keeps types.pin port_pin is.pin;
}

abbrev pub as_known : List Text → DeviceRec → List Path → Known
as_known names device paths = record { names = names; device = device; paths = paths }

-- what is needed for the states of nets
pub ready : (names : List Text) (device : DeviceRec) (design : NetlistRec) (joined : Joined)
    (bits same : List TopBit) → (all : AreAllJoined names device design joined bits)
    → same ≡ bits
    → AreReady (as_known names device all.0) design joined device.constants same
ready names device design joined bits same all is = record {
  are = all.1;
  constants_are = refl;
  top = subst (λ bs. AreTopBits design joined.instances.items all.0 joined.firsts.items bs)
      (sym is) all.2;
}

-- the same over more names
pub grown : (old new : List Text) (device : DeviceRec) (design : NetlistRec) (joined : Joined)
    (bits : List TopBit) → IsGrown old new design → AllDiffer new
    → AreAllJoined old device design joined bits → AreAllJoined new device design joined bits
grown old new device design joined bits more differ all =
    (all.0, more.joined device all.0 joined all.1 differ, all.2)

pub all_listed : (names : List Text) (device : DeviceRec) (design : NetlistRec)
    (listed : Listed) (same : List TopBit) (states : List NetState)
    → AreAllJoined names device design listed.joined listed.bits.items
    → same ≡ listed.bits.items → states ≡ listed.states.items
    → ((known : Known) → AreReady known design listed.joined device.constants same
    → AreStates known design listed.joined listed.states.items)
    → ((known : Known) → AreReady known design listed.joined device.constants same
    → AreNetStates known design listed.joined listed.states.items)
    → ArePortNames names listed.types
    → ((known : Known) → known.names ≡ names → IsJoined known design listed.joined
    → AreNetStates known design listed.joined states
    → IsNamed known design listed.joined listed.named)
    → AreListed names device design listed
all_listed names device design listed same states all is states_are by_number by_net types named =
    let known = as_known names device all.0 in
    let given = ready names device design listed.joined listed.bits.items same all is in
    let nets = by_net known given in (
      all.0,
      record {
        joined_is = all.1;
        top = all.2;
        by_number = by_number known given;
        by_net = nets;
        types_are = types;
        named_is = named known refl all.1
            (subst (λ (ss : List NetState). AreNetStates known design listed.joined ss)
            (sym states_are) nets);
      },
    )
