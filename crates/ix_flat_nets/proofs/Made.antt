-- The fields of the flat design that speak of its nets and its pins.
use Rattle.std.proofs.Common.{◌≡◌, ◌<◌, ap, refl, sym, subst, ◌∙◌, ℕ, List, [], slice_get, Option}
use Rattle.std.proofs.Common.{Some, None, arith, length, get_or}
use Rattle.std.specs.FinMap.{FinMap, get}
use Rattle.std.proofs.lemmas.List.{length-map}
use Rattle.std.proofs.lemmas.Option.{same_Some, slice_get-map, slice_get-get_or, slice_get_within}
use Rattle.ix_message.specs.Shape.{Text}
use Rattle.ix_num.specs.declared.resource.Constant.{Constant}
use Rattle.ix_num.specs.declared.resource.Constant.TheVariants as constants
use Rattle.ix_num.specs.declared.resource.NetRef.{NetRef}
use Rattle.ix_num.specs.declared.resource.NetRef.TheVariants as nets
use Rattle.ix_rec.specs.Maps.{pin_order}
use Rattle.ix_rec.specs.declared.flow.CellPin.{CellPin}
use Rattle.ix_rec.specs.declared.flow.FlatNet.{FlatNet}
use Rattle.ix_rec.specs.declared.netlist.NetlistRec.{NetlistRec}
use Rattle.ix_hierarchy.specs.Walk.{NetAt}
use Rattle.ix_hierarchy.specs.Nets.{Occurrence, AreOneNet, IsFirstOf}
use Rattle.ix_hierarchy.specs.Pins.{Pin, IsDriver, IsOnNet, HasSink}
use Rattle.ix_hierarchy.specs.FlatDesign.{AreSignals, IsDriverOf, IsOfNet, IsPinOnNet}
use Rattle.ix_hierarchy.specs.FlatDesign.{IsSignal}
use Rattle.ix_hierarchy.specs.Lists.{IsNumber}
use Rattle.ix_joined.specs.declared.joined.Joined.{Joined}
use Rattle.ix_joined.specs.declared.state.NetState.{NetState}
use Rattle.ix_joined.specs.declared.top_bit.TopBit.{TopBit}
use Rattle.ix_joined.specs.Joining.{IsJoined, Known}
use Rattle.ix_joined.specs.States.{AreNetStates, AreStates, IsConstantOf}
use Rattle.ix_flat_lists.specs.declared.port_names.PortNames.{PortNames}
use Rattle.ix_flat_pins.specs.Items.{OfNet, Parts}
use Rattle.ix_wiring.specs.declared.flat_pin.FlatPin.{FlatPin}
use Rattle.ix_wiring.specs.Wired.{AreDriven, AreIn, AreOf, AreOneEach, IsNetIn, NetsFit}
use Rattle.ix_flat_nets.proofs.Cells.{AreListed, FlatNamed, flat_is, has_cell, is_flat_pin}
use Rattle.ix_flat_nets.proofs.Cells.{named_of, one_text}
use Rattle.ix_flat_nets.proofs.Chains.{constant_moved, joined_back, joined_on, occurs_of, on_moved}
use Rattle.ix_flat_nets.proofs.Chains.{sink_moved}

-- the pin that the map has is on this net
pub pins_are : (known : Known) (design : NetlistRec) (types : PortNames) (bits : List TopBit)
    (parts : Parts) (ports : ℕ) (items : List FlatPin)
    → AreListed known design types bits parts ports items → (nets_of : FinMap pin_order NetRef)
    → AreOf items nets_of → (cell pin : ℕ) (net : NetRef) → get nets_of (cell, pin) ≡ Some net
    → (text : Text) × (slice_get known.names pin ≡ Some text)
    × IsPinOnNet known.device known.names design parts.cells parts.nets ports cell text net
pins_are known design types bits parts ports items are nets_of of cell pin net h =
    let x = of cell pin net h in
    let one = are.pins.each x.0 x.1 x.2 in
    let item = one.3 in
    let cells : one.1 ≡ cell = sym item.cell_is ∙ x.3 in (
      item.text,
      ap (slice_get known.names) (sym x.4) ∙ item.name_is,
      record {
        pin = one.0;
        is = subst (λ c. FlatNamed known design parts ports one.0 c item.text) cells
            (is_flat_pin known design types bits parts ports items are one.0 one.1 item.text one.2
            item.named);
        at = item.at;
        on = item.on;
        of_net = subst (OfNet known design parts item.at) x.5 item.of_net;
      },
    )

-- items of one cell and one name are on one net
pub one_each : (known : Known) (design : NetlistRec) (types : PortNames) (bits : List TopBit)
    (parts : Parts) (ports : ℕ) (items : List FlatPin)
    → AreListed known design types bits parts ports items → AreOneEach items
one_each known design types bits parts ports items are j k a b x y cells pins =
    let p = are.pins.each j a x in
    let q = are.pins.each k b y in
    let texts : q.3.text ≡ p.3.text = same_Some q.3.text p.3.text
    (sym q.3.name_is ∙ ap (slice_get known.names) (sym pins) ∙ p.3.name_is) in
    let cell : q.1 ≡ p.1 = sym q.3.cell_is ∙ sym cells ∙ p.3.cell_is in
    let first : FlatNamed known design parts ports p.0 p.1 p.3.text =
    is_flat_pin known design types bits parts ports items are p.0 p.1 p.3.text p.2 p.3.named in
    let second : FlatNamed known design parts ports q.0 q.1 q.3.text =
    is_flat_pin known design types bits parts ports items are q.0 q.1 q.3.text q.2 q.3.named in
    let moved : FlatNamed known design parts ports q.0 p.1 p.3.text =
    subst (λ t. FlatNamed known design parts ports q.0 p.1 t) texts
    (subst (λ c. FlatNamed known design parts ports q.0 c q.3.text) cell second) in
    let one : p.0 ≡ q.0 =
    are.apart p.0 q.0 p.1 p.3.text p.3.at q.3.at first moved p.3.on q.3.on in
    p.3.only q.3.at b.net (subst (λ pin. IsOnNet design pin q.3.at) (sym one) q.3.on) q.3.of_net

-- each pin that is on a net is in the map
pub all_pins_are : (known : Known) (design : NetlistRec) (types : PortNames) (bits : List TopBit)
    (parts : Parts) (ports : ℕ) (items : List FlatPin)
    → AreListed known design types bits parts ports items → (nets_of : FinMap pin_order NetRef)
    → AreIn items nets_of → (cell : ℕ) (text : Text) (net : NetRef)
    → IsPinOnNet known.device known.names design parts.cells parts.nets ports cell text net
    → (pin : ℕ) × (slice_get known.names pin ≡ Some text) × (get nets_of (cell, pin) ≡ Some net)
all_pins_are known design types bits parts ports items are nets_of in_map cell text net on =
    let flat = flat_is known design types bits parts ports items are on.pin cell text on.is in
    let named = named_of known design parts ports on.pin cell text on.is in
    let x = are.pins.all on.pin cell on.at net flat on.on on.of_net in
    let item = x.3 in
    let texts : item.text ≡ text =
    one_text known design on.pin item.text text item.named named in
    let nets_same : x.1.net ≡ net = item.only on.at net on.on on.of_net in (
      x.1.pin,
      item.name_is ∙ ap Some texts,
      ap (λ c. get nets_of (c, x.1.pin)) (sym item.cell_is) ∙ in_map x.0 x.1 x.2
          ∙ ap Some nets_same,
    )

-- A signal net's driver is that of the list, and one is there.
pub driver_is : (known : Known) (design : NetlistRec) (types : PortNames) (bits : List TopBit)
    (parts : Parts) (ports : ℕ) (items : List FlatPin)
    → AreListed known design types bits parts ports items → (names : List ℕ)
    (flat_nets : List FlatNet) → AreDriven names items flat_nets → (n : ℕ) (net : FlatNet)
    (at : Occurrence) → slice_get flat_nets n ≡ Some net → slice_get parts.nets n ≡ Some at
    → (driver : CellPin) × (net.driver ≡ Some driver)
    × IsDriverOf known.device known.names design parts.cells ports at driver
driver_is known design types bits parts ports items are names flat_nets driven n net at h there =
    by net.driver refl
  where
    at_driver : (driver : CellPin) → net.driver ≡ Some driver
        → IsDriverOf known.device known.names design parts.cells ports at driver
    at_driver driver e =
        let d = driven.drivers n net driver h e in
        let x = are.pins.each d.0 d.1 d.2 in
        let item = x.3 in
        let of_net : OfNet known design parts item.at (nets.Signal n) =
        subst (OfNet known design parts item.at) d.5 item.of_net in
        let same : of_net.0 ≡ at = same_Some of_net.0 at (sym of_net.1 ∙ there) in
        let one : AreOneNet design at item.at =
        subst (λ o. AreOneNet design o item.at) same of_net.2 in
        let cells : x.1 ≡ driver.cell = sym item.cell_is ∙ d.3 in
        record {
          pin = x.0;
          drives = item.drives.0 d.6;
          on = on_moved design x.0 at item.at one item.on;
          text = item.text;
          is = subst (λ c. FlatNamed known design parts ports x.0 c item.text) cells
              (is_flat_pin known design types bits parts ports items are x.0 x.1 item.text x.2
              item.named);
          named = ap (slice_get known.names) (sym d.4) ∙ item.name_is;
        }

    none_drives : net.driver ≡ None → (pin : Pin)
        → IsDriver known.names known.device design pin → IsOnNet design pin at → ⊥
    none_drives e pin drives on =
        let signal = are.signals.each n at there in
        let cell = has_cell known design types bits parts ports items are pin at signal drives on in
        let of_net : OfNet known design parts at (nets.Signal n) = (at, there, ([], refl)) in
        let x = are.pins.all pin cell.0 at (nets.Signal n) cell.1 on of_net in
        let item = x.3 in
        let same : x.1.net ≡ nets.Signal n = item.only at (nets.Signal n) on of_net in
        driven.driven n x.0 net x.1 h x.2 same (item.drives.1 drives) e

    by : (o : Option CellPin) → net.driver ≡ o → (driver : CellPin) × (net.driver ≡ Some driver)
        × IsDriverOf known.device known.names design parts.cells ports at driver
    by (Some driver) e = (driver, e, at_driver driver e)
    by None e =
        let signal = are.signals.each n at there in
        absurd (are.driven (NetAt at.path at.net)
        (signal.first, signal.has_sink, none_drives e))

-- the names and the number of nets
pub name_at : (names : List ℕ) (items : List FlatPin) (flat_nets : List FlatNet)
    → AreDriven names items flat_nets → (n : ℕ) (net : FlatNet)
    → slice_get flat_nets n ≡ Some net → slice_get names n ≡ Some net.name
name_at names items flat_nets driven n net h =
    ap (λ xs. slice_get xs n) (sym driven.names_are)
    ∙ slice_get-map (λ (x : FlatNet). x.name) flat_nets n
    ∙ ap (λ o. Rattle.std.specs.Prelude.option_map (λ (x : FlatNet). x.name) o) h

pub many_nets : (names : List ℕ) (items : List FlatPin) (flat_nets : List FlatNet)
    → AreDriven names items flat_nets → length flat_nets ≡ length names
many_nets names items flat_nets driven =
    sym (length-map flat_nets (λ (x : FlatNet). x.name)) ∙ ap length driven.names_are

-- nets of items are among the signal nets
pub nets_fit : (known : Known) (design : NetlistRec) (types : PortNames) (bits : List TopBit)
    (parts : Parts) (ports : ℕ) (items : List FlatPin)
    → AreListed known design types bits parts ports items → (count : ℕ)
    → count ≡ length parts.nets → NetsFit count items
nets_fit known design types bits parts ports items are count many k one h =
    let x = are.pins.each k one h in by one.net x.3.of_net
  where
    by : (net : NetRef) → OfNet known design parts (are.pins.each k one h).3.at net
        → IsNetIn count net
    by nets.Gnd of_net = tt
    by nets.Vcc of_net = tt
    by (nets.Signal n) of_net =
        let low : n < length parts.nets = slice_get_within parts.nets n of_net.0 of_net.1 in
        omega arith

-- the state of a number is there
state_there : (known : Known) (design : NetlistRec) (joined : Joined) (states : List NetState)
    (at : Occurrence) (net : ℕ) → IsJoined known design joined
    → AreStates known design joined states
    → IsNumber design joined.instances.items known.paths at net
    → (state : NetState) × (slice_get states net ≡ Some state)
state_there known design joined states at net are is number =
    let less : net < length joined.firsts.items = are.numbered.below at net number in
    let many : length states ≡ length joined.firsts.items = is.many in
    let none : NetState = Rattle.ix_joined.specs.Roles.nothing in
    (get_or states net none, slice_get-get_or states net none (omega arith))

-- Each net with a sink is one of the flat design.
pub all_nets_are : (known : Known) (design : NetlistRec) (joined : Joined)
    (states : List NetState) (signals : List Occurrence) → IsJoined known design joined
    → AreStates known design joined states → AreNetStates known design joined states
    → AreSignals known.names known.device design signals → (at : Occurrence)
    → HasSink known.device design at
    → (net : NetRef) × IsOfNet known.names known.device design signals at net
all_nets_are known design joined states signals are states_are net_states signals_are at has =
    by state.0.constant is.constant
  where
    where_at : Occurrence
    where_at = has.2.where_at

    there : (number : ℕ) × IsNumber design joined.instances.items known.paths where_at number
    there =
        let o = occurs_of design has.0 where_at has.2.on in
        are.numbered.some where_at o.0 o.1 o.2

    f : (first : Occurrence) × (least : ℕ)
        × (slice_get joined.firsts.items there.0 ≡ Some least)
        × IsNumber design joined.instances.items known.paths first least
        × AreOneNet design first where_at × IsFirstOf design first
    f = are.are_firsts.each where_at there.0 there.1

    one : AreOneNet design f.0 at
    one = joined_on design f.0 where_at at f.4 (joined_back design at where_at has.2.one_net)

    sink : HasSink known.device design f.0
    sink = sink_moved known.device design f.0 at one has

    state : (s : NetState) × (slice_get states f.1 ≡ Some s)
    state = state_there known design joined states f.0 f.1 are states_are f.3

    is : Rattle.ix_joined.specs.States.IsNetState known.names known.device design f.0 state.0
    is = net_states.first f.0 f.1 state.0 f.3 f.5 state.1

    by : (o : Option Constant)
        → IsConstantOf known.names known.device design (λ pin. IsOnNet design pin f.0) o
        → (net : NetRef) × IsOfNet known.names known.device design signals at net
    by None none =
        let signal : IsSignal known.names known.device design f.0 = record {
          first = f.5;
          has_sink = sink;
          no_constant = λ constant c. none constant c.path c.bit c.drives c.on;
        } in
        let n = signals_are.all f.0 signal in
        (nets.Signal n.0, (f.0, n.1, one))
    by (Some constants.Gnd) own = (
      nets.Gnd,
      (
        has,
        constant_moved known.names known.device design constants.Gnd at f.0
            (joined_back design f.0 at one)
            record { path = own.0; bit = own.1; drives = own.2; on = own.3 },
      ),
    )
    by (Some constants.Vcc) own = (
      nets.Vcc,
      (
        has,
        constant_moved known.names known.device design constants.Vcc at f.0
            (joined_back design f.0 at one)
            record { path = own.0; bit = own.1; drives = own.2; on = own.3 },
      ),
    )
