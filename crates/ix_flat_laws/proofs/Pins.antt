-- The pins of a flat design.
use Rattle.std.proofs.Common.{◌≡◌, ◌+◌, ◌∙◌, ap, sym, subst, refl, ℕ, List, []}
use Rattle.std.proofs.Common.{slice_get, Option, Some, None, option_map}
use Rattle.std.proofs.Common.{inl, inr}
use Rattle.std.specs.Prelude.{codes}
use Rattle.std.specs.FinMap.{get}
use Rattle.std.proofs.lemmas.Option.{same_Some, none-some}
use Rattle.ix_num.specs.declared.resource.NetRef.TheVariants.{Signal}
use Rattle.ix_message.specs.Shape.{Text}
use Rattle.ix_strings.specs.Names.{AllDiffer}
use Rattle.ix_rec.specs.declared.device.DeviceRec.{DeviceRec}
use Rattle.ix_rec.specs.declared.device.Direction.{Direction}
use Rattle.ix_rec.specs.declared.device.Direction.TheVariants.{Input, Output, Inout}
use Rattle.ix_rec.specs.declared.flow.CellPin.{CellPin}
use Rattle.ix_rec.specs.declared.flow.Flat.{Flat}
use Rattle.ix_rec.specs.declared.flow.FlatNet.{FlatNet}
use Rattle.ix_rec.specs.declared.netlist.CellInstance.{CellInstance}
use Rattle.ix_rec.specs.declared.netlist.NetlistRec.{NetlistRec}
use Rattle.ix_rec.specs.declared.netlist.Port.{Port}
use Rattle.ix_flat.specs.Whole.{IsDriven}
use Rattle.ix_hierarchy.specs.Hierarchy.{Path, PortBit, written, written_bit, instance_at}
use Rattle.ix_hierarchy.specs.Nets.{Occurrence}
use Rattle.ix_hierarchy.specs.Pins.{Pin, LeafPin, TopPin, IsDriver, IsSink, direction_of}
use Rattle.ix_hierarchy.specs.Pins.{constant_of_type, type_of}
use Rattle.ix_hierarchy.specs.FlatDesign.{AreLeafCells, IsDriverOf, IsFlatOf, IsFlatPin}
use Rattle.ix_hierarchy.specs.FlatDesign.{IsSignal, LeafCell, cells_before, port_pin, port_type}
use Rattle.ix_flat_laws.specs.Laws.{AreApart}
use Rattle.ix_flat_laws.proofs.Nets.{item_at}

input_output : Input ≡ Output → ⊥
input_output same = tell (subst is_input same tt)
  where
    is_input : Direction → Type 0
    is_input Input = Unit {0}
    is_input Output = ⊥
    is_input Inout = ⊥

    tell : is_input Output → ⊥
    tell h = h

-- two leaves at one path are one
same_inst : (design : NetlistRec) (path : Path) (a b : CellInstance)
    → instance_at design path ≡ Some a → instance_at design path ≡ Some b → a ≡ b
same_inst design path a b x y = same_Some a b (sym x ∙ y)

-- no pin drives and is driven
pub not_both : (names : List Text) (rec : DeviceRec) (design : NetlistRec) (pin : Pin)
    → IsDriver names rec design pin → IsSink rec design pin → ⊥
not_both names rec design (LeafPin path bit) (inl d) s =
    input_output (same_Some Input Output (sym s.towards ∙ d.towards))
not_both names rec design (LeafPin path bit) (inr d) s =
    let inst = same_inst design path d.1.inst s.inst d.1.leaf.leaf.is s.leaf.leaf.leaf.is in
    let ty : d.1.ty ≡ s.ty = same_Some d.1.ty s.ty (sym d.1.leaf.type_is
    ∙ ap (type_of design) inst ∙ s.leaf.leaf.type_is) in
    none-some d.0 (sym s.leaf.plain ∙ ap (λ t. constant_of_type rec t) (sym ty)
    ∙ d.1.constant_is)
not_both names rec design (TopPin place index) d s =
    let number : d.number ≡ s.number = same_Some d.number s.number (sym d.bit.which
    ∙ s.bit.which) in
    let port : d.port ≡ s.port = same_Some d.port s.port (sym d.bit.port_is
    ∙ ap (slice_get design.port_list) number ∙ s.bit.port_is) in
    input_output (sym d.towards ∙ ap (λ (p : Port). p.dir) port ∙ s.towards)

-- the number of a pin's cell, and its written name
abbrev pub Numbered : List Text → NetlistRec → (ports : ℕ) → List LeafCell → Pin → Type 0
Numbered names design ports leaves pin =
    (cell : ℕ) × (text : Text) × IsFlatPin names design ports leaves pin cell text

leaf_pin : (names : List Text) (design : NetlistRec) (bit : PortBit) (dir : Direction)
    → direction_of design bit ≡ Some dir
    → (text : Text) × (written_bit names design bit ≡ Some text)
leaf_pin names design bit dir is = by (slice_get design.port_list bit.port) refl is
  where
    by : (o : Option Port) → slice_get design.port_list bit.port ≡ o
        → option_map (λ (port : Port). port.dir) o ≡ Some dir
        → (text : Text) × (written_bit names design bit ≡ Some text)
    by None e h = absurd (none-some dir h)
    by (Some port) e h = (
      written names port bit.index,
      ap (option_map (λ port. written names port bit.index)) e,
    )

pub sink_numbered : (names : List Text) (rec : DeviceRec) (design : NetlistRec) (ports : ℕ)
    (leaves : List LeafCell) → AreLeafCells rec design leaves → (pin : Pin)
    → IsSink rec design pin → Numbered names design ports leaves pin
sink_numbered names rec design ports leaves are (LeafPin path bit) s =
    let k = are.all path s.inst s.ty s.leaf in
    let text = leaf_pin names design bit Input s.towards in (
      ports + k.0,
      text.0,
      (k.0, record { path = path; inst = s.inst; ty = s.ty }, k.1, refl, refl, text.1),
    )
sink_numbered names rec design ports leaves are (TopPin place index) s = (
  cells_before design place + index,
  port_pin,
  (s.number, s.port, codes "$PORT_OUT", s.bit, ap port_type s.towards, refl, refl),
)

-- the driver of a signal net, and another pin on it
pub driven : (names : List Text) (rec : DeviceRec) (design : NetlistRec) (flat : Flat)
    (is : IsFlatOf rec names design flat) → AllDiffer names
    → AreApart names design flat.ports is.leaves → (n : ℕ) (net : FlatNet)
    → slice_get flat.nets n ≡ Some net → IsDriven flat n net.driver
driven names rec design flat is differ apart n net at =
    subst (IsDriven flat n) (sym d.1) (record {
      on = subst (λ p. get flat.pins (d.0.cell, p) ≡ Some (Signal n)) mine on.2;
      other_cell = sink.0;
      other_pin = other.0;
      other_on = other.2;
      other_differs = λ same_cell same_pin. never same_cell same_pin;
    })
  where
    first : (at_signal : Occurrence) × (slice_get is.signals n ≡ Some at_signal)
    first = item_at flat.nets is.signals n net (sym is.nets_count) at

    signal : IsSignal names rec design first.0
    signal = is.are_signals.each n first.0 first.1

    d : (driver : CellPin) × (net.driver ≡ Some driver)
        × IsDriverOf rec names design is.leaves flat.ports first.0 driver
    d = is.drivers n net first.0 at first.1

    on : (pin : ℕ) × (slice_get names pin ≡ Some d.2.text)
        × (get flat.pins (d.0.cell, pin) ≡ Some (Signal n))
    on = is.all_pins d.0.cell d.2.text (Signal n) (record {
      pin = d.2.pin;
      is = d.2.is;
      at = first.0;
      on = d.2.on;
      of_net = (first.0, first.1, ([], refl));
    })

    mine : on.0 ≡ d.0.pin
    mine = differ on.0 d.0.pin d.2.text on.1 d.2.named

    sink : Numbered names design flat.ports is.leaves signal.has_sink.0
    sink = sink_numbered names rec design flat.ports is.leaves is.are_leaves signal.has_sink.0
        signal.has_sink.1

    other : (pin : ℕ) × (slice_get names pin ≡ Some sink.1)
        × (get flat.pins (sink.0, pin) ≡ Some (Signal n))
    other = is.all_pins sink.0 sink.1 (Signal n) (record {
      pin = signal.has_sink.0;
      is = sink.2;
      at = first.0;
      on = signal.has_sink.2;
      of_net = (first.0, first.1, ([], refl));
    })

    never : sink.0 ≡ d.0.cell → other.0 ≡ d.0.pin → ⊥
    never same_cell same_pin =
        let text : sink.1 ≡ d.2.text = same_Some sink.1 d.2.text
        (sym other.1 ∙ ap (slice_get names) same_pin ∙ d.2.named) in
        let pin : d.2.pin ≡ signal.has_sink.0 = apart d.2.pin signal.has_sink.0 d.0.cell d.2.text
        first.0 first.0 d.2.is
        (subst (λ t. IsFlatPin names design flat.ports is.leaves signal.has_sink.0 d.0.cell t)
        text (subst (λ c. IsFlatPin names design flat.ports is.leaves signal.has_sink.0 c sink.1)
        same_cell sink.2))
        d.2.on signal.has_sink.2 in
        not_both names rec design signal.has_sink.0
        (subst (IsDriver names rec design) pin d.2.drives) signal.has_sink.1
