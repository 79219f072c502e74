use Rattle.std.proofs.Common.{◌∙◌, ap, sym, subst, refl, Bool}
use Rattle.std.specs.Prelude.{◌↔◌, IsTrue}
use Rattle.std.proofs.lemmas.Result.{on_ok_weaker}
use Rattle.ix_rec.specs.declared.device.Direction.TheVariants.{Input}
use Rattle.ix_hierarchy.specs.FlatDesign.{port_pin}
use Rattle.ix_hierarchy.specs.Pins.{Pin, TopPin, IsOnNet, IsTopPin}
use Rattle.ix_flat_pins.specs.Items.{IsJust, is_driver}
use Rattle.ix_flat_pins.proofs.Adding.{just_adds, net_low}
use Rattle.ix_flat_pins.proofs.PortPins.{adds_off, off_net, on_net, top_drives, none_from}
use Rattle.ix_flat_pins.proofs.ports.put_port.Goals as goal

pub returns-in_default : goal.returns-in_default
returns-in_default c known parts at k ready names_are at_is places is =
    adds_off known c.args.rec.now parts (IsJust (TopPin at.place at.index) c.args.cell) c.args.items.now.items
    (λ pin cell there just on.
    let here = subst (λ (p : Pin). IsOnNet c.args.rec.now p there) just.0 on in
    off_net known c.args.rec.now c.args.joined.now at c.args.bit.now c.args.bit.now.net is refl
    (none_from c.args.bit.now.net (λ x e. c.in_default.not-Some x e)) here.where_at here.on)

pub net_ref-requires-clause-state : goal.net_ref-requires-clause-state
net_ref-requires-clause-state c =
    let r = c.requires in
    (net_low r.0 c.args.rec.now c.args.joined.now c.args.constants.now c.args.states.now c.args.numbers.now r.1 (TopPin r.2.place r.2.index) c.in-Some.net r.3
    (on_net r.0 c.args.rec.now c.args.joined.now r.2 c.args.bit.now c.in-Some.net r.4 c.in-Some.is)).0

pub net_ref-requires-clause-number : goal.net_ref-requires-clause-number
net_ref-requires-clause-number c =
    let r = c.requires in
    (net_low r.0 c.args.rec.now c.args.joined.now c.args.constants.now c.args.states.now c.args.numbers.now r.1 (TopPin r.2.place r.2.index) c.in-Some.net r.3
    (on_net r.0 c.args.rec.now c.args.joined.now r.2 c.args.bit.now c.in-Some.net r.4 c.in-Some.is)).1

pub returns : goal.returns
returns c = on_ok_weaker c.put.result (λ new_is known parts at k ready names_are at_is places is.
    let drives = subst (λ (b : Bool). IsTrue b ↔ IsTopPin c.args.rec.now Input at.place at.index)
    (sym (c.is_driver.ensures ∙ ap is_driver c.role_of_bit.ensures))
    (top_drives c.args.rec.now k at c.args.bit.now.dir places at_is is.dir_is) in
    just_adds known c.args.rec.now c.args.joined.now c.args.constants.now c.args.states.now c.args.numbers.now parts
    (TopPin at.place at.index) c.args.cell c.in-Some.net c.args.types.now.pin port_pin c.is_driver.result c.net_ref.result
    c.args.items.now.items c.put.new.items.items ready
    (on_net known c.args.rec.now c.args.joined.now at c.args.bit.now c.in-Some.net is c.in-Some.is)
    names_are.pin refl drives (λ state number s n. c.net_ref.ensures state number s n) new_is) c.put.ensures
