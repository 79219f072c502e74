use Rattle.std.proofs.Common.{◌∙◌, ap, sym, subst, length, ℕ, List}
use Rattle.std.proofs.lemmas.Result.{IfOk-weaker}
use Rattle.ix_flat_lists.specs.Listed.{AreLeaves}
use Rattle.ix_flat_pins.specs.Items.{IsListed}
use Rattle.ix_wiring.specs.declared.flat_pin.FlatPin.{FlatPin}
use Rattle.ix_wiring.specs.Wired.{IsWired, NetsFit}
use Rattle.ix_flat_nets.proofs.Given.{flat_nets_are, is_listed}
use Rattle.ix_flat_nets.proofs.Given.{listed_after, parts_of}
use Rattle.ix_flat_nets.proofs.Made.{nets_fit}
use Rattle.ix_flat_nets.proofs.all.flat_nets.Goals as goal

pub flat_pins-requires-clause-listed : goal.flat_pins-requires-clause-listed
flat_pins-requires-clause-listed c =
    let known = c.requires.ready.0 in
    let ready = c.requires.ready.1 in
    let design = c.args.rec.now in
    let joined = c.args.joined.now in
    let constants = c.args.constants.now in
    let states = c.args.states.now in
    let named = c.args.named.now in
    let parts = parts_of known design joined constants c.args.types.now c.args.bits.now states
    named ready in (
      known,
      parts,
      subst (λ xs. IsListed known design joined constants states xs parts)
          (sym c.deref-2.ensures.value)
          (is_listed known design joined constants c.args.types.now c.args.bits.now states named
          ready),
      subst (λ xs. AreLeaves known design xs parts.cells) (sym c.deref.ensures.value)
          ready.named_is.are_leaves,
      ready.bits_are,
    )

pub wired-requires : goal.wired-requires
wired-requires c =
    let known = c.requires.ready.0 in
    let ready = c.requires.ready.1 in
    let design = c.args.rec.now in
    let joined = c.args.joined.now in
    let constants = c.args.constants.now in
    let types = c.args.types.now in
    let bits = c.args.bits.now in
    let states = c.args.states.now in
    let named = c.args.named.now in
    let parts = parts_of known design joined constants types bits states named ready in
    let are = listed_after known design joined constants types bits states named
    c.in_ok-pins.pins.items c.deref.result.now c.deref-2.result.now c.deref.ensures.value
    c.deref-2.ensures.value c.port_cells_are_counted.ensures.law c.pins_are_apart.ensures.law ready
    c.in_ok-pins.ensures in record {
      nets = subst (λ (xs : List FlatPin). NetsFit (length c.deref-3.result.now) xs)
          (sym c.deref-4.ensures.value)
          (nets_fit known design types bits parts named.ports c.in_ok-pins.pins.items are
          (length c.deref-3.result.now)
          (ap length c.deref-3.ensures.value ∙ ready.named_is.many));
    }

pub returns : goal.returns
returns c =
    let design = c.args.rec.now in
    let joined = c.args.joined.now in
    let constants = c.args.constants.now in
    let types = c.args.types.now in
    let bits = c.args.bits.now in
    let states = c.args.states.now in
    let named = c.args.named.now in
    let items = c.in_ok-pins.pins.items in
    IfOk-weaker c.wired.result _ _
    (λ wiring h known ready.
    let are = listed_after known design joined constants types bits states named
    items c.deref.result.now c.deref-2.result.now c.deref.ensures.value
    c.deref-2.ensures.value c.port_cells_are_counted.ensures.law c.pins_are_apart.ensures.law ready
    c.in_ok-pins.ensures in
    flat_nets_are known design joined constants types bits states named items wiring ready are
    (subst (λ (xs : List FlatPin). IsWired named.net_names.items xs wiring) c.deref-4.ensures.value
    (subst (λ (ns : List ℕ). IsWired ns c.deref-4.result.now wiring) c.deref-3.ensures.value h)))
    c.wired.ensures
