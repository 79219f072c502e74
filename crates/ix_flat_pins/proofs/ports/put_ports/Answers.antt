use Rattle.std.proofs.Common.{◌≡◌, ◌∙◌, ◌+◌, true, false, is_some, ap, sym, subst, refl, ℕ, List, Vec, Global, arith, length, get_or}
use Rattle.std.proofs.lemmas.List.Sums.{count_by_more_no, count_by_more_yes}
use Rattle.std.proofs.lemmas.Option.{slice_get-get_or, get_or_from_slice_get}
use Rattle.ix_joined.specs.declared.top_bit.TopBit.{TopBit}
use Rattle.ix_joined.specs.Joining.{top_places}
use Rattle.ix_wiring.specs.declared.flat_pin.FlatPin.{FlatPin}
use Rattle.ix_flat_pins.specs.Items.{Adds, IsPinOfPort, is_typed}
use Rattle.ix_flat_pins.proofs.Adding.{item_at}
use Rattle.ix_flat_pins.proofs.PortPins.{ports_more, ports_same, ports_none}
use Rattle.ix_flat_pins.proofs.ports.put_ports.Goals as goal
use Rattle.ix_flat_pins.proofs.ports.put_ports.Goals.{then-is_some+in_ok-put_port, else-is_some}

pub loop-k-init : goal.loop-k-init
loop-k-init c = record {
  cell_is = refl;
  few = omega arith;
  adds = λ known parts ready bits names_are. ports_none known c.args.rec.now parts c.args.types.now c.args.bits.now c.args.items.now.items;
}

pub put_port-requires : goal.put_port-requires
put_port-requires c =
    let r = c.requires.bits in
    let at = item_at (top_places c.args.rec.now) c.loop-k.k (omega (arith, r.3.many, c.loop-k-test.true)) in
    (r.0, r.1, at.0, r.2, r.3.each c.loop-k.k at.0 _ at.1 (slice_get-get_or c.args.bits.now c.loop-k.k _ c.loop-k-test.true))

pub loop-k-preserved : goal.loop-k-preserved
loop-k-preserved c =
    let types = c.args.types.now in
    let bits : List TopBit = c.args.bits.now in
    let k : ℕ = c.loop-k.k in
    let b = item_at bits k c.loop-k-test.true in
    let typed_is : is_typed types b.0 ≡ c.is_some.result =
    ap (is_typed types) (sym (get_or_from_slice_get bits k b.0 _ b.1)) ∙ ap is_some (sym c.of.ensures) ∙ sym c.is_some.ensures in
    let items : Vec FlatPin Global → List FlatPin = λ v. v.items in
    let got : get_or bits k b.0 ≡ b.0 = get_or_from_slice_get bits k b.0 b.0 b.1 in
    elim c.if-is_some.branch [
      | then-is_some+in_ok-put_port w ↦
          let typed : is_typed types b.0 ≡ true = typed_is ∙ w.if-is_some.true in
          let more = count_by_more_yes (is_typed types) bits k b.0 c.loop-k-test.true (ap (is_typed types) got ∙ typed) in
          record {
            cell_is = w.cell-is ∙ ap (λ (n : ℕ). n + 1) c.loop-k.invariant.cell_is ∙ sym more;
            few = omega (arith, w.cell-is, c.loop-k.invariant.few);
            adds = λ known parts ready are names_are.
                let at = item_at (top_places c.args.rec.now) k (omega (arith, are.many, c.loop-k-test.true)) in
                subst (λ (xs : List FlatPin). Adds known c.args.rec.now parts (IsPinOfPort c.args.rec.now types bits (k + 1)) c.args.items.now.items xs) (sym (ap items w.items-is))
                (ports_more known c.args.rec.now parts types bits k c.loop-k.cell b.0 at.0 c.args.items.now.items c.loop-k.items.items w.put_port.new.items.items
                b.1 typed at.1 c.loop-k.invariant.cell_is (c.loop-k.invariant.adds known parts ready are names_are)
                (w.in_ok-put_port.ensures known parts at.0 k ready names_are at.1 are.places
                (are.each k at.0 _ at.1 (slice_get-get_or bits k _ c.loop-k-test.true))));
          }
      | else-is_some w ↦
          let untyped : is_typed types b.0 ≡ false = typed_is ∙ w.if-is_some.false in
          let same = count_by_more_no (is_typed types) bits k b.0 c.loop-k-test.true (ap (is_typed types) got ∙ untyped) in
          record {
            cell_is = w.cell-is ∙ c.loop-k.invariant.cell_is ∙ sym same;
            few = omega (arith, w.cell-is, c.loop-k.invariant.few);
            adds = λ known parts ready are names_are.
                subst (λ (xs : List FlatPin). Adds known c.args.rec.now parts (IsPinOfPort c.args.rec.now types bits (k + 1)) c.args.items.now.items xs) (sym (ap items w.items-is))
                (ports_same known c.args.rec.now parts types bits k b.0 c.args.items.now.items c.loop-k.items.items b.1 untyped
                (c.loop-k.invariant.adds known parts ready are names_are));
          }
    ]

pub returns : goal.returns
returns c known parts ready bits names_are =
    let done : c.loop-k.k ≡ length c.args.bits.now = omega arith in
    subst (λ (n : ℕ). Adds known c.args.rec.now parts (IsPinOfPort c.args.rec.now c.args.types.now c.args.bits.now n) c.args.items.now.items c.loop-k.items.items)
    done (c.loop-k.invariant.adds known parts ready bits names_are)
