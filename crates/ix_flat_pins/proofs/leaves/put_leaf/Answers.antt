use Rattle.std.proofs.Common.{◌≡◌, ℕ, subst, arith}
use Rattle.ix_hierarchy.specs.Hierarchy.{Path}
use Rattle.ix_hierarchy.specs.Pins.{IsPlainLeaf}
use Rattle.ix_flat_pins.specs.Items.{Adds, IsRowPin}
use Rattle.ix_flat_pins.proofs.RowPins.{rows_none, rows_more, rows_all, path_at}
use Rattle.ix_flat_pins.proofs.leaves.put_leaf.Goals as goal

pub loop-place-init : goal.loop-place-init
loop-place-init c = record {
  from = omega arith;
  adds = λ known parts path inst ty ready path_is plain.
      rows_none known c.args.rec.now parts c.args.joined.now path c.pins-start.result.0 c.args.cell c.args.items.now.items;
}

pub put_leaf_pin-requires : goal.put_leaf_pin-requires
put_leaf_pin-requires c =
    let r = c.requires.leaf in
    let are = c.pins-start.ensures r.0 c.args.rec.now r.2 r.5.listed.joined_is r.6 in
    (r.0, r.1, r.5, are.each c.loop-place.place r.3 c.loop-place.invariant.from c.loop-place-test.true r.7.leaf.leaf)

pub loop-place-preserved : goal.loop-place-preserved
loop-place-preserved c = record {
  from = omega (arith, c.loop-place.invariant.from);
  adds = λ known parts path inst ty ready path_is plain.
      let are = c.pins-start.ensures known c.args.rec.now path ready.listed.joined_is path_is in
      let at = are.each c.loop-place.place inst c.loop-place.invariant.from c.loop-place-test.true plain.leaf.leaf in
      let its = subst (λ (p : Path). IsPlainLeaf known.device c.args.rec.now p inst ty)
      (path_at known c.args.rec.now c.args.joined.now c.args.instance c.loop-place.place path path_is at) plain in
      rows_more known c.args.rec.now parts c.args.joined.now c.args.instance path c.pins-start.result.0 c.loop-place.place c.args.cell
      c.args.items.now.items c.loop-place.items.items c.put_leaf_pin.new.items.items c.loop-place.invariant.from path_is at
      (c.loop-place.invariant.adds known parts path inst ty ready path_is plain)
      (c.in_ok-put_leaf_pin.ensures known parts inst ty ready at its);
}

pub returns : goal.returns
returns c known parts path inst ty ready path_is plain =
    let are = c.pins-start.ensures known c.args.rec.now path ready.listed.joined_is path_is in
    let done : c.loop-place.place ≡ c.pins-start.result.1 = omega (arith, are.some) in
    rows_all known c.args.rec.now parts c.args.joined.now c.args.instance path c.pins-start.result.0 c.pins-start.result.1 c.args.cell
    c.args.items.now.items c.loop-place.items.items are
    (subst (λ (n : ℕ). Adds known c.args.rec.now parts (IsRowPin c.args.joined.now path c.pins-start.result.0 n c.args.cell) c.args.items.now.items c.loop-place.items.items)
    done (c.loop-place.invariant.adds known parts path inst ty ready path_is plain))
