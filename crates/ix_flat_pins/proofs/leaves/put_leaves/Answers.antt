use Rattle.ix_flat_pins.proofs.RowPins.{leaf_at, leaves_none, leaves_more}
use Rattle.ix_flat_pins.proofs.leaves.put_leaves.Goals as goal

pub loop-k-init : goal.loop-k-init
loop-k-init c known parts ready are = leaves_none known c.args.rec.now parts c.args.ports c.args.items.now.items

pub put_leaf-requires : goal.put_leaf-requires
put_leaf-requires c =
    let r = c.requires.leaves in
    let l = leaf_at r.0 c.args.rec.now r.1 c.args.leaves.now c.loop-k.k r.3 c.loop-k-test.true in
    record { leaf = (r.0, r.1, l.leaf.path, l.leaf.inst, l.leaf.ty, r.2, l.path_is, l.plain) }

pub loop-k-preserved : goal.loop-k-preserved
loop-k-preserved c known parts ready are =
    let l = leaf_at known c.args.rec.now parts c.args.leaves.now c.loop-k.k are c.loop-k-test.true in
    leaves_more known c.args.rec.now parts c.args.ports c.loop-k.k l.leaf c.args.items.now.items c.loop-k.items.items c.put_leaf.new.items.items
    l.leaf_is (c.loop-k.invariant known parts ready are)
    (c.in_ok-put_leaf.ensures known parts l.leaf.path l.leaf.inst l.leaf.ty ready l.path_is l.plain)
