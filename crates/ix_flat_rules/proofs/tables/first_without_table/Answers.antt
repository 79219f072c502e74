use Rattle.std.proofs.Common.{◌∙◌, sym, subst, slice_index_or}
use Rattle.std.proofs.lemmas.Bool.{false≢true}
use Rattle.ix_rec.specs.declared.device.DeviceRec.{DeviceRec}
use Rattle.ix_hierarchy.specs.Broken.{HasNoTable}
use Rattle.ix_flat_rules.proofs.Listings.{leaf_at}
use Rattle.ix_flat_rules.proofs.LeafTables.{first_lacking, lacks_next, none_lacks}
use Rattle.ix_flat_rules.proofs.tables.first_without_table.Goals as goal

pub lacks_table-requires-clause-leaf : goal.lacks_table-requires-clause-leaf
lacks_table-requires-clause-leaf c =
    let known = c.requires.leaves.0 in
    let at = leaf_at known c.args.rec.now c.args.joined.now c.args.leaves.now c.requires.leaves.1
    c.loop-k.k c.requires.leaves.2 c.requires.leaves.3 c.loop-k-test.true in
    (known, at.leaf.path, at.leaf.inst, at.leaf.ty, at.plain)

pub returns-then-lacks_table : goal.returns-then-lacks_table
returns-then-lacks_table c = λ known cells device are is tables.
    let leaves = c.args.leaves.now in
    let k = c.loop-k.k in
    let at = leaf_at known c.args.rec.now c.args.joined.now leaves cells k are is
    c.loop-k-test.true in
    let has = (c.lacks_table.ensures known known.names at.leaf.path at.leaf.inst at.leaf.ty
    at.plain tables).0 c.if-lacks_table.true in
    first_lacking known c.args.rec.now c.args.joined.now leaves cells k
    (slice_index_or leaves k 0) is (c.loop-k.invariant known cells device are is tables) at
    (subst (λ (d : DeviceRec). HasNoTable known.names d at.leaf.inst at.leaf.ty) device has)

pub loop-k-preserved : goal.loop-k-preserved
loop-k-preserved c = λ known cells device are is tables.
    let k = c.loop-k.k in
    let at = leaf_at known c.args.rec.now c.args.joined.now c.args.leaves.now cells k are is
    c.loop-k-test.true in
    lacks_next known cells k at.leaf (c.loop-k.invariant known cells device are is tables)
    at.leaf_is (λ has. false≢true (sym c.if-lacks_table.false
    ∙ (c.lacks_table.ensures known known.names at.leaf.path at.leaf.inst at.leaf.ty at.plain
    tables).1 (subst (λ (d : DeviceRec). HasNoTable known.names d at.leaf.inst at.leaf.ty)
    (sym device) has)))

pub returns : goal.returns
returns c = λ known cells device are is tables.
    none_lacks known c.args.rec.now c.args.leaves.now cells c.loop-k.k is c.loop-k-test.false
    (c.loop-k.invariant known cells device are is tables)
