use Rattle.std.proofs.Common.{◌<◌, ◌≤◌, ◌+◌, ◌-◌, ◌^◌, sym, subst, List, ℕ, length, arith}
use Rattle.ix_leaf_cells.specs.LeavesTo.{AreTo}
use Rattle.ix_leaf_cells.proofs.More.{to_all, to_start}
use Rattle.ix_leaf_cells.proofs.leaves.put_leaves.Goals as goal

pub loop-instance-init : goal.loop-instance-init
loop-instance-init c = (
  λ id text h. h,
  omega arith,
  λ known texts are h.
      subst (λ (ls : List ℕ). AreTo known c.args.rec.now c.args.names.now texts 1 ls
      c.args.cells.now.items) (sym c.new-leaves.ensures.items)
      (to_start known c.args.rec.now c.args.joined.now c.args.names.now texts c.args.cells.now.items are
      h),
)

pub put_leaf-requires-clause-few : goal.put_leaf-requires-clause-few
put_leaf-requires-clause-few c =
    let h : length c.loop-instance.names + c.loop-instance.left
    ≤ length c.args.names.now + c.args.left.now = c.loop-instance.invariant.1 in
    let f : length c.args.names.now + c.args.left.now < 2 ^ 32 - 1 = c.requires.few in
    omega arith

pub put_leaf-requires-clause-fits : goal.put_leaf-requires-clause-fits
put_leaf-requires-clause-fits c =
    (c.names_grow.ensures c.args.names.now c.loop-instance.names c.args.rec.now
    c.loop-instance.invariant.0 c.requires.fits).fits

pub loop-instance-preserved : goal.loop-instance-preserved
loop-instance-preserved c =
    let h : length c.loop-instance.names + c.loop-instance.left
    ≤ length c.args.names.now + c.args.left.now = c.loop-instance.invariant.1 in
    let g : length c.put_leaf.new.names + c.put_leaf.new.left
    ≤ length c.loop-instance.names + c.loop-instance.left = c.put_leaf.ensures.counted in (
      λ id text t. c.put_leaf.ensures.keeps id text (c.loop-instance.invariant.0 id text t),
      omega arith,
      λ known texts are before. c.in_ok-put_leaf.ensures.leaves known texts are
          (c.loop-instance.invariant.2 known texts are before),
    )

pub returns-clause-leaves : goal.returns-clause-leaves
returns-clause-leaves c = λ known texts are before.
    to_all known c.args.rec.now c.args.joined.now c.loop-instance.names texts
    c.loop-instance.instance c.loop-instance.leaves.items c.loop-instance.cells.items are
    (omega (arith, c.args.joined.now.instances.ok.0))
    (c.loop-instance.invariant.2 known texts are before)
