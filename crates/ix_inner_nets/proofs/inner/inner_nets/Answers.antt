use Rattle.std.proofs.Common.{◌≡◌, ◌<◌, ◌+◌, ℕ, List, Option, length, sym, subst, arith}
use Rattle.ix_inner_nets.proofs.Naming.{AreInnerUpTo, row_there, declared_there, inner_more}
use Rattle.ix_inner_nets.proofs.inner.inner_nets.Goals as goal

pub at-requires : goal.at-requires
at-requires c =
    row_there c.requires.fits.0 c.args.rec.now c.args.outer.now c.loop-place.place
    c.at-row.result c.requires.fits.1 c.requires.outer c.at-row.ensures

pub inner_net-requires-clause-inside : goal.inner_net-requires-clause-inside
inner_net-requires-clause-inside c =
    let there : c.at.result.now.cell < length c.args.rec.now.cell_decls =
    declared_there c.requires.fits.0 c.args.rec.now c.at-row.result.instance c.at.result.now
    c.requires.fits.1 c.at.ensures in
    let many : length c.args.kinds.now ≡ length c.args.rec.now.cell_decls =
    c.requires.kinds.1.many in
    omega arith

pub loop-place-preserved : goal.loop-place-preserved
loop-place-preserved c =
    subst (λ (l : List (Option ℕ)). AreInnerUpTo c.args.rec.now c.args.outer.now.rows l
    (c.loop-place.place + 1)) (sym c.in_ok-push.ensures.items)
    (inner_more c.args.rec.now c.args.outer.now.rows c.loop-place.inner.items c.loop-place.place
    c.at-row.result c.at.result.now c.inner_net.result c.loop-place.invariant c.at-row.ensures
    c.at.ensures c.inner_net.ensures)
