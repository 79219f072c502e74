use Rattle.std.proofs.Common.{arith}
use Rattle.std.proofs.lemmas.Option.{slice_get-get_or}
use Rattle.std.proofs.lemmas.List.Elements.{Contains-get_or}
use Rattle.ix_unknown.proofs.Having.{closed_few}
use Rattle.ix_unknown.proofs.Marking.{marked_more}
use Rattle.ix_unknown.proofs.way.mark_all.Goals as goal

pub has_marked-mark-requires-clause-there : goal.has_marked-mark-requires-clause-there
has_marked-mark-requires-clause-there c =
    closed_few c.requires.fits.0 c.requires.kinds.0 c.args.rec.now c.args.kinds.now
    c.args.closed.now _ c.requires.fits.1 c.requires.kinds.1 c.requires.closed
    (Contains-get_or c.args.closed.now c.loop-declaration.declaration-index 0
    c.loop-declaration-test.true)

pub bounds-marks-declaration : goal.bounds-marks-declaration
bounds-marks-declaration c =
    let few = closed_few c.requires.fits.0 c.requires.kinds.0 c.args.rec.now c.args.kinds.now
    c.args.closed.now _ c.requires.fits.1 c.requires.kinds.1 c.requires.closed
    (Contains-get_or c.args.closed.now c.loop-declaration.declaration-index 0
    c.loop-declaration-test.true) in
    let many = c.loop-declaration.invariant.many in
    omega arith

pub loop-declaration-preserved : goal.loop-declaration-preserved
loop-declaration-preserved c =
    let few = closed_few c.requires.fits.0 c.requires.kinds.0 c.args.rec.now c.args.kinds.now
    c.args.closed.now _ c.requires.fits.1 c.requires.kinds.1 c.requires.closed
    (Contains-get_or c.args.closed.now c.loop-declaration.declaration-index 0
    c.loop-declaration-test.true) in
    let many = c.loop-declaration.invariant.many in
    marked_more c.args.rec.now c.args.kinds.now c.args.closed.now c.loop-declaration.marks
    c.loop-declaration.declaration-index _ c.has_marked-mark.result c.requires.closed
    c.loop-declaration.invariant
    (slice_get-get_or c.args.closed.now c.loop-declaration.declaration-index 0
    c.loop-declaration-test.true)
    (omega arith) c.has_marked-mark.ensures
