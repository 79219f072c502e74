use Rattle.std.proofs.Common.{◌<◌, length, arith}
use Rattle.ix_reach.proofs.CellLemmas.{two_within}
use Rattle.ix_reach.proofs.cells.first_with_two.Goals as goal

pub returns : goal.returns
returns c = λ d two.
    let lt : d < length c.args.rec.now.cell_decls = two_within c.args.rec.now d c.requires.fits two
    in
    c.loop-declaration.invariant d (omega (arith, c.requires.many)) two
