use Rattle.std.proofs.Common.{refl}
use Rattle.std.specs.FinMap.{entries}
use Rattle.ix_belmap_cases.proofs.Walked.{walked_next}
use Rattle.ix_belmap_cases.proofs.checks.pins_fit.Goals as goal

pub loop-cell-preserved : goal.loop-cell-preserved
loop-cell-preserved c =
    walked_next c.args.flat.now c.args.names
    (entries c.args.flat.now.pins) c.loop-cell.cell-iterator c.next.new.self
    (c.in-Some.field-0-0.now, c.in-Some.net.now) c.loop-cell.invariant c.in-Some.ensures.steps
    (c.if-not-pin_fits.ensures refl)
