use Rattle.std.proofs.lemmas.Result.{err_from_is_err_and}
use Rattle.ix_legal.specs.declared.spot.Spot.TheVariants.{SegmentAt}
use Rattle.ix_rules.proofs.Ended.{have_ends}
use Rattle.ix_rules.proofs.Verdicts.{keeps_none}
use Rattle.ix_rules.proofs.stages.ends_of.Goals as goal

pub first_unnamed-requires-clause-ends : goal.first_unnamed-requires-clause-ends
first_unnamed-requires-clause-ends c =
    have_ends c.args.on.now.device.now c.args.on.now.phys.now c.in-Ok.ends c.in-Ok.ensures.ends

pub returns-in_err-told-in-Ok-clause-verdict : goal.returns-in_err-told-in-Ok-clause-verdict
returns-in_err-told-in-Ok-clause-verdict c =
    let p = err_from_is_err_and c.from_residual-in_err-told-in-Ok.result
    c.from_residual-in_err-told-in-Ok.ensures.1 in
    rw (p.1, p.2) (c.in_err-told-in-Ok.ensures c.args.on.now.level c.args.on.now.names.now
    c.args.on.now.device.now c.args.on.now.phys.now
    (keeps_none c.args.on.now.level c.args.on.now.names.now c.args.on.now.device.now
    c.args.on.now.phys.now) c.in_ok-first-in-Ok.ensures.told)

pub unreachable-requires : goal.unreachable-requires
unreachable-requires c = (rw c.in-Err-NoEnds.field-0-is at c.in-Err-NoEnds.ensures.refused).broken
    ((rw c.in-None.is at c.in_ok-spot-in-Err-NoEnds.ensures.told)
    (SegmentAt c.in-Err-NoEnds.net c.in-Err-NoEnds.segment))
