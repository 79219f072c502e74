use Rattle.ix_legal.specs.declared.spot.Spot.TheVariants.{SegmentAt}
use Rattle.ix_extract.proofs.holding.ends_of.Goals as goal

pub unreachable-requires : goal.unreachable-requires
unreachable-requires c = (rw c.in-Err-NoEnds.field-0-is at c.in-Err-NoEnds.ensures.refused).broken
    (c.requires.named.1 (SegmentAt c.in-Err-NoEnds.field-0-0 c.in-Err-NoEnds.field-0-1))
