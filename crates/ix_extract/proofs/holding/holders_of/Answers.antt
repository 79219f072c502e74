use Rattle.ix_legal.specs.declared.spot.Spot.TheVariants.{SegmentAt}
use Rattle.ix_extract.proofs.holding.holders_of.Goals as goal

pub unreachable-requires : goal.unreachable-requires
unreachable-requires c = (rw c.in-Err-Shared.field-0-is at c.in-Err-Shared.ensures.shared).broken
    (c.requires.unshared (SegmentAt c.in-Err-Shared.field-0-0 c.in-Err-Shared.field-0-1))
