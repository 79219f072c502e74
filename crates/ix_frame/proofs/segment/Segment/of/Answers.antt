use Rattle.ix_frame.proofs.Parts.{past_all, is_segment}
use Rattle.ix_frame.proofs.segment.Segment.of.Goals as goal

pub returns-then-last-number : goal.returns-then-last-number
returns-then-last-number c = past_all c.args.frame.now.bytes.now c.read_u32-last.result c.args.number c.read_u32-last.ensures c.if-last-number.true

pub invariant_of-result : goal.invariant_of-result
invariant_of-result c = record {
  here = is_segment c.args.frame.now.bytes.now c.read_u32-last.result c.args.number c.behind-table.result.now c.behind-rest.result.now c.part-bytes.result.now c.args.frame.now.whole c.read_u32-last.ensures c.if-last-number.false c.behind-table.ensures c.behind-rest.ensures c.part-bytes.ensures.part c.part-bytes.ensures.short;
}
