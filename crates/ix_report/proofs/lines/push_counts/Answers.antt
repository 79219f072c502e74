use Rattle.std.proofs.Common.{append_assoc}
use Rattle.ix_report.proofs.lines.push_counts.Goals as goal

pub returns : goal.returns
returns c = simp append_assoc c.write.ensures.bytes
