use Rattle.ix_graph.specs.Marks.{source_marks}
use Rattle.ix_graph.proofs.MarkLemmas.{one_more}
use Rattle.ix_graph.proofs.constants.mark_sources.Goals as goal

pub loop-i-preserved : goal.loop-i-preserved
loop-i-preserved c = one_more (source_marks c.args.device.now) c.args.sources.now c.loop-i.i c.at.result.now c.args.marks.now c.loop-i.marks c.mark_source.new.marks c.at.ensures c.loop-i.invariant c.mark_source.ensures
