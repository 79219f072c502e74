use Rattle.ix_graph.specs.Marks.{entry_marks}
use Rattle.ix_graph.proofs.MarkLemmas.{one_more}
use Rattle.ix_graph.proofs.constants.mark_tile.Goals as goal

pub loop-i-preserved : goal.loop-i-preserved
loop-i-preserved c = one_more (λ k n e. entry_marks k c.args.nodes.now n e) c.args.ty.now.constants c.loop-i.i c.at.result.now c.args.marks.now c.loop-i.marks c.mark_entry.new.marks c.at.ensures c.loop-i.invariant c.mark_entry.ensures
