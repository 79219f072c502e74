use Rattle.ix_graph.proofs.MarkLemmas.{all_marked}
use Rattle.ix_graph.proofs.constants.mark_all.Goals as goal

pub returns : goal.returns
returns c = all_marked c.args.device.now c.args.marks.now c.mark_tiles.new.marks c.mark_named.new.marks c.mark_tiles.ensures c.mark_named.ensures
