use Rattle.std.proofs.Common.{◌∙◌, arith}
use Rattle.ix_graph.proofs.EdgeLemmas.{counted_next}
use Rattle.ix_graph.proofs.edges.count_tile.Goals as goal

pub loop-i-preserved : goal.loop-i-preserved
loop-i-preserved c = (
  λ n. counted_next c.args.nodes.now n c.args.pips.now c.loop-i.i c.at.result.now _ _ _ c.at.ensures (c.loop-i.invariant.0 n) (c.count_pip.ensures.sizes n),
  omega arith,
  c.count_pip.ensures.rows ∙ c.loop-i.invariant.2,
)
