use Rattle.std.proofs.Common.{◌≡◌, ◌<◌, length, get_or, arith}
use Rattle.ix_occupy.proofs.Walks.{ends_next}
use Rattle.ix_occupy.proofs.loads.end_at.Goals as goal

pub loop-node-preserved : goal.loop-node-preserved
loop-node-preserved c =
    let is : c.get-place.result ≡ get_or c.args.nodes.now c.loop-node.node-index
    c.get-place.result = cc in
    let below : get_or c.args.nodes.now c.loop-node.node-index c.get-place.result < length
    c.args.loads.now =
    c.requires.inside c.loop-node.node-index c.get-place.result c.loop-node-test.true in
    let inside : c.get-place.result < length c.loop-node.loads = omega arith in
    ends_next c.args.loads.now c.loop-node.loads c.args.nodes.now c.loop-node.node-index
    c.get-place.result c.at_end.result
    c.loop-node-test.true c.loop-node.invariant c.requires.once inside is c.at_end.ensures
