use Rattle.ix_frame.proofs.Parts.{summed_first, summed_next, summed_last}
use Rattle.ix_frame.proofs.table.sum_of_table.Goals as goal

pub loop-init : goal.loop-init
loop-init c = summed_first c.args.table.now c.args.count c.requires.whole

pub loop-preserved : goal.loop-preserved
loop-preserved c = summed_next c.args.table.now c.args.count c.loop.counter c.loop.words c.loop.rest.now c.read_u32.result c.behind-rest.result.now c.loop-test.true c.read_u32.type_inv c.read_u32.ensures c.behind-rest.ensures c.loop.invariant

pub returns-clause-sum : goal.returns-clause-sum
returns-clause-sum c = summed_last c.args.table.now c.args.count c.loop.counter c.loop.words c.loop.rest.now c.loop-test.false c.loop.invariant
