use Rattle.ix_differences.proofs.Keyed.{one_more_known}
use Rattle.ix_differences.proofs.numbers.numbers_of.Goals as goal

pub loop-i-preserved : goal.loop-i-preserved
loop-i-preserved c = one_more_known c.args.flat.now.cells c.args.names c.loop-i.i c.get.result
    c.new-in-loop-i.result c.at.result.now c.loop-i.numbers c.put.new.self c.at.ensures
    c.get.ensures c.new-in-loop-i.ensures c.loop-i.invariant c.put.ensures
