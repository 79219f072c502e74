use Rattle.std.proofs.Common.{length}
use Rattle.ix_frame.proofs.Parts.{budget_of, budget_short}
use Rattle.ix_frame.proofs.frame.Budget.new.Goals as goal

pub returns-clause-exact : goal.returns-clause-exact
returns-clause-exact c = budget_of c.args.frame.now.bytes.now c.read_u32.result c.args.frame.now.whole c.read_u32.ensures

pub returns-clause-bound : goal.returns-clause-bound
returns-clause-bound c = budget_short (length c.args.frame.now.bytes.now) (c.read_u32.result) c.args.frame.now.whole.short
