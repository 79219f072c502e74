use Rattle.ix_device_read.proofs.Naming.{name_below}
use Rattle.ix_device_read.proofs.at.At.text_of.Goals as goal

pub returns-in-Some-clause-within : goal.returns-in-Some-clause-within
returns-in-Some-clause-within c =
    name_below c.args.ctx.now.strings.now c.args.ctx.now.names.now c.in-Some.id c.in-Some.ensures.within
