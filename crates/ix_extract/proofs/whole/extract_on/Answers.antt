use Rattle.ix_extract.proofs.Ranging.{told_in_range, told_named}
use Rattle.ix_extract.proofs.whole.extract_on.Goals as goal

pub returns-clause-range : goal.returns-clause-range
returns-clause-range c = told_in_range c.args.names.now c.args.device.now c.args.phys.now
    c.with_graph.result c.with_graph.ensures

pub returns-clause-named : goal.returns-clause-named
returns-clause-named c = λ named. told_named c.args.names.now c.args.device.now c.args.phys.now
    c.requires.sound.named named c.with_graph.result c.with_graph.ensures
