use Rattle.std.proofs.Common.{arith}
use Rattle.ix_rec.specs.declared.place.Rule.TheVariants.{L2}
use Rattle.ix_rules.proofs.judge.judge_trees.Goals as goal

pub first_misfit-requires-clause-placed : goal.first_misfit-requires-clause-placed
first_misfit-requires-clause-placed c = c.requires.kept L2 (omega arith)

pub returns : goal.returns
returns c = c.told-4.ensures c.args.on.now.level c.args.on.now.names.now c.args.on.now.device.now
    c.args.on.now.phys.now
    (c.in_ok-told-3.ensures c.args.on.now.level c.args.on.now.names.now c.args.on.now.device.now
    c.args.on.now.phys.now
    (c.in_ok-told-2.ensures c.args.on.now.level c.args.on.now.names.now c.args.on.now.device.now
    c.args.on.now.phys.now
    (c.in_ok-told.ensures c.args.on.now.level c.args.on.now.names.now c.args.on.now.device.now
    c.args.on.now.phys.now c.requires.kept c.in_ok-first.ensures.told)
    c.in_ok-first-2.ensures.told) c.in_ok-first-3.ensures.told) c.in_ok-first-4.ensures.told
