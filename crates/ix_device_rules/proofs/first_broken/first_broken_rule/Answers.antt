use Rattle.ix_device_rules.specs.Rules.{first_broken}
use Rattle.ix_device_rules.proofs.first_broken.first_broken_rule.Goals as goal

pub returns : goal.returns
unfolding first_broken
returns c = c.by_tables.ensures
