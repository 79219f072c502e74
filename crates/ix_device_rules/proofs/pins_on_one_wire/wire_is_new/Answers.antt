use Rattle.ix_device_rules.specs.Rules
use Rattle.ix_device_rules.proofs.Steps.{walks_first, walks_stop_first}
use Rattle.ix_device_rules.specs.Named.{pin_is_new}
use Rattle.ix_device_rules.proofs.pins_on_one_wire.wire_is_new.Goals as goal

pub returns-in-Ok-clause-walks : goal.returns-in-Ok-clause-walks
returns-in-Ok-clause-walks c = walks_first c.in-Ok.ensures c.pins_are_new.ensures.walks

pub returns-in-Err-clause-walks : goal.returns-in-Err-clause-walks
returns-in-Err-clause-walks c = walks_stop_first (Rules.each_by_earlier (pin_is_new c.args.seen.now) c.args.wire.now.pins) _ c.in-Err.ensures
