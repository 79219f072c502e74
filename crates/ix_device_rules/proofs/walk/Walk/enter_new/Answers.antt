use Rattle.std.proofs.Common.{◌∷◌, [], not}
use Rattle.ix_message.specs.Indexes.{asked}
use Rattle.ix_keys.specs.Keys.{has_key}
use Rattle.ix_device_rules.specs.Kinds.{kind_name, field_name}
use Rattle.ix_device_rules.proofs.Steps.{walks_first, walks_stop_first}
use Rattle.ix_device_rules.proofs.walk.Walk.enter_new.Goals as goal

pub returns-in-Ok-clause-walks : goal.returns-in-Ok-clause-walks
returns-in-Ok-clause-walks c = walks_first c.in-Ok.ensures c.ask_new.ensures.walks

pub returns-in-Err-clause-walks : goal.returns-in-Err-clause-walks
returns-in-Err-clause-walks c = walks_stop_first (asked (kind_name c.args.kind) (field_name c.args.field) (not (has_key c.args.table.now c.args.key)) ∷ []) c.begin.new.self c.in-Err.ensures
