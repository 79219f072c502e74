use Rattle.std.proofs.Common.{◌∷◌, []}
use Rattle.ix_message.specs.Indexes.{asked}
use Rattle.ix_device_rules.specs.Kinds.{kind_name, field_name}
use Rattle.ix_device_rules.proofs.Steps.{walks_first, walks_stop_first}
use Rattle.ix_device_rules.proofs.walk.Walk.enter.Goals as goal

pub returns-in-Ok : goal.returns-in-Ok
returns-in-Ok c = walks_first c.in-Ok.ensures c.ask.ensures

pub returns-in-Err : goal.returns-in-Err
returns-in-Err c = walks_stop_first (asked (kind_name c.args.kind) (field_name c.args.field) c.args.fits ∷ []) c.begin.new.self c.in-Err.ensures
