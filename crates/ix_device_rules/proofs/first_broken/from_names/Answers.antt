use Rattle.std.proofs.Common.{drop}
use Rattle.ix_rec.specs.declared.place.Rule.TheVariants as V
use Rattle.ix_device_rules.specs.Rules
use Rattle.ix_device_rules.proofs.KnownSteps.{known_names}
use Rattle.ix_device_rules.proofs.Unfit.{kept, told}
use Rattle.ix_device_rules.proofs.first_broken.from_names.Goals as goal

pub returns-in-Ok : goal.returns-in-Ok
returns-in-Ok c = kept V.M1 (Rules.names_differ c.args.rec.now) (known_names c.args.rec.now) (Rules.first_of_rules (drop 1 (Rules.rules c.args.rec.now))) c.new-walk.result c.new-walk.ensures c.names_differ.new.walk c.in-Ok.field-0 c.in-Ok.ensures.walks c.from_wires.result c.from_wires.ensures

pub returns-in-Err : goal.returns-in-Err
returns-in-Err c = told V.M1 (Rules.names_differ c.args.rec.now) (known_names c.args.rec.now) (Rules.first_of_rules (drop 1 (Rules.rules c.args.rec.now))) c.new-walk.result c.new-walk.ensures c.names_differ.new.walk c.in-Err.stop c.broken.result c.in-Err.ensures.walks c.broken.ensures
