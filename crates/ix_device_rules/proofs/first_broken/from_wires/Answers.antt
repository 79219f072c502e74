use Rattle.std.proofs.Common.{drop}
use Rattle.ix_rec.specs.declared.place.Rule.TheVariants as V
use Rattle.ix_device_rules.specs.Rules
use Rattle.ix_device_rules.proofs.KnownSteps.{known_wires}
use Rattle.ix_device_rules.proofs.Unfit.{kept, told}
use Rattle.ix_device_rules.proofs.first_broken.from_wires.Goals as goal

pub returns-in-Ok : goal.returns-in-Ok
returns-in-Ok c = kept V.M2 (Rules.wires_stand c.args.rec.now) (known_wires c.args.rec.now) (Rules.first_of_rules (drop 2 (Rules.rules c.args.rec.now))) c.new-walk.result c.new-walk.ensures c.wires_stand.new.walk c.in-Ok.field-0 c.in-Ok.ensures c.from_site_wires.result c.from_site_wires.ensures

pub returns-in-Err : goal.returns-in-Err
returns-in-Err c = told V.M2 (Rules.wires_stand c.args.rec.now) (known_wires c.args.rec.now) (Rules.first_of_rules (drop 2 (Rules.rules c.args.rec.now))) c.new-walk.result c.new-walk.ensures c.wires_stand.new.walk c.in-Err.stop c.broken.result c.in-Err.ensures c.broken.ensures
