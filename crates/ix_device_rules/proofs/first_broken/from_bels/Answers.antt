use Rattle.std.proofs.Common.{drop}
use Rattle.ix_rec.specs.declared.place.Rule.TheVariants as V
use Rattle.ix_device_rules.specs.Rules
use Rattle.ix_device_rules.proofs.KnownSteps.{known_bels}
use Rattle.ix_device_rules.proofs.Unfit.{kept, told}
use Rattle.ix_device_rules.proofs.first_broken.from_bels.Goals as goal

pub returns-in-Ok : goal.returns-in-Ok
returns-in-Ok c = kept V.M4 (Rules.pins_have_bels c.args.rec.now) (known_bels c.args.rec.now) (Rules.first_of_rules (drop 4 (Rules.rules c.args.rec.now))) c.new-walk.result c.new-walk.ensures c.pins_have_bels.new.walk c.in-Ok.field-0 c.in-Ok.ensures c.from_lut_elements.result c.from_lut_elements.ensures

pub returns-in-Err : goal.returns-in-Err
returns-in-Err c = told V.M4 (Rules.pins_have_bels c.args.rec.now) (known_bels c.args.rec.now) (Rules.first_of_rules (drop 4 (Rules.rules c.args.rec.now))) c.new-walk.result c.new-walk.ensures c.pins_have_bels.new.walk c.in-Err.stop c.broken.result c.in-Err.ensures c.broken.ensures
