use Rattle.std.proofs.Common.{drop, Ok, None, refl}
use Rattle.ix_rec.specs.declared.place.Rule.TheVariants as V
use Rattle.ix_device_rules.specs.Rules
use Rattle.ix_device_rules.proofs.KnownSteps.{known_tiles}
use Rattle.ix_device_rules.proofs.Unfit.{kept, told}
use Rattle.ix_device_rules.proofs.first_broken.from_tiles.Goals as goal

pub returns-in-Ok : goal.returns-in-Ok
returns-in-Ok c = kept V.M7 (Rules.tiles_are_few c.args.rec.now) (known_tiles c.args.rec.now) (Rules.first_of_rules (drop 7 (Rules.rules c.args.rec.now))) c.new-walk.result c.new-walk.ensures c.tiles_are_few.new.walk c.in-Ok.field-0 c.in-Ok.ensures (Ok None) refl

pub returns-in-Err : goal.returns-in-Err
returns-in-Err c = told V.M7 (Rules.tiles_are_few c.args.rec.now) (known_tiles c.args.rec.now) (Rules.first_of_rules (drop 7 (Rules.rules c.args.rec.now))) c.new-walk.result c.new-walk.ensures c.tiles_are_few.new.walk c.in-Err.stop c.broken.result c.in-Err.ensures c.broken.ensures
