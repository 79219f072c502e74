use Rattle.std.proofs.Common.{drop}
use Rattle.ix_rec.specs.declared.place.Rule.TheVariants as V
use Rattle.ix_device_rules.specs.Rules
use Rattle.ix_device_rules.proofs.KnownSteps.{known_sites}
use Rattle.ix_device_rules.proofs.Unfit.{kept, told}
use Rattle.ix_device_rules.proofs.first_broken.from_site_pins.Goals as goal

pub returns-in-Ok : goal.returns-in-Ok
returns-in-Ok c = kept V.M6 (Rules.site_pins_have_wires c.args.rec.now) (known_sites c.args.rec.now) (Rules.first_of_rules (drop 6 (Rules.rules c.args.rec.now))) c.new-walk.result c.new-walk.ensures c.site_pins_have_wires.new.walk c.in-Ok.field-0 c.in-Ok.ensures c.from_tiles.result c.from_tiles.ensures

pub returns-in-Err : goal.returns-in-Err
returns-in-Err c = told V.M6 (Rules.site_pins_have_wires c.args.rec.now) (known_sites c.args.rec.now) (Rules.first_of_rules (drop 6 (Rules.rules c.args.rec.now))) c.new-walk.result c.new-walk.ensures c.site_pins_have_wires.new.walk c.in-Err.stop c.broken.result c.in-Err.ensures c.broken.ensures
