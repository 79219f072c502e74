use Rattle.std.specs.List.{flat_map}
use Rattle.ix_device_rules.specs.Rules
use Rattle.ix_device_rules.proofs.Steps.{walks_then, stops_too}
use Rattle.ix_device_rules.proofs.pins_have_bels.site_type_fits.Goals as goal

pub returns-in-Err : goal.returns-in-Err
returns-in-Err c = stops_too (flat_map (Rules.pip_is_of_one_bel c.args.site_type.now) c.args.site_type.now.site_pips) (c.in-Err.ensures)

pub returns-in-Ok : goal.returns-in-Ok
returns-in-Ok c = walks_then (c.in-Ok.ensures) (c.site_pips_fit.ensures)
