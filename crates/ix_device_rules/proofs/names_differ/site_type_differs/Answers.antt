use Rattle.ix_device_rules.specs.Rules
use Rattle.ix_device_rules.proofs.Steps.{walks_then, stops_too}
use Rattle.ix_device_rules.proofs.names_differ.site_type_differs.Goals as goal

pub returns-in-Err : goal.returns-in-Err
returns-in-Err c = stops_too (Rules.each_by_earlier Rules.bel_names c.args.site_type.now.bels) (stops_too (Rules.each_by_earlier Rules.site_pin_names c.args.site_type.now.pins) (stops_too (Rules.each_by_earlier (Rules.bel_pin_names c.args.site_type.now) c.args.site_type.now.bel_pins) (c.in-Err.ensures)))

pub returns-in-Err-bel_pins_differ : goal.returns-in-Err-bel_pins_differ
returns-in-Err-bel_pins_differ c = stops_too (Rules.each_by_earlier Rules.bel_names c.args.site_type.now.bels) (stops_too (Rules.each_by_earlier Rules.site_pin_names c.args.site_type.now.pins) (walks_then (c.in-Ok.ensures) (c.in-Err-bel_pins_differ.ensures)))

pub returns-in-Err-names_differ_in : goal.returns-in-Err-names_differ_in
returns-in-Err-names_differ_in c = stops_too (Rules.each_by_earlier Rules.bel_names c.args.site_type.now.bels) (walks_then (walks_then (c.in-Ok.ensures) (c.in-Ok-bel_pins_differ.ensures)) (c.in-Err-names_differ_in.ensures))

pub returns : goal.returns
returns c = walks_then (walks_then (walks_then (c.in-Ok.ensures) (c.in-Ok-bel_pins_differ.ensures)) (c.in-Ok-names_differ_in.ensures)) (c.names_differ_in-2.ensures)
