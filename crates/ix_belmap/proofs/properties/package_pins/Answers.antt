use Rattle.std.proofs.Common.{ap, ◌∙◌, codes}
use Rattle.ix_keys.specs.Keys.{name_key}
use Rattle.ix_first.specs.First.{value_at}
use Rattle.ix_strings.specs.Names.{number_of}
use Rattle.ix_belmap.specs.Pins.{package_pins, pins_by, value_of_key}
use Rattle.ix_belmap.proofs.Values.{same_values}
use Rattle.ix_belmap.proofs.properties.package_pins.Goals as goal

pub returns : goal.returns
unfolding package_pins
returns c = c.pins_told.ensures ∙ ap (pins_by c.args.device.now)
    (c.property.ensures ∙ same_values (λ k. value_at c.in_ok-values.values (name_key k))
    (value_of_key c.args.design.now.prop_map.entries)
    (number_of c.args.names.now (codes "PACKAGE")) c.in_ok-values.ensures)
