use Rattle.std.proofs.Common.{refl, subst, ◌≤◌, length, arith, take_all}
use Rattle.ix_device.specs.Listed.{PutsMapping}
use Rattle.ix_device.proofs.Listings.{one_more_map}
use Rattle.ix_device.proofs.admissions.put_mapping.Goals as goal

pub loop-i-preserved : goal.loop-i-preserved
loop-i-preserved c =
    one_more_map c.args.types.now c.args.table.now c.loop-i.table c.put_map.new.table (record { cell = c.args.mapping.now.cell; mapping = c.args.place; pin_map = c.in_ok-number_of.field-0; differ = c.in_ok-pins_differ.field-0 }) c.args.place c.args.mapping.now.common_pins c.loop-i.i c.at-found.result.now c.at-found.ensures refl c.in_ok-number_of.ensures c.in_ok-pins_differ.ensures c.loop-i.invariant c.in_ok-put_map.ensures

pub returns : goal.returns
returns c =
    let le : length c.args.mapping.now.common_pins ≤ c.loop-i.i = omega arith in
    subst (PutsMapping c.args.types.now c.args.table.now c.loop-i.table c.args.place c.args.mapping.now.cell) (take_all c.loop-i.i c.args.mapping.now.common_pins le) c.loop-i.invariant
