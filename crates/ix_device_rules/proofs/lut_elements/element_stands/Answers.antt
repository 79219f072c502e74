use Rattle.std.specs.List.{flat_map}
use Rattle.ix_device_rules.proofs.Steps.{walks_then, stops_too}
use Rattle.ix_device_rules.specs.Luts.{parts_of, lut_bel_by}
use Rattle.ix_device_rules.proofs.lut_elements.element_stands.Goals as goal

pub returns-in-Err-clause-walks : goal.returns-in-Err-clause-walks
returns-in-Err-clause-walks c = stops_too (flat_map (lut_bel_by (parts_of c.args.parts.now) c.args.seen.now c.args.element.now.width) c.args.element.now.bels) (c.in-Err.ensures)

pub returns-in-Err-lut_bels_stand-clause-walks : goal.returns-in-Err-lut_bels_stand-clause-walks
returns-in-Err-lut_bels_stand-clause-walks c = walks_then (c.in-Ok.ensures) (c.in-Err-lut_bels_stand.ensures)

pub returns-in-Ok-see_bels-clause-walks : goal.returns-in-Ok-see_bels-clause-walks
returns-in-Ok-see_bels-clause-walks c = walks_then c.in-Ok.ensures c.in-Ok-lut_bels_stand.ensures
