use Rattle.std.proofs.Common.{length, subst, sym}
use Rattle.ix_rec.specs.declared.device.DeviceRec.{DeviceRec}
use Rattle.ix_hierarchy.specs.Fits.{AreInputsNamed}
use Rattle.ix_flatten.proofs.Whole.{few_cells, flattened, inputs_more, kept_more, sound}
use Rattle.ix_flatten.proofs.flat.flatten.Goals as goal

pub judge-requires-clause-inputs : goal.judge-requires-clause-inputs
judge-requires-clause-inputs c =
    subst (λ (d : DeviceRec). AreInputsNamed (length c.list.new.names) d)
    (sym c.rec-device.ensures.same)
    (inputs_more (length c.args.names.now) (length c.list.new.names) c.args.device.now
    (kept_more c.args.names.now c.list.new.names c.list.ensures.keeps) c.requires.inputs)

pub returns-clause-flat : goal.returns-clause-flat
returns-clause-flat c =
    flattened c.list.new.names c.args.device.now c.rec-device.result.now c.args.rec.now
    c.in_ok-listed.listed c.in_ok-tables.tables.items c.deref.result.now c.in_ok-build.field-0
    c.rec-device.ensures.same c.deref.ensures.value c.in_ok-listed.ensures.listed
    c.in_ok-tables.ensures.judged c.in_ok-build.ensures.flat

pub returns-clause-range : goal.returns-clause-range
returns-clause-range c =
    let names = c.list.new.names in
    let device = c.args.device.now in
    let same = c.rec-device.result.now in
    let design = c.args.rec.now in
    let listed = c.in_ok-listed.listed in
    let tables = c.in_ok-tables.tables.items in
    let flat = c.in_ok-build.field-0 in
    let made = flattened names device same design listed tables c.deref.result.now flat
    c.rec-device.ensures.same c.deref.ensures.value c.in_ok-listed.ensures.listed
    c.in_ok-tables.ensures.judged c.in_ok-build.ensures.flat in
    let inputs = inputs_more (length c.args.names.now) (length c.list.new.names) c.args.device.now
    (kept_more c.args.names.now c.list.new.names c.list.ensures.keeps) c.requires.inputs in
    (sound names device same design listed tables flat c.flat_designs_are_whole.ensures.law
    c.pins_are_apart.ensures.law c.rec-device.ensures.same c.in_ok-listed.ensures.listed inputs
    c.in_ok-tables.ensures.judged made).range

pub returns-clause-named : goal.returns-clause-named
returns-clause-named c =
    let names = c.list.new.names in
    let device = c.args.device.now in
    let same = c.rec-device.result.now in
    let design = c.args.rec.now in
    let listed = c.in_ok-listed.listed in
    let tables = c.in_ok-tables.tables.items in
    let flat = c.in_ok-build.field-0 in
    let made = flattened names device same design listed tables c.deref.result.now flat
    c.rec-device.ensures.same c.deref.ensures.value c.in_ok-listed.ensures.listed
    c.in_ok-tables.ensures.judged c.in_ok-build.ensures.flat in
    let inputs = inputs_more (length c.args.names.now) (length c.list.new.names) c.args.device.now
    (kept_more c.args.names.now c.list.new.names c.list.ensures.keeps) c.requires.inputs in
    (sound names device same design listed tables flat c.flat_designs_are_whole.ensures.law
    c.pins_are_apart.ensures.law c.rec-device.ensures.same c.in_ok-listed.ensures.listed inputs
    c.in_ok-tables.ensures.judged made).named

pub returns-clause-whole : goal.returns-clause-whole
returns-clause-whole c =
    let names = c.list.new.names in
    let device = c.args.device.now in
    let same = c.rec-device.result.now in
    let design = c.args.rec.now in
    let listed = c.in_ok-listed.listed in
    let tables = c.in_ok-tables.tables.items in
    let flat = c.in_ok-build.field-0 in
    let made = flattened names device same design listed tables c.deref.result.now flat
    c.rec-device.ensures.same c.deref.ensures.value c.in_ok-listed.ensures.listed
    c.in_ok-tables.ensures.judged c.in_ok-build.ensures.flat in
    let inputs = inputs_more (length c.args.names.now) (length c.list.new.names) c.args.device.now
    (kept_more c.args.names.now c.list.new.names c.list.ensures.keeps) c.requires.inputs in
    (sound names device same design listed tables flat c.flat_designs_are_whole.ensures.law
    c.pins_are_apart.ensures.law c.rec-device.ensures.same c.in_ok-listed.ensures.listed inputs
    c.in_ok-tables.ensures.judged made).whole

pub returns-clause-most_cells : goal.returns-clause-most_cells
returns-clause-most_cells c =
    let names = c.list.new.names in
    let device = c.args.device.now in
    let same = c.rec-device.result.now in
    let design = c.args.rec.now in
    let listed = c.in_ok-listed.listed in
    let tables = c.in_ok-tables.tables.items in
    let flat = c.in_ok-build.field-0 in
    let made = flattened names device same design listed tables c.deref.result.now flat
    c.rec-device.ensures.same c.deref.ensures.value c.in_ok-listed.ensures.listed
    c.in_ok-tables.ensures.judged c.in_ok-build.ensures.flat in
    few_cells names device same design listed flat c.designs_are_small.ensures.law
    c.in_ok-listed.ensures.listed made
