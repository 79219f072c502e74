use Rattle.std.proofs.Common.{length, sym, subst, arith}
use Rattle.ix_flat.specs.Range.{IsInRange}
use Rattle.ix_flat.specs.Whole.{IsWhole}
use Rattle.ix_belmap.specs.Failing.{IsFirstOf}
use Rattle.ix_belmap.specs.Pins.{is_second}
use Rattle.ix_belmap.proofs.FixedPorts.{in_range, place_there, same_flat, whole}
use Rattle.ix_belmap.proofs.pins.fixed_pins.Goals as goal

pub broken-requires-clause-place : goal.broken-requires-clause-place
broken-requires-clause-place c =
    let lt = place_there c.args.names.now c.args.device.now c.args.rec.now c.args.flat c.in-Ok.all
    c.in-Some.place
    c.in-Ok.ensures c.requires.ports c.in-Some.ensures.1 in
    let le = c.requires.range.numbers.ports in omega arith

pub broken-requires-in-Ok-Some-clause-place : goal.broken-requires-in-Ok-Some-clause-place
broken-requires-in-Ok-Some-clause-place c =
    let told = subst (IsFirstOf (is_second c.in-Ok.all) (length c.in-Ok.all))
    c.in-Ok-Some.field-0-is c.in-Ok-Some.ensures in
    let lt = place_there c.args.names.now c.args.device.now c.args.rec.now c.args.flat c.in-Ok.all
    c.in-Ok-Some.place
    c.in-Ok.ensures c.requires.ports told.1 in
    let le = c.requires.range.numbers.ports in omega arith

pub returns-in-Ok-sites-clause-range : goal.returns-in-Ok-sites-clause-range
returns-in-Ok-sites-clause-range c =
    let same = same_flat c.args.flat c.with_sites.result c.in-Ok-sites.sites
    c.with_sites.ensures.fixed
    c.with_sites.ensures.cells c.with_sites.ensures.ports c.with_sites.ensures.nets
    c.with_sites.ensures.pins
    c.with_sites.ensures.tables in
    subst (IsInRange c.args.device.now) (sym same)
    (in_range c.args.names.now c.args.device.now c.args.rec.now c.args.flat c.in-Ok.all
    c.in-Ok-sites.sites
    c.in-Ok.ensures c.requires.ports c.in-Ok-sites.ensures c.requires.range)

pub returns-in-Ok-sites-clause-whole : goal.returns-in-Ok-sites-clause-whole
returns-in-Ok-sites-clause-whole c was =
    let same = same_flat c.args.flat c.with_sites.result c.in-Ok-sites.sites
    c.with_sites.ensures.fixed
    c.with_sites.ensures.cells c.with_sites.ensures.ports c.with_sites.ensures.nets
    c.with_sites.ensures.pins
    c.with_sites.ensures.tables in
    subst (IsWhole c.args.names.now c.args.device.now) (sym same)
    (whole c.args.names.now c.args.device.now c.args.rec.now c.args.flat c.in-Ok.all
    c.in-Ok-sites.sites
    c.in-Ok.ensures c.requires.ports c.in-Ok-sites.ensures was)
