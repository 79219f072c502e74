use Rattle.std.proofs.Common.{◌≤◌, ◌+◌, ◌∙◌, sym, arith, length}
use Rattle.std.specs.FinMap.{entries, len-entries}
use Rattle.std.proofs.lemmas.Bool.{true≢false}
use Rattle.ix_phys_write.specs.Record.{IsPhysNamed}
use Rattle.ix_rec.specs.declared.phys.Phys.{Phys}
use Rattle.ix_fill_tables.specs.Completed.{IsCompleted}
use Rattle.ix_fill_tables.specs.Filled.{fillings_of}
use Rattle.ix_fill_tables.specs.Whole.{IsWithTables}
use Rattle.ix_fill_tables.proofs.Wholly.{completed, few_properties, have_sites, if_ok, named_after}
use Rattle.ix_fill_tables.proofs.whole.fill_tables_on.Goals as goal

pub with_tables-requires-clause-sites : goal.with_tables-requires-clause-sites
with_tables-requires-clause-sites c = have_sites c.args.names.now c.args.device.now c.args.phys
    c.args.flat.now c.in_ok-forced.forced c.requires.sound.named c.in_ok-forced.ensures.forced

pub with_tables-requires-clause-room : goal.with_tables-requires-clause-room
with_tables-requires-clause-room c =
    let count = len-entries c.in_ok-forced.forced in
    let few = c.in_ok-forced.ensures.few in
    let room = c.requires.room in
    omega (arith, count, few, room)

pub returns-clause-completed : goal.returns-clause-completed
returns-clause-completed c =
    if_ok (IsWithTables c.with_tables.new.names c.args.phys
    (fillings_of (entries c.in_ok-forced.forced)))
    (IsCompleted c.with_tables.new.names c.args.device.now c.args.phys c.args.flat.now)
    c.with_tables.result
    (completed c.args.names.now c.with_tables.new.names c.args.device.now c.args.phys
    c.args.flat.now c.in_ok-forced.forced c.with_tables.ensures.keeps c.requires.sound.named
    (λ has. true≢false (sym (c.has_tables.ensures.1 has) ∙ c.if-has_tables.false))
    c.in_ok-forced.ensures.forced) c.with_tables.ensures.filled

pub returns-clause-named : goal.returns-clause-named
returns-clause-named c =
    if_ok (IsWithTables c.with_tables.new.names c.args.phys
    (fillings_of (entries c.in_ok-forced.forced))) (IsPhysNamed c.with_tables.new.names)
    c.with_tables.result
    (named_after c.args.names.now c.with_tables.new.names c.with_tables.ensures.keeps c.args.phys
    (fillings_of (entries c.in_ok-forced.forced)) c.requires.sound.named)
    c.with_tables.ensures.filled

pub returns-clause-few : goal.returns-clause-few
returns-clause-few c =
    if_ok (IsWithTables c.with_tables.new.names c.args.phys
    (fillings_of (entries c.in_ok-forced.forced)))
    (λ (filled : Phys). length filled.properties
    ≤ length c.args.phys.properties + length c.args.phys.placements) c.with_tables.result
    (few_properties c.with_tables.new.names c.args.phys c.in_ok-forced.forced
    (length c.args.phys.placements) c.in_ok-forced.ensures.few) c.with_tables.ensures.filled

pub returns-clause-most : goal.returns-clause-most
returns-clause-most c =
    let count = len-entries c.in_ok-forced.forced in
    let few = c.in_ok-forced.ensures.few in
    let most = c.with_tables.ensures.most in
    omega (arith, count, few, most)
