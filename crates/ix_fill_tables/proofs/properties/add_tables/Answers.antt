use Rattle.std.specs.FinMap.{entries}
use Rattle.ix_fill_tables.proofs.Adding.{next_site, next_added}
use Rattle.ix_fill_tables.proofs.properties.add_tables.Goals as goal

pub add_table-requires-clause-site : goal.add_table-requires-clause-site
add_table-requires-clause-site c = next_site c.args.names.now c.args.instances.now
    c.args.properties.now (entries c.args.forced.now) c.loop-at.at-iterator c.next.new.self
    (c.in-Some.at.now, c.in-Some.bits.now) c.loop-at.names c.loop-at.properties
    c.in-Some.ensures.steps c.loop-at.invariant c.requires.sites

pub loop-at-preserved : goal.loop-at-preserved
loop-at-preserved c = next_added c.args.names.now c.args.instances.now
    c.args.properties.now (entries c.args.forced.now) c.loop-at.at-iterator c.next.new.self
    (c.in-Some.at.now, c.in-Some.bits.now) c.loop-at.names c.loop-at.properties
    c.in-Some.ensures.steps c.loop-at.invariant c.add_table.new.names
    c.add_table.new.properties c.add_table.ensures.keeps c.add_table.ensures.most
    c.in_ok-add_table.ensures.added
