use Rattle.ix_differences.proofs.Turns.{first_table_is}
use Rattle.ix_differences.proofs.cells.first_table.Goals as goal

pub returns : goal.returns
returns c = first_table_is c.args.names.now c.args.a.now.flat.now c.args.b.now.flat.now
    c.first_of.result c.requires.cells c.first_of.ensures
