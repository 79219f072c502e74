use Rattle.ix_differences.proofs.Turns.{first_cell_is}
use Rattle.ix_differences.proofs.cells.first_cell.Goals as goal

pub returns : goal.returns
returns c = first_cell_is c.args.names.now c.args.a.now.flat.now c.args.b.now.flat.now
    c.first_of-in_a.result c.first_of-in_b.result c.earlier_cell.result c.first_of-in_a.ensures
    c.first_of-in_b.ensures c.earlier_cell.ensures
