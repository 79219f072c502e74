use Rattle.ix_shelf.proofs.Pieces.{take-cut}
use Rattle.ix_shelf.proofs.files.next_piece.Goals as goal

pub returns : goal.returns
returns c = take-cut c.args.bytes.now c.args.at _ c.min-size.result c.min-size.ensures
