use Rattle.ix_flow.proofs.Answering.{placed_told}
use Rattle.ix_flow.proofs.answer.place.Goals as goal

pub returns-in-Ok-clause-placed : goal.returns-in-Ok-clause-placed
returns-in-Ok-clause-placed c = placed_told c.fits_have_own_places.ensures c.args.device.now c.args.names.now c.args.cells.now
    c.in-Ok.phys c.in-Ok.ensures.fitted
    (c.in-Ok.ensures.named c.args.names.now c.requires.named c.requires.cells)
