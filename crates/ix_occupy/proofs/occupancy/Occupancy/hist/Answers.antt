use Rattle.std.proofs.Common.{◌∙◌, sym}
use Rattle.ix_occupy.proofs.Views.{hist_read}
use Rattle.ix_occupy.proofs.occupancy.Occupancy.hist.Goals as goal

pub returns-clause-value : goal.returns-clause-value
returns-clause-value c =
    c.from.ensures
    ∙ sym (hist_read c.args.self.now c.self.inside.loads.items c.args.node c.get.result
    c.index.result.now c.self.view_is c.requires c.get.ensures c.index.ensures)
