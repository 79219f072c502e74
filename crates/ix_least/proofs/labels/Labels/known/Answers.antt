use Rattle.ix_least.proofs.Slots.{known_label}
use Rattle.ix_least.proofs.labels.Labels.known.Goals as goal

pub returns : goal.returns
returns c =
    known_label c.self.inside.search c.self.inside.slots.items c.args.self.now c.args.p
    c.index-slot.result.now c.self.view_is c.index-slot.ensures c.requires.0 c.requires.1
