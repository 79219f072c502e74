use Rattle.ix_least.proofs.Slots.{read_label, read_none}
use Rattle.ix_least.proofs.labels.Labels.at.Goals as goal

pub returns-then-slot-self : goal.returns-then-slot-self
returns-then-slot-self c =
    read_label c.self.inside.search c.self.inside.slots.items c.args.self.now c.args.p
    c.index-slot.result.now c.self.view_is c.requires c.index-slot.ensures c.if-slot-self.true

pub returns-else-slot-self : goal.returns-else-slot-self
returns-else-slot-self c =
    read_none c.self.inside.search c.self.inside.slots.items c.args.self.now c.args.p
    c.index-slot.result.now c.self.view_is c.requires c.index-slot.ensures c.if-slot-self.false
