use Rattle.ix_least.proofs.Slots.{settle_slot, no_label, settled_label}
use Rattle.ix_least.proofs.labels.Labels.settle.Goals as goal
use Rattle.ix_least.proofs.labels.Labels.settle.Goals.{then-slot-self-via-then-slot-self}
use Rattle.ix_least.proofs.labels.Labels.settle.Goals.{then-slot-self-via-else-slot-self+then-slot}

pub returns-then-slot-self-clause-before : goal.returns-then-slot-self-clause-before
returns-then-slot-self-clause-before c =
    elim c.then-slot-self.branch [
      | then-slot-self-via-then-slot-self w ↦ no_label c.self.inside.search
          c.self.inside.slots.items c.args.self.now c.args.p c.index_mut-slot.result.now
          c.self.view_is c.requires c.index_mut-slot.ensures.value w.if-slot-self.true
      | then-slot-self-via-else-slot-self+then-slot w ↦
          settled_label c.self.inside.search c.self.inside.slots.items c.args.self.now c.args.p
          c.index_mut-slot.result.now c.self.view_is c.requires c.index_mut-slot.ensures.value
          w.if-slot-self.false w.if-slot.true
    ]

pub returns-clause-settled : goal.returns-clause-settled
returns-clause-settled c = settle_slot c.self.inside.search c.self.inside.slots.items
    c.args.self.now c.args.p c.index_mut-slot.result.now c.self.view_is c.requires
    c.index_mut-slot.ensures.value c.if-slot-self.false c.if-slot.false
