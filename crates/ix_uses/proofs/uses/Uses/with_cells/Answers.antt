use Rattle.ix_uses.proofs.Fitted.{all_placed, placement_breaks, uses_are}
use Rattle.ix_uses.proofs.uses.Uses.with_cells.Goals as goal

pub returns-in-Ok-None-clause-uses : goal.returns-in-Ok-None-clause-uses
returns-in-Ok-None-clause-uses c = uses_are c.args.phys.now c.args.sites
    c.first_misplaced.new.bels c.requires.marked
    (c.in-Ok-None.ensures.noted c.in-Ok-None.field-0-is)

pub returns-in-Ok-None-clause-kept : goal.returns-in-Ok-None-clause-kept
returns-in-Ok-None-clause-kept c = all_placed c.args.device.now c.args.phys.now c.requires.fit
    (rw c.in-Ok-None.field-0-is at c.in-Ok-None.ensures.told)

pub returns-in-Ok-Some-clause-broken : goal.returns-in-Ok-Some-clause-broken
returns-in-Ok-Some-clause-broken c = placement_breaks c.args.device.now c.args.phys.now
    c.in-Ok-Some.i c.requires.fit (rw c.in-Ok-Some.field-0-is at c.in-Ok-Some.ensures.told)
