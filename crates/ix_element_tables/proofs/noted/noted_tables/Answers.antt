use Rattle.std.proofs.Common.{◌≡◌, subst, arith, length}
use Rattle.ix_element_tables.specs.Noted.{AreNoted}
use Rattle.ix_element_tables.proofs.Noting.{none_noted}
use Rattle.ix_element_tables.proofs.noted.noted_tables.Goals as goal

pub loop-placement-init : goal.loop-placement-init
loop-placement-init c = none_noted c.args.on.now.names.now c.args.on.now.device.now
    c.args.on.now.phys.now c.args.on.now.numbers.now c.count.result c.in_ok-tables.tables
    c.count.ensures c.in_ok-tables.ensures

pub note-requires-clause-noted : goal.note-requires-clause-noted
note-requires-clause-noted c = c.loop-placement.invariant

pub loop-placement-preserved : goal.loop-placement-preserved
loop-placement-preserved c = c.in_ok-note.ensures.noted

pub returns : goal.returns
returns c = subst (λ n. AreNoted c.args.on.now.names.now c.args.on.now.device.now
    c.args.on.now.phys.now c.args.on.now.numbers.now n c.loop-placement.tables)
    (let end : c.loop-placement.placement ≡ length c.args.on.now.phys.now.placements = omega arith
    in end) c.loop-placement.invariant
