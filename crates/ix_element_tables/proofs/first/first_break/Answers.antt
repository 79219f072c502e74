use Rattle.std.proofs.Common.{◌≡◌, subst, length, arith}
use Rattle.ix_element_tables.specs.Least.{IsLeast}
use Rattle.ix_element_tables.proofs.Firsts.{none_broken}
use Rattle.ix_element_tables.proofs.first.first_break.Goals as goal

pub loop-placement-init : goal.loop-placement-init
loop-placement-init c = none_broken c.args.on.now.names.now c.args.on.now.device.now
    c.args.on.now.phys.now

pub with_placement-first-requires-clause-first : goal.with_placement-first-requires-clause-first
with_placement-first-requires-clause-first c = c.loop-placement.invariant

pub loop-placement-preserved : goal.loop-placement-preserved
loop-placement-preserved c = c.with_placement-first.ensures

pub returns : goal.returns
returns c = subst (λ n. IsLeast c.args.on.now.names.now c.args.on.now.device.now
    c.args.on.now.phys.now n c.loop-placement.first)
    (let end : c.loop-placement.placement ≡ length c.args.on.now.phys.now.placements = omega arith
    in end) c.loop-placement.invariant
