use Rattle.std.proofs.Common.{◌≡◌, arith}
use Rattle.std.specs.Prelude.{length}
use Rattle.ix_net_trees.proofs.Mapping.{mapped_more, mapped_all}
use Rattle.ix_net_trees.proofs.mapped.mapped_pins.Goals as goal

pub loop-i-preserved : goal.loop-i-preserved
loop-i-preserved c = mapped_more c.args.phys.now c.loop-i.keys c.add_pins.new.keys c.loop-i.i
    c.at.result.now c.loop-i.invariant c.at.ensures c.in_ok-add_pins.ensures

pub returns : goal.returns
returns c =
    let all : c.loop-i.i ≡ length c.args.phys.now.placements =
    let count = c.len-i-end.ensures in
    let past = c.loop-i-test.false in
    let within = c.loop-i.auto.i-end in
    omega (arith, count, past, within) in
    mapped_all c.args.phys.now c.loop-i.keys c.loop-i.i all c.loop-i.invariant
