use Rattle.std.proofs.Common.{◌≡◌, ◌≤◌, ◌<◌, subst, arith, length}
use Rattle.ix_device.specs.Pins.{AreOwnLines}
use Rattle.ix_device.proofs.LineLemmas.{unusable_bel, unusable_after, one_more_lut_bel, usable_whole}
use Rattle.ix_device.proofs.usable.is_usable.Goals as goal

pub returns-in-None : goal.returns-in-None
returns-in-None c =
    unusable_bel c.args.pins.now.ty.now c.args.element.now c.loop-i.i c.at.result.now c.at.ensures (subst (AreOwnLines c.args.pins.now.ty.now c.at.result.now) c.in-None.is c.in_ok-own_lines.ensures)

pub returns-then-len-gt-MOST_LINES : goal.returns-then-len-gt-MOST_LINES
returns-then-len-gt-MOST_LINES c =
    unusable_after c.args.pins.now.ty.now c.args.element.now c.loop-i.i c.at.result.now c.at.ensures c.loop-i.all c.add_lines.new.all c.in-Some.lines c.loop-i.invariant
    (subst (AreOwnLines c.args.pins.now.ty.now c.at.result.now) c.in-Some.is c.in_ok-own_lines.ensures) c.in_ok-add_lines-in-Some.ensures
    (let many : 12 < length c.add_lines.new.all = omega (arith, c.if-len-gt-MOST_LINES.true, c.len-in-loop-i.ensures) in many)

pub loop-i-preserved : goal.loop-i-preserved
loop-i-preserved c =
    one_more_lut_bel c.args.pins.now.ty.now c.args.element.now c.loop-i.i c.at.result.now c.at.ensures c.loop-i.all c.add_lines.new.all c.in-Some.lines c.loop-i.invariant
    (subst (AreOwnLines c.args.pins.now.ty.now c.at.result.now) c.in-Some.is c.in_ok-own_lines.ensures) c.in_ok-add_lines-in-Some.ensures
    (let few : length c.add_lines.new.all ≤ 12 = omega (arith, c.if-len-gt-MOST_LINES.false, c.len-in-loop-i.ensures) in few)

pub returns : goal.returns
returns c =
    usable_whole c.args.pins.now.ty.now c.args.element.now c.loop-i.i c.loop-i.all
    (let end : c.loop-i.i ≡ length c.args.element.now.bels = omega (arith, c.loop-i-test.false, c.loop-i.auto.i-end, c.len-i-end.ensures) in end)
    (let few : length c.args.element.now.bels ≤ 8 = omega (arith, c.if-len-gt-MOST_BELS.false, c.len.ensures) in few) c.loop-i.invariant
