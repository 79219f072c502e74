use Rattle.std.proofs.Common.{◌≡◌, length, arith}
use Rattle.ix_lut.proofs.Tying.{least_vcc, least_gnd, can_gnd}
use Rattle.ix_lut.proofs.forcing.set_least_tie.Goals as goal

pub returns-then-can_complete-2-clause-least : goal.returns-then-can_complete-2-clause-least
returns-then-can_complete-2-clause-least c =
    let long : length c.args.held.now ≡ 12 = omega arith in
    least_vcc c.args.luts.now c.args.tieable.now c.args.held.now c.args.line long c.requires.line c.requires.tieable
    (c.can_complete.ensures.no c.if-can_complete.false)

pub returns-clause-can : goal.returns-clause-can
returns-clause-can c =
    let long : length c.args.held.now ≡ 12 = omega arith in
    can_gnd c.args.luts.now c.args.tieable.now c.args.held.now c.args.line long c.requires.line c.requires.tieable
    (c.can_complete.ensures.no c.if-can_complete.false) (c.can_complete-2.ensures.no c.if-can_complete-2.false) c.requires.can

pub returns-clause-least : goal.returns-clause-least
returns-clause-least c =
    let long : length c.args.held.now ≡ 12 = omega arith in
    least_gnd c.args.luts.now c.args.tieable.now c.args.held.now c.args.line long c.requires.line c.requires.tieable
    (c.can_complete.ensures.no c.if-can_complete.false) (c.can_complete-2.ensures.no c.if-can_complete-2.false)
