use Rattle.std.proofs.Common.{◌≡◌, ℕ, ◌<◌, length, subst, arith}
use Rattle.ix_lut.specs.Shapes.{held_by}
use Rattle.ix_lut.specs.Forcing.{CanComplete}
use Rattle.ix_lut.specs.declared.shape.Tie.TheVariants.{Vcc, Gnd}
use Rattle.ix_lut.proofs.Tying.{can_when_apart, apart_past, can_skip_to, can_earlier, can_unset, cannot}
use Rattle.ix_lut.proofs.forcing.+can_complete.Goals as goal

pub returns-then-are_apart-clause-yes : goal.returns-then-are_apart-clause-yes
returns-then-are_apart-clause-yes t c = λ e. can_when_apart c.args.luts.now c.args.tieable.now (held_by c.args.held) c.args.from
    (c.are_apart.ensures.yes c.if-are_apart.true)

pub returns-then-line-eq12-clause-no : goal.returns-then-line-eq12-clause-no
returns-then-line-eq12-clause-no t c = λ e can. c.are_apart.ensures.no c.if-are_apart.false
    (apart_past c.args.luts.now c.args.tieable.now (held_by c.args.held) c.told-tieable
    (subst (λ (n : ℕ). CanComplete c.args.luts.now c.args.tieable.now (held_by c.args.held) n) c.if-line-eq12.true
    (can_skip_to c.args.luts.now c.args.tieable.now (held_by c.args.held) c.args.from c.next_tieable-line.result
    c.next_tieable-line.ensures.first can)))

pub returns-then-can_complete-clause-yes : goal.returns-then-can_complete-clause-yes
returns-then-can_complete-clause-yes t c = λ e.
    let line : ℕ = c.next_tieable-line.result in
    let long : length c.args.held ≡ 12 = omega arith in
    let inside : line < 12 = omega (arith, c.next_tieable-line.ensures.within, c.if-line-eq12.false) in
    can_earlier c.args.luts.now c.args.tieable.now (held_by c.args.held) c.args.from line c.next_tieable-line.ensures.after
    (can_unset c.args.luts.now c.args.tieable.now c.args.held line long inside (c.next_tieable-line.ensures.is inside) Vcc
    (c.can_complete.ensures.yes c.if-can_complete.true))

pub returns-clause-yes : goal.returns-clause-yes
returns-clause-yes t c = λ e.
    let line : ℕ = c.next_tieable-line.result in
    let long : length c.args.held ≡ 12 = omega arith in
    let inside : line < 12 = omega (arith, c.next_tieable-line.ensures.within, c.if-line-eq12.false) in
    can_earlier c.args.luts.now c.args.tieable.now (held_by c.args.held) c.args.from line c.next_tieable-line.ensures.after
    (can_unset c.args.luts.now c.args.tieable.now c.args.held line long inside (c.next_tieable-line.ensures.is inside) Gnd
    (c.can_complete-2.ensures.yes e))

pub returns-clause-no : goal.returns-clause-no
returns-clause-no t c = λ e can.
    let line : ℕ = c.next_tieable-line.result in
    let long : length c.args.held ≡ 12 = omega arith in
    let inside : line < 12 = omega (arith, c.next_tieable-line.ensures.within, c.if-line-eq12.false) in
    cannot c.args.luts.now c.args.tieable.now c.args.held line long inside (c.next_tieable-line.ensures.is inside)
    (c.can_complete.ensures.no c.if-can_complete.false) (c.can_complete-2.ensures.no e)
    (can_skip_to c.args.luts.now c.args.tieable.now (held_by c.args.held) c.args.from line c.next_tieable-line.ensures.first can)
