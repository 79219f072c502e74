use Rattle.std.proofs.Common.{◌≡◌, ℕ, ◌+◌, List, sym, subst, arith}
use Rattle.ix_lut.specs.Shapes.{held_by}
use Rattle.ix_lut.specs.declared.shape.Tie.{Tie}
use Rattle.ix_lut.proofs.Tying.{TiesBelow, ties_first, ties_next, ties_skip, ties_done}
use Rattle.ix_lut.proofs.forcing.least_ties.Goals as goal
use Rattle.ix_lut.proofs.forcing.least_ties.Goals.{then-tieable-line, else-tieable-line}

pub loop-line-init : goal.loop-line-init
loop-line-init c = ties_first c.args.luts.now c.args.tieable.now (held_by c.args.held)
    (c.can_complete.ensures.yes c.if-not-can_complete.false)

pub loop-line-preserved : goal.loop-line-preserved
loop-line-preserved c =
    let P : List Tie → Type 0 = λ ties. TiesBelow c.args.luts.now c.args.tieable.now (held_by c.args.held) (held_by ties) (c.loop-line.line + 1) in
    elim c.if-tieable-line.branch [
      | then-tieable-line w ↦ subst P (sym w.ties-is)
          (ties_next c.args.luts.now c.args.tieable.now (held_by c.args.held) (held_by c.loop-line.ties) (held_by w.set_least_tie.new.held)
          c.loop-line.line w.if-tieable-line.true w.set_least_tie.ensures.kept w.set_least_tie.ensures.can w.set_least_tie.ensures.least
          c.loop-line.invariant)
      | else-tieable-line w ↦ subst P (sym w.ties-is)
          (ties_skip c.args.luts.now c.args.tieable.now (held_by c.args.held) (held_by c.loop-line.ties) c.loop-line.line
          w.if-tieable-line.false c.loop-line.invariant)
    ]

pub returns-clause-least : goal.returns-clause-least
returns-clause-least c =
    let done : c.loop-line.line ≡ 12 = omega (arith, c.loop-line-test.false, c.loop-line.auto.line-end) in
    ties_done c.args.luts.now c.args.tieable.now (held_by c.args.held) (held_by c.loop-line.ties) c.told-tieable
    (subst (λ (n : ℕ). TiesBelow c.args.luts.now c.args.tieable.now (held_by c.args.held) (held_by c.loop-line.ties) n) done c.loop-line.invariant)
