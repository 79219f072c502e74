use Rattle.std.proofs.Common.{◌≡◌, ℕ, ◌+◌, List, sym, subst, arith}
use Rattle.ix_lut.specs.declared.shape.Tie.{Tie}
use Rattle.ix_lut.proofs.Showing.{Shows, shows_tie, shows_none, shows_all}
use Rattle.ix_lut.proofs.cells.shown_ties.Goals as goal
use Rattle.ix_lut.proofs.cells.shown_ties.Goals.{then-tieable-line, else-tieable-line}

pub loop-line-preserved : goal.loop-line-preserved
loop-line-preserved c =
    let P : List Tie → Type 0 = λ ties. Shows c.args.tieable.now c.args.held.now (c.loop-line.line + 1) ties in
    elim c.if-tieable-line.branch [
      | then-tieable-line w ↦ subst P (sym w.ties-is)
          (shows_tie c.args.tieable.now c.args.held.now c.loop-line.line c.loop-line.ties c.loop-line.invariant c.loop-line-test.true w.if-tieable-line.true)
      | else-tieable-line w ↦ subst P (sym w.ties-is)
          (shows_none c.args.tieable.now c.args.held.now c.loop-line.line c.loop-line.ties c.loop-line.invariant w.if-tieable-line.false)
    ]

pub returns : goal.returns
returns c =
    let done : c.loop-line.line ≡ 12 = omega (arith, c.loop-line-test.false, c.loop-line.auto.line-end) in
    let shows = subst (λ (n : ℕ). Shows c.args.tieable.now c.args.held.now n c.loop-line.ties) done c.loop-line.invariant in
    record {
      shown = shows_all c.args.tieable.now c.args.held.now c.loop-line.ties c.told-tieable shows;
      hidden = shows.hidden;
    }
