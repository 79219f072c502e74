use Rattle.std.proofs.Common.{◌∙◌, arith, refl}
use Rattle.ix_differences.specs.Earliest.{AgreesOn}
use Rattle.ix_differences.proofs.Turns.{cell_agrees, cell_differs, cells_done, not_so}
use Rattle.ix_differences.proofs.cells.first_of.Goals as goal
use Rattle.ix_differences.proofs.cells.first_of.Goals.{then-not-agree, else-not-agree}

pub loop-i-preserved : goal.loop-i-preserved
loop-i-preserved c = elim c.if-not-agree.branch [
  | then-not-agree w ↦ cell_differs c.args.names.now
      (AgreesOn c.args.asked c.args.a.now.flat.now c.args.b.now.flat.now) c.args.cells.now
      c.loop-i.i c.at.result.now.name c.at.result.now c.loop-i.first c.if-not-agree.first
      c.at.ensures refl (c.requires.named c.loop-i.i c.at.result.now c.at.ensures)
      (not_so c.agree.result c.agree.ensures w.if-not-agree.true)
      (w.first-is ∙ w.earlier_cell-first.ensures) c.loop-i.invariant
  | else-not-agree w ↦ cell_agrees c.args.names.now
      (AgreesOn c.args.asked c.args.a.now.flat.now c.args.b.now.flat.now) c.args.cells.now
      c.loop-i.i c.at.result.now.name c.at.result.now c.loop-i.first c.if-not-agree.first
      c.at.ensures refl (c.agree.ensures.0 w.if-not-agree.false)
      w.first-is c.loop-i.invariant
]

pub returns : goal.returns
returns c = cells_done c.args.names.now
    (AgreesOn c.args.asked c.args.a.now.flat.now c.args.b.now.flat.now) c.args.cells.now
    c.loop-i.i c.loop-i.first (omega arith) c.loop-i.invariant
