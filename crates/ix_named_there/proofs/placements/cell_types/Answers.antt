use Rattle.std.proofs.Common.{◌+◌, sym, subst, take, arith}
use Rattle.ix_named_there.specs.Parts.{AreCellTypes}
use Rattle.ix_named_there.proofs.Turns.{one_more_type, type_past}
use Rattle.ix_named_there.proofs.placements.cell_types.Goals as goal
use Rattle.ix_named_there.proofs.placements.cell_types.Goals.{then-get-count, else-get-count}

pub loop-i-preserved : goal.loop-i-preserved
loop-i-preserved c = elim c.if-get-count.branch [
  | then-get-count w ↦ subst (AreCellTypes (take (c.loop-i.i + 1) c.rec.result.now.cell_bel_map)
      c.args.count) (sym w.types-is)
      (one_more_type c.rec.result.now.cell_bel_map c.args.count c.loop-i.i c.at.result.now
      c.loop-i.types w.add-new.new.self c.at.ensures c.loop-i.invariant w.add-new.ensures.marks
      w.add-new.ensures.count)
  | else-get-count w ↦ subst (AreCellTypes (take (c.loop-i.i + 1) c.rec.result.now.cell_bel_map)
      c.args.count) (sym w.types-is)
      (type_past c.rec.result.now.cell_bel_map c.args.count c.loop-i.i c.at.result.now
      c.loop-i.types c.at.ensures (omega arith) c.loop-i.invariant)
]
