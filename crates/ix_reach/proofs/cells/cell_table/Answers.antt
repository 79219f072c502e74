use Rattle.std.proofs.Common.{◌≡◌, ◌≤◌, ◌<◌, ◌-◌, length, arith, refl}
use Rattle.std.proofs.lemmas.Option.{slice_get_read}
use Rattle.ix_reach.proofs.CellLemmas.{cells_turn}
use Rattle.ix_reach.proofs.cells.cell_table.Goals as goal

pub loop-cell-preserved : goal.loop-cell-preserved
loop-cell-preserved c =
    let below : c.at.result.now.index < length c.args.rec.now.cell_decls =
    c.requires.within (c.loop-cell.cell - 1) c.at.result.now c.at.ensures in
    let many : length c.loop-cell.first.items ≡ length c.args.rec.now.cell_decls =
    c.loop-cell.invariant.is.first_many in
    let le : c.loop-cell.cell ≤ length c.args.rec.now.cell_list = c.loop-cell.invariant.most in
    let test : 0 < c.loop-cell.cell = c.loop-cell-test.true in
    record {
      most = omega arith;
      is = cells_turn c.args.rec.now c.loop-cell.cell (c.loop-cell.cell - 1) c.at.result.now
          c.loop-cell.first.items c.loop-cell.next.items c.index.result.now (omega arith)
          c.loop-cell.invariant.is c.at.ensures
          (slice_get_read c.loop-cell.first.items (length c.loop-cell.first.items)
          c.at.result.now.index c.index.result.now refl (omega arith) c.index.ensures);
    }
