use Rattle.std.proofs.Common.{◌≡◌, ℕ, ◌<◌, [], slice_index, Contains, sym, ◌∙◌, subst, arith}
use Rattle.std.proofs.lemmas.List.{length-set, get_or_default}
use Rattle.ix_lut.specs.Shapes.{bel_at, input_lines}
use Rattle.ix_lut.specs.Items.{use_at, item_at, number_in}
use Rattle.ix_lut.specs.Laid.{IsLaid}
use Rattle.ix_lut.specs.declared.uses.LutUse.{LutUse}
use Rattle.ix_lut.proofs.CellsLaid.{laid_next}
use Rattle.ix_lut.proofs.cells.lay_cells.Goals as goal

pub ready_lut-requires-clause-reached : goal.ready_lut-requires-clause-reached
ready_lut-requires-clause-reached c = λ i h.
    let uses = c.args.uses.now in
    let is : use_at uses c.loop-u.u ≡ c.index-uses-u.result =
    sym (c.index-uses-u.is ∙ get_or_default uses c.loop-u.u c.index-uses-u.result (record { bel = 0; table = record { bits = 0; inputs = 0 }; nets = [] }) c.loop-u-test.true) in
    let reached = subst (λ (cell : LutUse). (j : ℕ) → j < cell.table.inputs →
    Contains (input_lines (bel_at c.args.shape.now cell.bel)) (slice_index c.args.lines.now (number_in c.args.items.now (item_at cell.nets j))))
    is (λ j few. c.requires.reached c.loop-u.u j c.loop-u-test.true few) in
    subst (λ (l : ℕ). Contains (input_lines (bel_at c.args.shape.now c.index-uses-u.result.bel)) l) (sym (c.lines_of-chosen.ensures i h)) (reached i h)

pub loop-u-preserved : goal.loop-u-preserved
loop-u-preserved c =
    let shape = c.args.shape.now in
    let uses = c.args.uses.now in
    let u : ℕ = c.loop-u.u in
    let is : c.index-uses-u.result ≡ use_at uses u =
    c.index-uses-u.is ∙ get_or_default uses u c.index-uses-u.result (record { bel = 0; table = record { bits = 0; inputs = 0 }; nets = [] }) c.loop-u-test.true in
    let laid : IsLaid (bel_at shape c.index-uses-u.result.bel) c.index-uses-u.result c.args.items.now c.args.lines.now c.lines_of-chosen.result c.ready_lut.result = record {
      chosen = c.lines_of-chosen.ensures;
      ready = c.ready_lut.ensures.ready;
      bel_is = c.ready_lut.ensures.bel;
      table = c.ready_lut.ensures.table;
      places = c.ready_lut.ensures.places;
    } in
    record {
      choice_long = length-set c.loop-u.choice u c.lines_of-chosen.result ∙ c.loop-u.invariant.choice_long;
      luts_long = length-set c.loop-u.luts u c.ready_lut.result ∙ c.loop-u.invariant.luts_long;
      laid = laid_next shape uses c.args.items.now c.args.lines.now u c.loop-u.choice c.loop-u.luts c.lines_of-chosen.result c.ready_lut.result
          (omega (arith, c.loop-u.invariant.choice_long, c.loop-u-test.true, c.requires.uses))
          (omega (arith, c.loop-u.invariant.luts_long, c.loop-u-test.true, c.requires.uses))
          (subst (λ (cell : LutUse). IsLaid (bel_at shape cell.bel) cell c.args.items.now c.args.lines.now c.lines_of-chosen.result c.ready_lut.result) is laid)
          c.loop-u.invariant.laid;
    }
