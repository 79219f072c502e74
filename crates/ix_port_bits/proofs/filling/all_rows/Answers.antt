use Rattle.std.proofs.Common.{◌≡◌, ℕ, ◌+◌, ◌++◌, length, arith, get_or, sym, ap, ◌∙◌, subst, List, Vec, Global, set}
use Rattle.std.proofs.lemmas.Option.{slice_get-get_or}
use Rattle.ix_hierarchy.specs.declared.row.Row.{Row}
use Rattle.ix_hierarchy.specs.Lists.{AreRowsOf}
use Rattle.ix_port_bits.specs.Listed.{IsRow}
use Rattle.ix_port_bits.specs.Filled.{AreFilled}
use Rattle.ix_port_bits.proofs.Reached.{met_within, looked_up, none_from}
use Rattle.ix_port_bits.proofs.Together.{filled_more, filled_same, cell_within, all_filled}
use Rattle.ix_port_bits.proofs.filling.all_rows.Goals as goal
use Rattle.ix_port_bits.proofs.filling.all_rows.Goals.{in-Some+in_ok-more+in_ok-put_cell, in_default}

pub bounds : goal.bounds
bounds c =
    let d : ℕ = get_or c.args.met.now c.loop-declaration.declaration-index 0 in
    let is = slice_get-get_or c.args.met.now c.loop-declaration.declaration-index 0 c.loop-declaration-test.true in
    let within = met_within c.requires.fits.0 c.args.rec.now c.args.met.now c.loop-declaration.declaration-index d c.requires.fits.1 c.requires.met is in
    omega (arith, c.requires.cells.many)

pub at-requires : goal.at-requires
at-requires c =
    let d : ℕ = get_or c.args.met.now c.loop-declaration.declaration-index 0 in
    let is = slice_get-get_or c.args.met.now c.loop-declaration.declaration-index 0 c.loop-declaration-test.true in
    let within = met_within c.requires.fits.0 c.args.rec.now c.args.met.now c.loop-declaration.declaration-index d c.requires.fits.1 c.requires.met is in
    cell_within c.args.rec.now d c.in-Some.cell
    (looked_up c.args.rec.now c.args.cells.now d c.requires.cells within ∙ c.in-Some.is)

pub put_cell-requires-clause-start : goal.put_cell-requires-clause-start
put_cell-requires-clause-start c =
    let d : ℕ = get_or c.args.met.now c.loop-declaration.declaration-index 0 in
    let is = slice_get-get_or c.args.met.now c.loop-declaration.declaration-index 0 c.loop-declaration-test.true in
    let within = met_within c.requires.fits.0 c.args.rec.now c.args.met.now c.loop-declaration.declaration-index d c.requires.fits.1 c.requires.met is in
    omega (
      arith,
      c.loop-declaration.invariant.starts_many,
      cell_within c.args.rec.now d c.in-Some.cell
          (looked_up c.args.rec.now c.args.cells.now d c.requires.cells within ∙ c.in-Some.is),
    )

pub put_cell-requires-clause-end : goal.put_cell-requires-clause-end
put_cell-requires-clause-end c =
    let d : ℕ = get_or c.args.met.now c.loop-declaration.declaration-index 0 in
    let is = slice_get-get_or c.args.met.now c.loop-declaration.declaration-index 0 c.loop-declaration-test.true in
    let within = met_within c.requires.fits.0 c.args.rec.now c.args.met.now c.loop-declaration.declaration-index d c.requires.fits.1 c.requires.met is in
    omega (
      arith,
      c.loop-declaration.invariant.ends_many,
      cell_within c.args.rec.now d c.in-Some.cell
          (looked_up c.args.rec.now c.args.cells.now d c.requires.cells within ∙ c.in-Some.is),
    )

pub loop-declaration-preserved : goal.loop-declaration-preserved
loop-declaration-preserved c =
    let i : ℕ = c.loop-declaration.declaration-index in
    let d : ℕ = get_or c.args.met.now i 0 in
    let is = slice_get-get_or c.args.met.now i 0 c.loop-declaration-test.true in
    let within = met_within c.requires.fits.0 c.args.rec.now c.args.met.now i d c.requires.fits.1 c.requires.met is in
    let first = looked_up c.args.rec.now c.args.cells.now d c.requires.cells within in
    let items : Vec Row Global → List Row = λ v. v.items in
    let numbers : Vec ℕ Global → List ℕ = λ v. v.items in
    elim c.match-cells-declaration.branch [
      | in-Some+in_ok-more+in_ok-put_cell w ↦
          let filled = filled_more c.args.own c.args.rec.now c.args.met.now i c.loop-declaration.rows.items w.in_ok-more.more.items
          c.loop-declaration.starts.items c.loop-declaration.ends.items d w.in-Some.cell w.at.result.now c.requires.met.differ
          c.loop-declaration.invariant is (first ∙ w.in-Some.is) w.at.ensures w.in_ok-more.ensures in
          let same = w.deref.ensures.value in
          let rows_are : c.match-cells-declaration.rows.items ≡ c.loop-declaration.rows.items ++ w.in_ok-more.more.items =
          ap items w.rows-is ∙ w.in_ok-put_cell.ensures.rows ∙ ap (λ (xs : List Row). c.loop-declaration.rows.items ++ xs) same in
          let starts_are = ap numbers w.starts-is ∙ w.in_ok-put_cell.ensures.starts in
          let ends_are = ap numbers w.ends-is ∙ w.in_ok-put_cell.ensures.ends
          ∙ ap (λ (xs : List Row). set c.loop-declaration.ends.items w.in-Some.cell (length c.loop-declaration.rows.items + length xs)) same in
          subst (λ (xs : List Row). AreFilled c.args.own c.args.rec.now c.args.met.now (i + 1) xs c.match-cells-declaration.starts.items c.match-cells-declaration.ends.items) (sym rows_are)
          (subst (λ (xs : List ℕ). AreFilled c.args.own c.args.rec.now c.args.met.now (i + 1) (c.loop-declaration.rows.items ++ w.in_ok-more.more.items) xs c.match-cells-declaration.ends.items) (sym starts_are)
          (subst (λ (xs : List ℕ). AreFilled c.args.own c.args.rec.now c.args.met.now (i + 1) (c.loop-declaration.rows.items ++ w.in_ok-more.more.items) (set c.loop-declaration.starts.items w.in-Some.cell (length c.loop-declaration.rows.items)) xs) (sym ends_are) filled))
      | in_default w ↦
          let filled = filled_same c.args.own c.args.rec.now c.args.met.now i c.loop-declaration.rows.items
          c.loop-declaration.starts.items c.loop-declaration.ends.items d c.loop-declaration.invariant is
          (none_from _ (λ x e. w.in_default.not-Some x (sym first ∙ e))) in
          subst (λ (xs : List Row). AreFilled c.args.own c.args.rec.now c.args.met.now (i + 1) xs c.match-cells-declaration.starts.items c.match-cells-declaration.ends.items) (sym (ap items w.rows-is))
          (subst (λ (xs : List ℕ). AreFilled c.args.own c.args.rec.now c.args.met.now (i + 1) c.loop-declaration.rows.items xs c.match-cells-declaration.ends.items) (sym (ap numbers w.starts-is))
          (subst (λ (xs : List ℕ). AreFilled c.args.own c.args.rec.now c.args.met.now (i + 1) c.loop-declaration.rows.items c.loop-declaration.starts.items xs) (sym (ap numbers w.ends-is)) filled))
    ]

pub returns : goal.returns
returns c =
    let many : c.loop-declaration.declaration-index ≡ length c.args.met.now = omega arith in
    let filled = all_filled c.args.own c.args.rec.now c.args.met.now c.loop-declaration.rows.items c.loop-declaration.starts.items
    c.loop-declaration.ends.items c.requires.met
    (subst (λ (n : ℕ). AreFilled c.args.own c.args.rec.now c.args.met.now n c.loop-declaration.rows.items c.loop-declaration.starts.items c.loop-declaration.ends.items) many c.loop-declaration.invariant) in
    let e = c.of.ensures in
    subst (λ (xs : List Row). AreRowsOf c.args.rec.now (IsRow c.args.own) xs c.of.result.starts c.of.result.ends) (sym e.rows)
    (subst (λ (xs : List ℕ). AreRowsOf c.args.rec.now (IsRow c.args.own) c.loop-declaration.rows.items xs c.of.result.ends) (sym e.starts)
    (subst (λ (xs : List ℕ). AreRowsOf c.args.rec.now (IsRow c.args.own) c.loop-declaration.rows.items c.loop-declaration.starts.items xs) (sym e.ends) filled))
