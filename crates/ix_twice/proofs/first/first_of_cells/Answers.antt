use Rattle.std.proofs.Common.{◌≡◌, sym, subst, Option, ℕ, ◌∙◌, arith, length, get_or}
use Rattle.std.proofs.lemmas.Option.{slice_get-get_or}
use Rattle.ix_twice.specs.Repeats.{IsLeast}
use Rattle.ix_twice.specs.Turns.{IsTwice, NoneTwice}
use Rattle.ix_twice.proofs.Reached.{met_within, looked_up, none_from}
use Rattle.ix_twice.proofs.Turns.{cell_within, cell_there, rows_of_cell, none_in_cell, none_in_leaf, found_in_cell}
use Rattle.ix_twice.proofs.first.first_of_cells.Goals as goal
use Rattle.ix_twice.proofs.first.first_of_cells.Goals.{in-Some+in_ok-net+in_default-2, in_default}

pub bounds : goal.bounds
bounds c =
    let d : ℕ = get_or c.args.met.now c.loop-declaration.declaration-index 0 in
    let is = slice_get-get_or c.args.met.now c.loop-declaration.declaration-index 0 c.loop-declaration-test.true in
    let within = met_within (length c.args.names.now) c.args.rec.now c.args.met.now c.loop-declaration.declaration-index d c.requires.fits c.requires.met is in
    omega (arith, c.requires.cells.many)

pub first_in_cell-requires-clause-own : goal.first_in_cell-requires-clause-own
first_in_cell-requires-clause-own c =
    let d : ℕ = get_or c.args.met.now c.loop-declaration.declaration-index 0 in
    let is = slice_get-get_or c.args.met.now c.loop-declaration.declaration-index 0 c.loop-declaration-test.true in
    let within = met_within (length c.args.names.now) c.args.rec.now c.args.met.now c.loop-declaration.declaration-index d c.requires.fits c.requires.met is in
    omega (
      arith,
      c.requires.own.starts_many,
      cell_within c.args.rec.now d c.in-Some.cell
          (looked_up c.args.rec.now c.args.cells.now d c.requires.cells within ∙ c.in-Some.is),
    )

pub first_in_cell-requires-clause-outer : goal.first_in_cell-requires-clause-outer
first_in_cell-requires-clause-outer c =
    let d : ℕ = get_or c.args.met.now c.loop-declaration.declaration-index 0 in
    let is = slice_get-get_or c.args.met.now c.loop-declaration.declaration-index 0 c.loop-declaration-test.true in
    let within = met_within (length c.args.names.now) c.args.rec.now c.args.met.now c.loop-declaration.declaration-index d c.requires.fits c.requires.met is in
    omega (
      arith,
      c.requires.outer.starts_many,
      cell_within c.args.rec.now d c.in-Some.cell
          (looked_up c.args.rec.now c.args.cells.now d c.requires.cells within ∙ c.in-Some.is),
    )

pub returns-in-Some-2 : goal.returns-in-Some-2
returns-in-Some-2 c =
    let i : ℕ = c.loop-declaration.declaration-index in
    let d : ℕ = get_or c.args.met.now i 0 in
    let is = slice_get-get_or c.args.met.now i 0 c.loop-declaration-test.true in
    let within = met_within (length c.args.names.now) c.args.rec.now c.args.met.now i d c.requires.fits c.requires.met is in
    let first = looked_up c.args.rec.now c.args.cells.now d c.requires.cells within ∙ c.in-Some.is in
    let its = cell_there c.args.rec.now d c.in-Some.cell first in
    let are = rows_of_cell c.args.names.now c.args.rec.now c.args.met.now i d c.in-Some.cell its.0 c.args.own.now c.args.outer.now c.args.written.now
    c.len-count.ensures.differ c.requires.met c.requires.own c.requires.outer c.requires.written is first its.1 in
    let least = subst (λ (o : Option ℕ). IsLeast (IsTwice c.args.names.now c.args.rec.now its.0) o) c.in-Some-2.is
    (c.in_ok-net.ensures c.args.names.now c.args.rec.now its.0 are) in
    found_in_cell c.args.names.now c.args.rec.now c.args.met.now i d c.in-Some.cell c.in-Some-2.net its.0 c.loop-declaration.invariant
    is first its.1 least.0 least.1

pub loop-declaration-preserved : goal.loop-declaration-preserved
loop-declaration-preserved c =
    let i : ℕ = c.loop-declaration.declaration-index in
    let d : ℕ = get_or c.args.met.now i 0 in
    let is = slice_get-get_or c.args.met.now i 0 c.loop-declaration-test.true in
    let within = met_within (length c.args.names.now) c.args.rec.now c.args.met.now i d c.requires.fits c.requires.met is in
    let look = looked_up c.args.rec.now c.args.cells.now d c.requires.cells within in
    elim c.match-cells-declaration.branch [
      | in-Some+in_ok-net+in_default-2 w ↦
          let first = look ∙ w.in-Some.is in
          let its = cell_there c.args.rec.now d w.in-Some.cell first in
          let are = rows_of_cell c.args.names.now c.args.rec.now c.args.met.now i d w.in-Some.cell its.0 c.args.own.now c.args.outer.now c.args.written.now
          c.len-count.ensures.differ c.requires.met c.requires.own c.requires.outer c.requires.written is first its.1 in
          let least = subst (λ (o : Option ℕ). IsLeast (IsTwice c.args.names.now c.args.rec.now its.0) o)
          (none_from w.in_ok-net.field-0 (λ x e. w.in_default-2.not-Some x e))
          (w.in_ok-net.ensures c.args.names.now c.args.rec.now its.0 are) in
          none_in_cell c.args.names.now c.args.rec.now c.args.met.now i d w.in-Some.cell its.0 c.loop-declaration.invariant is first its.1 least
      | in_default w ↦
          none_in_leaf c.args.names.now c.args.rec.now c.args.met.now i d c.loop-declaration.invariant is
          (none_from _ (λ x e. w.in_default.not-Some x (sym look ∙ e)))
    ]

pub returns : goal.returns
returns c =
    let done : c.loop-declaration.declaration-index ≡ length c.args.met.now = omega arith in
    subst (λ (n : ℕ). NoneTwice c.args.names.now c.args.rec.now c.args.met.now n) done c.loop-declaration.invariant
