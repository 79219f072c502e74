use Rattle.std.proofs.Common.{rules, ◌≡◌, ◌<◌, ◌+◌, ◌^◌, min, length, slice_get, get_or, Some}
use Rattle.std.proofs.Common.{arith}
use Rattle.std.proofs.Common.{ap, ◌∙◌}
use Rattle.std.proofs.lemmas.Option.{slice_get-get_or}
use Rattle.ix_hierarchy.specs.Hierarchy.{inside}
use Rattle.ix_counted.specs.Counts.{in_inside}
use Rattle.ix_counted.proofs.Counting.{closed_within, counts_turn, kind_in}
use Rattle.ix_counted.proofs.count.counts_of.Goals as goal

pub bounds-kinds-d : goal.bounds-kinds-d
bounds-kinds-d c =
    let lt : get_or c.args.closed.now c.loop-declaration.declaration-index 0
    < length c.args.rec.now.cell_decls = closed_within c.args.rec.now c.args.closed.now
    c.loop-declaration.declaration-index _ c.requires.fits c.requires.closed
    (slice_get-get_or c.args.closed.now c.loop-declaration.declaration-index 0
    c.loop-declaration-test.true) in
    let many : length c.args.kinds.now ≡ length c.args.rec.now.cell_decls =
    c.requires.kinds.1.many in
    omega arith

pub count_of-requires-clause-kind : goal.count_of-requires-clause-kind
count_of-requires-clause-kind c =
    let lt : get_or c.args.closed.now c.loop-declaration.declaration-index 0
    < length c.args.rec.now.cell_decls = closed_within c.args.rec.now c.args.closed.now
    c.loop-declaration.declaration-index _ c.requires.fits c.requires.closed
    (slice_get-get_or c.args.closed.now c.loop-declaration.declaration-index 0
    c.loop-declaration-test.true) in
    let many : length c.args.kinds.now ≡ length c.args.rec.now.cell_decls =
    c.requires.kinds.1.many in
    kind_in c.requires.kinds.0 c.args.rec.now _ _ (c.requires.kinds.1.each _ _
    (slice_get-get_or c.args.kinds.now
    (get_or c.args.closed.now c.loop-declaration.declaration-index 0) _ (omega arith)))

pub index_mut-requires : goal.index_mut-requires
index_mut-requires c =
    let lt : get_or c.args.closed.now c.loop-declaration.declaration-index 0
    < length c.args.rec.now.cell_decls = closed_within c.args.rec.now c.args.closed.now
    c.loop-declaration.declaration-index _ c.requires.fits c.requires.closed
    (slice_get-get_or c.args.closed.now c.loop-declaration.declaration-index 0
    c.loop-declaration-test.true) in
    let many : length c.loop-declaration.counts.items ≡ length c.args.rec.now.cell_decls =
    c.loop-declaration.invariant.many in
    let here : get_or c.args.closed.now c.loop-declaration.declaration-index 0
    < length c.loop-declaration.counts.items = omega arith in
    search rules

pub loop-declaration-preserved : goal.loop-declaration-preserved
loop-declaration-preserved c =
    let at : slice_get c.args.closed.now c.loop-declaration.declaration-index
    ≡ Some (get_or c.args.closed.now c.loop-declaration.declaration-index 0) =
    slice_get-get_or c.args.closed.now c.loop-declaration.declaration-index 0
    c.loop-declaration-test.true in
    let lt : get_or c.args.closed.now c.loop-declaration.declaration-index 0
    < length c.args.rec.now.cell_decls = closed_within c.args.rec.now c.args.closed.now
    c.loop-declaration.declaration-index _ c.requires.fits c.requires.closed at in
    let many : length c.loop-declaration.counts.items ≡ length c.args.rec.now.cell_decls =
    c.loop-declaration.invariant.many in
    counts_turn c.args.rec.now c.args.closed.now c.loop-declaration.counts.items
    c.loop-declaration.declaration-index
    (get_or c.args.closed.now c.loop-declaration.declaration-index 0) c.count_of.result
    c.requires.closed c.loop-declaration.invariant at (omega arith)
    (c.count_of.ensures ∙ ap (λ l. min (in_inside c.args.rec.now (λ d. get_or l d 0)
    (inside c.args.rec.now (get_or c.args.closed.now c.loop-declaration.declaration-index 0)))
    (2 ^ 22 + 1)) c.deref.ensures.value)
