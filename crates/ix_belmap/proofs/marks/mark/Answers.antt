use Rattle.std.proofs.Common.{◌<◌, refl, ap, sym, subst, ◌∙◌, length, length-set, Some, true, arith}
use Rattle.std.proofs.lemmas.Option.{slice_get_read}
use Rattle.ix_belmap.specs.Marks.{AddsMarks}
use Rattle.ix_belmap.proofs.Lists.{among, take_all}
use Rattle.ix_belmap.proofs.Marking.{marks_more, marks_none}
use Rattle.ix_belmap.proofs.marks.mark.Goals as goal

pub loop-i-init : goal.loop-i-init
loop-i-init c = (refl, marks_none c.args.taken.now.items c.args.cells.now.items)

pub index_mut-requires : goal.index_mut-requires
index_mut-requires c =
    let cells = c.args.cells.now.items in
    let at = slice_get_read cells (length cells) c.loop-i.i c.index.result.now refl
    (omega arith) c.index.ensures in
    let lt : c.index.result.now < length c.args.taken.now.items
    = among (λ cell. cell < length c.args.taken.now.items) cells c.loop-i.i c.index.result.now
    c.requires at in
    let same = c.loop-i.invariant.0 in let is = c.get.ensures in omega arith

pub loop-i-preserved : goal.loop-i-preserved
loop-i-preserved c =
    let cells = c.args.cells.now.items in
    let at = slice_get_read cells (length cells) c.loop-i.i c.index.result.now refl
    (omega arith) c.index.ensures in
    let lt : c.index.result.now < length c.args.taken.now.items
    = among (λ cell. cell < length c.args.taken.now.items) cells c.loop-i.i c.index.result.now
    c.requires at in
    let same = c.loop-i.invariant.0 in let is = c.get.ensures in (
      length-set c.loop-i.taken.items c.get.result true ∙ same,
      marks_more cells c.args.taken.now.items c.loop-i.taken.items c.loop-i.i c.get.result
          (at ∙ ap Some (sym is)) c.loop-i.invariant.1 (omega arith),
    )

pub returns-clause-count : goal.returns-clause-count
returns-clause-count c = c.loop-i.invariant.0

pub returns-clause-marks : goal.returns-clause-marks
returns-clause-marks c =
    subst (λ l. AddsMarks l c.args.taken.now.items c.loop-i.taken.items)
    (take_all c.args.cells.now.items c.loop-i.i (omega arith)) c.loop-i.invariant.1
