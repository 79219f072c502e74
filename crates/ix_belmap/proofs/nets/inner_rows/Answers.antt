use Rattle.std.proofs.Common.{sym, ◌∙◌, length}
use Rattle.std.proofs.lemmas.List.{length-map}
use Rattle.ix_belmap.specs.Marks.{lists_of}
use Rattle.ix_belmap.proofs.Pinned.{row_there, rows_end, rows_next, rows_start}
use Rattle.ix_belmap.proofs.nets.inner_rows.Goals as goal

pub loop-cell-init : goal.loop-cell-init
loop-cell-init c =
    rows_start c.args.flat.now (lists_of c.in_ok-rows.rows.items) c.len.result
    c.into_iter-cell-iterator.result
    (c.into_iter-cell-iterator.ensures.into_iter_gives ∙ c.iter-cell-items.ensures.entries)
    c.len.ensures
    c.in_ok-rows.ensures

pub put_pin-requires : goal.put_pin-requires
put_pin-requires c =
    row_there c.args.flat.now (lists_of c.loop-cell.rows.items)
    (length c.loop-cell.rows.items) c.loop-cell.cell-iterator
    c.next.new.self (c.in-Some.field-0-0.now, c.in-Some.net.now) c.requires c.loop-cell.invariant
    c.in-Some.ensures.steps (sym (length-map c.loop-cell.rows.items (λ v. v.items)))

pub loop-cell-preserved : goal.loop-cell-preserved
loop-cell-preserved c =
    rows_next c.args.flat.now (lists_of c.loop-cell.rows.items)
    (lists_of c.put_pin.new.rows.items) c.loop-cell.cell-iterator
    c.next.new.self (c.in-Some.field-0-0.now, c.in-Some.net.now) c.requires c.loop-cell.invariant
    c.in-Some.ensures.steps
    (length-map c.put_pin.new.rows.items (λ v. v.items) ∙ c.in_ok-put_pin.ensures.count
    ∙ sym (length-map c.loop-cell.rows.items (λ v. v.items)))
    c.in_ok-put_pin.ensures.rows

pub returns : goal.returns
returns c =
    rows_end c.args.flat.now (lists_of c.loop-cell.rows.items) c.loop-cell.cell-iterator
    c.loop-cell.invariant
    c.in-None.ensures.steps.0
