use Rattle.std.proofs.Common.{◌≡◌, ap, sym, ◌∙◌, unwrap_or, take, arith}
use Rattle.ix_belmap.specs.Sites.{of_type}
use Rattle.ix_belmap.specs.Counts.{cells_of_type}
use Rattle.ix_belmap.proofs.Counting.{cells_start, cells_few, cells_step}
use Rattle.ix_belmap.proofs.cells.cell_counts.Goals as goal

pub loop-i-init : goal.loop-i-init
loop-i-init c ty = ap (λ o. unwrap_or o 0) (c.new-counts.ensures ty)
    ∙ sym (cells_start ty c.args.cells.now)

pub overflow_add-count : goal.overflow_add-count
overflow_add-count c =
    let ty = c.at.result.now.ty in
    let is : c.get-count.result ≡ cells_of_type ty (take c.loop-i.i c.args.cells.now) =
    c.get-count.ensures ∙ c.loop-i.invariant ty in
    let few = cells_few ty c.args.cells.now c.loop-i.i (omega arith) in omega arith

pub loop-i-preserved : goal.loop-i-preserved
loop-i-preserved c =
    cells_step c.args.cells.now c.loop-i.i c.at.result.now (of_type c.loop-i.counts)
    (of_type c.set.new.self) c.get-count.result c.at.ensures c.loop-i.invariant
    c.get-count.ensures
    c.in_ok-set.ensures
