use Rattle.std.proofs.Common.{◌<◌, ◌∙◌, None, ap, arith, get_or, length}
use Rattle.std.specs.FinMap.{get, get-empty}
use Rattle.std.specs.Ordering.{nat_cmp}
use Rattle.std.proofs.lemmas.Option.{slice_get-get_or}
use Rattle.ix_flatten.proofs.Tables.{instance_is, instance_there, number_less, tables_all}
use Rattle.ix_flatten.proofs.Tables.{tables_first, tables_next}
use Rattle.ix_flatten.proofs.building.cell_tables.Goals as goal

pub loop-k-init : goal.loop-k-init
loop-k-init c = tables_first c.args.joined.now c.args.ports c.args.leaves.now c.args.tables.now
    c.new-of_cells.result
    (λ cell. ap (λ m. get m cell) c.new-of_cells.ensures ∙ get-empty nat_cmp cell)

pub index-requires : goal.index-requires
index-requires c =
    let leaves = c.args.leaves.now in
    let all = c.args.joined.now.instances in
    let there : get_or leaves c.loop-k.k 0 < length all.items =
    instance_there c.args.joined.now leaves (length c.args.tables.now) c.loop-k.k
    c.requires.there c.loop-k-test.true in
    omega (arith, all.ok.0)

pub bounds-tables-number : goal.bounds-tables-number
bounds-tables-number c =
    number_less c.args.joined.now c.args.leaves.now (length c.args.tables.now) c.loop-k.k
    c.index.result.now c.requires.there c.loop-k-test.true c.index.ensures

pub loop-k-preserved : goal.loop-k-preserved
loop-k-preserved c =
    let joined = c.args.joined.now in
    let leaves = c.args.leaves.now in
    let tables = c.args.tables.now in
    let k = c.loop-k.k in
    let one = c.index.result.now in
    tables_next joined c.args.ports leaves tables k (get_or leaves k 0) one
    (get_or tables one.number None) c.loop-k.of_cells c.put_table.new.of_cells c.loop-k.invariant
    (slice_get-get_or leaves k 0 c.loop-k-test.true)
    (instance_is joined leaves (length tables) k one c.requires.there c.loop-k-test.true
    c.index.ensures)
    (slice_get-get_or tables one.number None
    (number_less joined leaves (length tables) k one c.requires.there c.loop-k-test.true
    c.index.ensures)) c.in_ok-put_table.ensures

pub returns : goal.returns
returns c = tables_all c.args.joined.now c.args.ports c.args.leaves.now c.args.tables.now c.loop-k.k
    c.loop-k.of_cells c.loop-k-test.false c.loop-k.invariant
