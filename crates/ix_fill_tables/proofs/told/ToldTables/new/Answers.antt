use Rattle.std.proofs.Common.{◌∙◌, ap, nat_eq, option_map, arith}
use Rattle.ix_first.specs.First.{or_later, value_of}
use Rattle.ix_table_keys.proofs.Found.{one_more_by_name, none_by_name, all_by_name}
use Rattle.ix_fill_tables.specs.Told.{name_of}
use Rattle.ix_fill_tables.proofs.told.ToldTables.new.Goals as goal

pub loop-q-init : goal.loop-q-init
loop-q-init c = none_by_name name_of c.args.flat.now.cells c.args.names c.in_ok-cells.cells
    c.in_ok-cells.ensures

pub loop-q-preserved : goal.loop-q-preserved
loop-q-preserved c = one_more_by_name name_of c.args.flat.now.cells c.args.names c.loop-q.q
    c.get.result c.at.result.now c.loop-q.cells c.put.new.self c.at.ensures c.get.ensures
    c.loop-q.invariant (λ j. c.put.ensures j
    ∙ ap (λ n. option_map (λ v. or_later v (nat_eq c.get.result j) n)
    (value_of c.loop-q.cells j)) c.in_ok-number.ensures)

pub returns : goal.returns
returns c = all_by_name name_of c.args.flat.now.cells c.args.names c.loop-q.q c.loop-q.cells
    (omega arith) c.loop-q.invariant
