use Rattle.std.proofs.Common.{ap, sym, ◌∙◌, option_map}
use Rattle.ix_extract.proofs.Tabling.{lacks, not_without_function, not_without_table, something}
use Rattle.ix_extract.proofs.tables.table_of.Goals as goal

pub returns-in_default-2 : goal.returns-in_default-2
returns-in_default-2 c =
    let names = c.args.on.now.names.now in let rec = c.args.on.now.device.now in
    let phys = c.args.on.now.phys.now in
    let placement = c.at-placement.result.now in
    let lut = something c.cell.result c.is_none.result c.is_none.ensures c.if-is_none.false in
    lacks names rec phys c.args.cell placement c.at-placement.ensures lut.0.now
    (sym c.cell.ensures.cell ∙ ap (option_map (λ x. x.now)) lut.1)
    (λ table is. not_without_table names rec phys c.args.cell placement c.at-placement.ensures table
    is c.in-Some.element (sym c.in-Some.ensures)
    (rw c.in_default-2.is at c.in_ok-bits.ensures.table))

pub returns-in-None : goal.returns-in-None
returns-in-None c =
    let names = c.args.on.now.names.now in let rec = c.args.on.now.device.now in
    let phys = c.args.on.now.phys.now in
    let placement = c.at-placement.result.now in
    let lut = something c.cell.result c.is_none.result c.is_none.ensures c.if-is_none.false in
    lacks names rec phys c.args.cell placement c.at-placement.ensures lut.0.now
    (sym c.cell.ensures.cell ∙ ap (option_map (λ x. x.now)) lut.1)
    (λ table is. not_without_function names rec phys c.args.cell placement c.at-placement.ensures
    table is c.in-Some.element (sym c.in-Some.ensures) c.in-Some-2.bits
    (rw c.in-Some-2.is at c.in_ok-bits.ensures.table) c.in-None.ensures.none)
