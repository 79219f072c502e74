use Rattle.std.proofs.Common.{◌≡◌, ◌∙◌, ap, sym, arith, length}
use Rattle.std.specs.FinMap.{get}
use Rattle.ix_device.proofs.NumberedLemmas.{there_is}
use Rattle.ix_extract.proofs.Tabling.{no_tables, plain_next, table_next, tables_end}
use Rattle.ix_extract.proofs.tables.lut_tables.Goals as goal
use Rattle.ix_extract.proofs.tables.lut_tables.Goals.{in-Plain, in-Has+in_ok-insert-in-Has}

pub loop-cell-init : goal.loop-cell-init
loop-cell-init c = no_tables c.args.on.now.names.now c.args.on.now.device.now
    c.args.on.now.phys.now c.new-tables.result c.new-tables.ensures

pub loop-cell-preserved : goal.loop-cell-preserved
loop-cell-preserved c =
    let names = c.args.on.now.names.now in let rec = c.args.on.now.device.now in
    let phys = c.args.on.now.phys.now in
    let lt = c.loop-cell-test.true in
    let all = c.len-cell-end.ensures in
    let at = there_is phys.placements c.loop-cell.cell (omega (arith, lt, all)) in
    elim c.match-branch-2.branch [
      | in-Plain w ↦ plain_next names rec phys c.loop-cell.cell at.0 at.1 c.loop-cell.tables
          c.match-branch-2.tables c.loop-cell.invariant
          ((rw w.in-Plain.is at c.in_ok-table_of.ensures) at.0 at.1) w.tables-is
      | in-Has+in_ok-insert-in-Has w ↦
          table_next names rec phys c.loop-cell.cell at.0 at.1 c.loop-cell.tables
          c.match-branch-2.tables c.loop-cell.invariant c.function_is_one.ensures.law
          c.table_is_one.ensures.law c.requires.ready.sound.differ c.requires.ready.named
          w.in-Has.table (rw w.in-Has.is at c.in_ok-table_of.ensures)
          (ap (get c.match-branch-2.tables) (sym w.new.ensures)
          ∙ ap (λ m. get m w.new.result) w.tables-is ∙ w.in_ok-insert-in-Has.ensures.value)
          (λ q apart. ap (λ m. get m q) w.tables-is
          ∙ w.in_ok-insert-in-Has.ensures.others q (λ e. apart (e ∙ w.new.ensures)))
    ]

pub returns : goal.returns
returns c =
    let past = c.loop-cell-test.false in
    let all = c.len-cell-end.ensures in
    let end : c.loop-cell.cell ≡ length c.args.on.now.phys.now.placements =
    omega (arith, past, all, c.loop-cell.auto.cell-end) in
    tables_end c.args.on.now.names.now c.args.on.now.device.now c.args.on.now.phys.now
    c.loop-cell.cell c.loop-cell.tables end c.loop-cell.invariant
