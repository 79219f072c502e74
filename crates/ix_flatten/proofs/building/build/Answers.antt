use Rattle.std.proofs.Common.{◌∙◌, List, ap, length, subst, sym, ℕ}
use Rattle.std.specs.FinMap.{get, get-empty}
use Rattle.std.specs.Ordering.{nat_cmp}
use Rattle.ix_flatten.specs.Stages.{AreCellTables, AreLeafTables}
use Rattle.ix_flatten.proofs.FlatOf.{flat_of, is_ready, tables_there}
use Rattle.ix_flatten.proofs.building.build.Goals as goal

pub cell_tables-requires-clause-there : goal.cell_tables-requires-clause-there
cell_tables-requires-clause-there c =
    let listed = c.args.listed in
    let tables = c.args.tables.now in
    subst (λ (ls : List ℕ). AreLeafTables listed.joined ls (length tables))
    (sym c.deref-3.ensures.value)
    (tables_there c.requires.built.0 c.args.device.now c.args.rec.now listed tables
    c.requires.built.1)

pub returns : goal.returns
returns c = record {
  flat = λ known is.
      let device = c.args.device.now in
      let design = c.args.rec.now in
      let listed = c.args.listed in
      let tables = c.args.tables.now in
      flat_of known device design listed tables c.in_ok-wiring.wiring c.in_ok-tables.tables
      c.new.result c.from_vec.result c.from_vec-2.result is
      (c.in_ok-wiring.ensures known
      (is_ready known device design listed tables c.deref.result.now c.deref-2.result.now is
      c.deref.ensures.value c.deref-2.ensures.value))
      (subst (λ (ls : List ℕ). AreCellTables listed.joined listed.named.ports ls tables
      c.in_ok-tables.tables) c.deref-3.ensures.value c.in_ok-tables.ensures)
      (λ cell. ap (λ m. get m cell) c.new.ensures ∙ get-empty nat_cmp cell) c.from_vec.ensures
      c.from_vec-2.ensures;
}
