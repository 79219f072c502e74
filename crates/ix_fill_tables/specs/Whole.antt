-- A netlist whose properties have tables besides.
use Rattle.std.specs.Prelude.{◌≡◌, List}
use Rattle.ix_message.specs.Shape.{Text}
use Rattle.ix_rec.specs.declared.phys.Phys.{Phys}
use Rattle.ix_fill_tables.specs.Completed.{Filling}
use Rattle.ix_fill_tables.specs.Filled.{AreAdded}

-- It has the tables of these elements, and the rest as before.
pub record IsWithTables (names : List Text) (phys : Phys) (fillings : List Filling) (filled : Phys)
    : Type 0 where
  pub added : AreAdded names phys.site_insts phys.properties fillings filled.properties
  pub rest : filled ≡ record {
    part = phys.part;
    placements = phys.placements;
    nets = phys.nets;
    site_insts = phys.site_insts;
    properties = filled.properties;
  }
