use Rattle.std.proofs.Common.{take}
use Rattle.ix_table_keys.specs.Places.{ArePlacesByName}
use Rattle.ix_fill_tables.specs.Told.{name_of}
use Rattle.ix_fill_tables.proofs.told.ToldTables.new.Given as goal

abbrev pub invariant-loop-q : goal.invariant-loop-q
invariant-loop-q l = ArePlacesByName name_of (take l.q l.flat.cells) l.fn.names l.cells
