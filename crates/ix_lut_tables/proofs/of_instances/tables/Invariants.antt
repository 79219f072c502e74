use Rattle.std.proofs.Common.{◌≡◌, map, take}
use Rattle.ix_lut_tables.specs.Tables.{table_of_instance, IsRead}
use Rattle.ix_lut_tables.proofs.of_instances.tables.Given as goal

abbrev pub invariant-loop-i : goal.invariant-loop-i
invariant-loop-i l = (l.tables.items
    ≡ map (table_of_instance l.names l.device l.rec) (take l.i l.rec.inst_list))
    × IsRead l.names l.read
