use Rattle.std.proofs.Common.{◌≡◌, List, map}
use Rattle.ix_hierarchy.specs.FlatDesign.{LeafCell}
use Rattle.ix_joined.specs.Joining.{Known, IsJoined}
use Rattle.ix_flat_lists.specs.Listed.{AreLeaves}
use Rattle.ix_lut_tables.specs.Tables.{table_of_instance}
use Rattle.ix_flat_rules.proofs.LeafTables.{NoneLacksTo}
use Rattle.ix_flat_rules.proofs.tables.first_without_table.Given as goal

abbrev pub invariant-loop-k : goal.invariant-loop-k
invariant-loop-k l = (known : Known) (cells : List LeafCell) → l.device ≡ known.device
    → IsJoined known l.rec l.joined → AreLeaves known l.rec l.leaves cells
    → l.tables ≡ map (table_of_instance known.names l.device l.rec) l.rec.inst_list
    → NoneLacksTo known cells l.k
