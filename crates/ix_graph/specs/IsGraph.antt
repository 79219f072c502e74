-- What holds of the parts of each graph.
use Rattle.std.specs.Prelude.{◌≡◌, ◌<◌, ◌^◌, ℕ, List, length, Option}
use Rattle.ix_num.specs.declared.resource.Constant.{Constant}
use Rattle.ix_rows.specs.declared.rows.Rows.{Rows}
use Rattle.ix_graph.specs.declared.edges.Edge.{Edge}
use Rattle.ix_graph.specs.declared.pips.Pips.{Pips}
use Rattle.ix_graph.specs.Pips.{ways_from}
use Rattle.ix_graph.specs.Tables.{ArePips}
use Rattle.ix_graph.specs.Edges.{HaveNodes, AreRows}

-- Nodes have numbers of 32 bits; each has its row of edges, and its constant or none.
pub record IsGraph (wires : List (List ℕ)) (firsts : List (ℕ × ℕ)) (pips : Pips) (rows : Rows Edge)
    (constants : List (Option Constant)) : Type 0 where
  pub few : length firsts < 2 ^ 32
  pub tables : ArePips pips
  pub nodes : HaveNodes wires pips.types pips.kinds (length firsts)
  pub edges : AreRows wires (ways_from pips.types 0 0 pips.kinds) (length firsts) rows
  pub same_length : length constants ≡ length firsts
