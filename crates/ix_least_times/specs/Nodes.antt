-- The edges of a node graph, as a search of least paths sees them.
use Rattle.std.specs.Prelude.{List, map, unwrap_or}
use Rattle.ix_num.specs.Numbers.{NodeNumber, PipNumber}
use Rattle.ix_graph.specs.Graph.{Graph, out_of, to_node}
use Rattle.ix_graph.specs.Pips.{DirectedPip}

-- a directed PIP as an edge: its number, and the node to which it goes, which each has
abbrev pub edge_seen : Graph → DirectedPip → PipNumber × NodeNumber
edge_seen graph e = (e.number, unwrap_or (to_node graph.wires e) 0)

-- the edges out of a node, in the order of their numbers
abbrev pub node_edges : Graph → NodeNumber → List (PipNumber × NodeNumber)
node_edges graph n = map (edge_seen graph) (out_of graph n)
