use Rattle.std.proofs.Common.{ap, ◌∙◌, length}
use Rattle.ix_graph.proofs.NumberLemmas.{count_nodes}
use Rattle.ix_graph.proofs.TileNumbers.{all_inside}
use Rattle.ix_graph.proofs.nodes.nodes_of.Goals as goal

pub returns-clause-inside : goal.returns-clause-inside
returns-clause-inside c = all_inside c.args.device.now c.in_ok-wires.wires c.nodes_of_tiles.new.firsts c.in_ok-wires.ensures.wires c.in_ok-wires.ensures.firsts

pub returns-clause-count : goal.returns-clause-count
returns-clause-count c = ap length c.in_ok-wires.ensures.firsts ∙ count_nodes c.args.device.now
