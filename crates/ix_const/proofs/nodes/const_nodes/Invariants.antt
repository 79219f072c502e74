use Rattle.std.proofs.Common.{◌≡◌}
use Rattle.std.specs.List.{filter, range_with_len}
use Rattle.ix_const.specs.Constants.{is_of_constant}
use Rattle.ix_const.proofs.nodes.const_nodes.Given as goal

abbrev pub invariant-loop-node : goal.invariant-loop-node
invariant-loop-node l =
    l.found.items ≡ filter (is_of_constant l.c l.graph) (range_with_len 0 l.node)
