use Rattle.std.proofs.Common.{[], ◌∷◌, ◌++◌, ◌<◌, length, All, ap, ◌∙◌, sym, subst, arith}
use Rattle.std.specs.List.{filter, range_with_len}
use Rattle.std.proofs.lemmas.List.Elements.{All-filter}
use Rattle.ix_const.specs.Constants.{is_of_constant}
use Rattle.ix_const.proofs.Ranges.{one_tried, below_end}
use Rattle.ix_const.proofs.nodes.const_nodes.Goals as goal

pub loop-node-preserved : goal.loop-node-preserved
loop-node-preserved c =
    c.in_ok-put_node.ensures
    ∙ (ap (λ n. c.loop-node.found.items
    ++ filter (is_of_constant c.args.c c.args.graph.now) (n ∷ [])) c.new.ensures
    ∙ (ap (λ xs. xs ++ filter (is_of_constant c.args.c c.args.graph.now) (c.loop-node.node ∷ []))
    c.loop-node.invariant
    ∙ sym (one_tried (is_of_constant c.args.c c.args.graph.now) c.loop-node.node)))

pub returns-clause-inside : goal.returns-clause-inside
returns-clause-inside c =
    subst (All (λ n. n < length c.args.graph.now.firsts)) (sym c.loop-node.invariant)
    (All-filter (is_of_constant c.args.c c.args.graph.now)
    (λ n. n < length c.args.graph.now.firsts) (range_with_len 0 c.loop-node.node)
    (below_end 0 c.loop-node.node (length c.args.graph.now.firsts)
    (omega (arith, c.loop-node.auto.node-end, c.nodes-node-end.ensures))))
