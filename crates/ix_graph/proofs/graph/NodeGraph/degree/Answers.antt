use Rattle.std.proofs.Common.{rules, ◌<◌, ◌^◌, ap, ◌∙◌, sym, subst, length}
use Rattle.std.proofs.lemmas.List.{length-map}
use Rattle.ix_rows.specs.Rows.{row_of}
use Rattle.ix_graph.specs.Edges.{told}
use Rattle.ix_graph.proofs.GraphLemmas.{few_out}
use Rattle.ix_graph.proofs.graph.NodeGraph.degree.Goals as goal

pub overflow_cast-result : goal.overflow_cast-result
overflow_cast-result c =
    let few : c.len.result < 2 ^ 32 = subst (λ n. n < 2 ^ 32) (sym (c.len.ensures ∙ sym (length-map (row_of c.self.inside.rows c.get.result) told) ∙ ap length (c.self.invariant.edges.edges c.get.result) ∙ length-map _ _)) (few_out _ _ _ c.self.invariant.tables.starts.few) in
    search rules
