use Rattle.std.proofs.Common.{rules, ◌≡◌, ◌<◌, ◌≤◌, ◌∙◌, ap, sym, subst, length, map, nat_eq, true}
use Rattle.std.specs.List.{range_with_len, AllByRecursion, list_any}
use Rattle.std.proofs.lemmas.List.FromFn.{length-map-range_with_len}
use Rattle.ix_graph.specs.Nodes.{AreBelow}
use Rattle.ix_graph.specs.Pips.{conventional, ways_from}
use Rattle.ix_graph.specs.Constants.{constant_of_node}
use Rattle.ix_graph.specs.Spans.{span, greatest}
use Rattle.ix_graph.specs.Edges.{AreRows}
use Rattle.ix_graph.proofs.BuildLemmas.{have_nodes, same_graph}
use Rattle.ix_graph.proofs.SpanLemmas.{span_no_more, a_node_has_it}
use Rattle.ix_graph.proofs.graph.NodeGraph.build.Goals as goal

pub edges_of-requires-clause-nodes : goal.edges_of-requires-clause-nodes
edges_of-requires-clause-nodes c =
    have_nodes c.args.device.now c.rec.ensures.fits c.in_ok-wires.field-0.wires c.in_ok-pips.pips.types c.in_ok-pips.pips.kinds c.len-count.result
    c.in_ok-wires.ensures.wires
    (c.in_ok-pips.ensures.types ∙ ap (λ r. map (λ ty. conventional ty.pips) r.tile_type_list) c.rec.ensures.same)
    (c.in_ok-pips.ensures.kinds ∙ ap (λ r. map (λ t. t.ty) r.tile_list) c.rec.ensures.same)
    (subst (λ n. AllByRecursion (AreBelow n) c.in_ok-wires.field-0.wires) (sym c.len-count.ensures) c.in_ok-wires.ensures.inside)

pub invariant_of-result : goal.invariant_of-result
invariant_of-result c = record {
  few = search rules;
  tables = c.in_ok-pips.ensures.tables;
  nodes = have_nodes c.args.device.now c.rec.ensures.fits c.in_ok-wires.field-0.wires c.in_ok-pips.pips.types c.in_ok-pips.pips.kinds (length c.in_ok-wires.field-0.firsts)
      c.in_ok-wires.ensures.wires
      (c.in_ok-pips.ensures.types ∙ ap (λ r. map (λ ty. conventional ty.pips) r.tile_type_list) c.rec.ensures.same)
      (c.in_ok-pips.ensures.kinds ∙ ap (λ r. map (λ t. t.ty) r.tile_list) c.rec.ensures.same)
      c.in_ok-wires.ensures.inside;
  edges = subst (λ n. AreRows c.in_ok-wires.field-0.wires (ways_from c.in_ok-pips.pips.types 0 0 c.in_ok-pips.pips.kinds) n c.in_ok-rows.rows) c.len-count.ensures c.in_ok-rows.ensures;
  same_length = ap length c.in_ok-constants.ensures ∙ length-map-range_with_len (constant_of_node c.args.device.now) 0 c.len-count.result ∙ c.len-count.ensures;
}

most : (c : goal.In_ok-span_max) → c.in_ok-span_max.span_max ≡ greatest (map (span c.args.device.now) (range_with_len 0 c.len-count.result))
most c = c.in_ok-span_max.ensures ∙ ap (λ r. greatest (map (span r) (range_with_len 0 c.len-count.result))) c.rec-2.ensures.same

pub returns : goal.returns
returns c = record {
  graph = same_graph c.args.device.now c.rec.ensures.fits c.in_ok-wires.field-0.wires c.in_ok-wires.field-0.firsts c.in_ok-pips.pips.types c.in_ok-pips.pips.kinds c.in_ok-constants.constants c.in_ok-span_max.span_max c.len-count.result
      c.in_ok-wires.ensures.wires c.in_ok-wires.ensures.firsts
      (c.in_ok-pips.ensures.types ∙ ap (λ r. map (λ ty. conventional ty.pips) r.tile_type_list) c.rec.ensures.same)
      (c.in_ok-pips.ensures.kinds ∙ ap (λ r. map (λ t. t.ty) r.tile_list) c.rec.ensures.same)
      c.in_ok-constants.ensures
      (most c)
      (c.len-count.ensures ∙ c.in_ok-wires.ensures.count);
  bounds = λ n h. subst (λ m. span c.args.device.now n ≤ m) (sym (most c)) (span_no_more c.args.device.now c.len-count.result n (subst (λ k. n < k) (sym c.len-count.ensures) h));
  reached = λ h.
      subst (λ k. list_any (λ n. nat_eq (span c.args.device.now n) c.in_ok-span_max.span_max) (range_with_len 0 k) ≡ true) c.len-count.ensures
      (subst (λ m. list_any (λ n. nat_eq (span c.args.device.now n) m) (range_with_len 0 c.len-count.result) ≡ true) (sym (most c)) (a_node_has_it c.args.device.now c.len-count.result (subst (λ k. 0 < k) (sym c.len-count.ensures) h)));
}
