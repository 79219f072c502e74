-- Constants of nodes, by number.
use Rattle.std.proofs.Common.{◌≡◌, ◌<◌, ◌≤◌, ◌↔◌, ◌∙◌, ap, sym, refl, ℕ, arith}
use Rattle.std.specs.Prelude.{length, slice_get, Some, option_map}
use Rattle.std.proofs.lemmas.Option.{none-some, same_Some}
use Rattle.ix_num.specs.declared.resource.Constant.{Constant}
use Rattle.ix_num.specs.declared.resource.Res.{Res}
use Rattle.ix_num.specs.declared.resource.Res.TheVariants.{Node, Wire}
use Rattle.ix_rec.specs.declared.device.DeviceRec.{DeviceRec}
use Rattle.ix_rec.specs.declared.phys.Phys.{Phys}
use Rattle.ix_rec.specs.declared.phys.Segment.{Segment}
use Rattle.ix_graph.specs.Graph.{graph_of}
use Rattle.ix_graph.specs.Nodes.{nodes}
use Rattle.ix_graph.specs.Constants.{constant_of_node}
use Rattle.ix_legal.specs.Holders.{constant_of}
use Rattle.ix_legal.specs.Segments.{in_end_of}
use Rattle.ix_legal.specs.Trees.{IsFromNode, IsFromConstant}
use Rattle.ix_ends.specs.declared.pair.Pair.{Pair}
use Rattle.ix_ends.specs.Ends.{EndsSeen, AreEnds, IsNumbered, HasNumbers}
use Rattle.ix_ends.specs.Laws.{GraphHasConstants}
use Rattle.ix_net_trees.specs.Constants.{IsNodeOf}

module _ (rec : DeviceRec) (phys : Phys) (seen : EndsSeen) (E : AreEnds rec phys seen) where
  -- a resource is a node exactly where its number is a node's
  pub node_number : (r : Res) (i : ℕ) → IsNumbered rec seen r i
      → ((n : ℕ) × (r ≡ Node n)) ↔ (i < seen.nodes)
  node_number (Node n) i is = (λ h. E.nodes_first n i is, λ h. (n, refl))
  node_number (Wire site wire) i is = (
    λ h. absurd cc,
    λ h. let past : seen.nodes ≤ i = E.wires_after site wire i is in absurd (omega (
      arith,
      h,
      past,
    )),
  )

  -- a node's constant is that which the graph has at its number
  pub constant_at : GraphHasConstants → (r : Res) (i : ℕ) (c : Constant) → IsNumbered rec seen r i
      → (constant_of rec r ≡ Some c) ↔ IsNodeOf (graph_of rec) seen i c
  constant_at law (Node n) i c is =
      let same : n ≡ i = same_Some n i is.number_is in
      let below : i < seen.nodes = E.nodes_first n i is in
      let count : seen.nodes ≡ length (nodes rec) = E.nodes_are in
      let at : slice_get (graph_of rec).constants i ≡ Some (constant_of_node rec n) =
      ap (slice_get (graph_of rec).constants) (sym same)
      ∙ law rec n (omega (arith, same, below, count)) in (
        λ h. record { is_node = below; carries = at ∙ ap Some h },
        λ h. same_Some (constant_of_node rec n) (Some c) (sym at ∙ h.carries),
      )
  constant_at law (Wire site wire) i c is =
      let past : seen.nodes ≤ i = E.wires_after site wire i is in (
        λ h. absurd (none-some c h),
        λ h. let below : i < seen.nodes = h.is_node in absurd (omega (arith, past, below)),
      )

  module _ (s : Segment) (pair : Pair) (N : HasNumbers rec seen s pair) where
    in_end_is : in_end_of rec s ≡ Some N.from
    in_end_is = ap (option_map (λ (e : Res × Res). e.0)) N.ends_are

    -- the in-end of a segment is a node
    pub from_node : IsFromNode rec s ↔ (pair.from < seen.nodes)
    from_node = (
      λ h. (node_number N.from pair.from N.from_is).0
          (h.0, same_Some N.from (Node h.0) (sym in_end_is ∙ h.1)),
      λ h. let w = (node_number N.from pair.from N.from_is).1 h in
          (w.0, in_end_is ∙ ap Some w.1),
    )

    -- and one of this constant
    pub from_constant : GraphHasConstants → (c : Constant)
        → IsFromConstant rec c s ↔ IsNodeOf (graph_of rec) seen pair.from c
    from_constant law c = (
      λ h. (constant_at law N.from pair.from c N.from_is).0
          (ap (constant_of rec) (same_Some N.from (Node h.0) (sym in_end_is ∙ h.1)) ∙ h.2),
      λ h. let w = (node_number N.from pair.from N.from_is).1 h.is_node in (
        w.0,
        in_end_is ∙ ap Some w.1,
        ap (constant_of rec) (sym w.1) ∙ (constant_at law N.from pair.from c N.from_is).1 h,
      ),
    )
