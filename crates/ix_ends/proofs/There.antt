-- What segments have as ends is there, and so are the constants of a graph.
use Rattle.std.proofs.Common.{◌≡◌, ◌<◌, ◌∙◌, refl, ap, subst, ℕ, Bool, true, false, cond}
use Rattle.std.proofs.Common.{List, length, map, slice_get, Option, Some, None, nat_lt, nat_eq}
use Rattle.std.proofs.Common.{option_map, option_and_then, arith}
use Rattle.std.specs.List.{position, position_or_len, list_any, range_with_len}
use Rattle.std.proofs.lemmas.Bool.{ltb-true}
use Rattle.std.proofs.lemmas.Option.{none-some, same_Some, slice_get-get_or}
use Rattle.std.proofs.lemmas.List.FromFn.{get_or-map-range_with_len, length-map-range_with_len}
use Rattle.ix_num.specs.declared.resource.Res.{Res}
use Rattle.ix_num.specs.declared.resource.Res.TheVariants.{Node, Wire}
use Rattle.ix_rec.specs.declared.device.DeviceRec.{DeviceRec}
use Rattle.ix_rec.specs.declared.device.SiteType.{SiteType}
use Rattle.ix_rec.specs.declared.device.Direction.{Direction}
use Rattle.ix_rec.specs.declared.device.Direction.TheVariants.{Input, Output, Inout}
use Rattle.ix_rec.specs.declared.phys.BranchKind.{BranchKind}
use Rattle.ix_rec.specs.declared.phys.BranchKind.TheVariants.{BelPin, SitePin, Pip, SitePip}
use Rattle.ix_device.specs.Lookups.{site_named, type_of_site, tile_named, tile_of_site}
use Rattle.ix_device.specs.Lookups.{in_type, wire_in, site_pin_in, wire_of_site_pin}
use Rattle.ix_device.specs.SitePips.{site_pip_from}
use Rattle.ix_graph.specs.Constants.{constant_of_node}
use Rattle.ix_graph.specs.Ends.{of_site, bel_pin_named, wire_at, node_of_pin, both, bel_pin_ends}
use Rattle.ix_graph.specs.Ends.{crossing, pin_crossing, site_pin_ends, named_pip_ends}
use Rattle.ix_graph.specs.Ends.{site_pip_ends, ends_in_site, ends_by, ends}
use Rattle.ix_graph.specs.Graph.{graph_of, node_at, ends_at, from_node, to_node}
use Rattle.ix_graph.specs.Named.{pip_named}
use Rattle.ix_graph.specs.Nodes.{nodes, nodes_from}
use Rattle.ix_graph.specs.Pips.{enters_at, leaves_at}
use Rattle.ix_graph.proofs.GraphLemmas.{node_below}
use Rattle.ix_graph.proofs.NumberLemmas.{all_below, count_nodes}
use Rattle.ix_ends.specs.Ends.{IsThere}
use Rattle.ix_ends.specs.Laws.{EndsAreThere, GraphHasConstants, GraphHasNodes}
use Rattle.ix_ends.proofs.Items.{mapped, chained}

place_below : {X : Type 0} (p : X → Bool) (xs : List X) (n : ℕ) → position p xs ≡ Some n
    → n < length xs
place_below p xs n h = by (nat_lt (position_or_len p xs) (length xs)) refl h
  where
    by : (b : Bool) → nat_lt (position_or_len p xs) (length xs) ≡ b
        → cond b (Some (position_or_len p xs)) None ≡ Some n → n < length xs
    by true t e = subst (λ m. m < length xs) (same_Some (position_or_len p xs) n e)
        (ltb-true (position_or_len p xs) (length xs) t)
    by false t e = absurd (none-some n e)

-- Nodes.

node_inside : (rec : DeviceRec) (tile wire n : ℕ) → node_at (graph_of rec).wires tile wire ≡ Some n
    → n < length (nodes rec)
unfolding graph_of
node_inside rec tile wire n at =
    node_below (nodes_from rec 0 rec.tile_list) (length (nodes rec)) tile wire n (all_below rec) at

node_of_pin_there : (rec : DeviceRec) (site pin : ℕ) (r : Res) → node_of_pin rec site pin ≡ Some r
    → IsThere rec r
node_of_pin_there rec site pin r h =
    let tile = chained (λ tile. option_and_then (λ w.
    option_map (λ n. Node n) (node_at (graph_of rec).wires tile w))
    (wire_of_site_pin rec site pin)) (tile_of_site rec site) r h in
    let wire = chained (λ w. option_map (λ n. Node n) (node_at (graph_of rec).wires tile.0 w))
    (wire_of_site_pin rec site pin) r tile.2 in
    let node = mapped (λ n. Node n) (node_at (graph_of rec).wires tile.0 wire.0) r wire.2 in
    subst (IsThere rec) node.2 (node_inside rec tile.0 wire.0 node.0 node.1)

-- Wires.

module _ (rec : DeviceRec) (site t : ℕ) (typed : type_of_site rec site ≡ Some t) where
  wire_there : (pin : ℕ) (r : Res) → wire_at rec site t pin ≡ Some r → IsThere rec r
  wire_there pin r h =
      let wire = mapped (λ w. Wire site w) (in_type (wire_in pin) rec t) r h in
      let ty = chained (wire_in pin) (slice_get rec.site_type_list t) wire.0 wire.1 in
      subst (IsThere rec) wire.2 (
        length ty.0.site_wires,
        ap (λ o. option_map (λ (u : SiteType). length u.site_wires)
            (option_and_then (slice_get rec.site_type_list) o)) typed
            ∙ ap (option_map (λ (u : SiteType). length u.site_wires)) ty.1,
        place_below (λ w. list_any (nat_eq pin) w.pins) ty.0.site_wires wire.0 ty.2,
      )

-- Two that are there.

abbrev AreThere : DeviceRec → Res × Res → Type 0
AreThere rec p = IsThere rec p.0 × IsThere rec p.1

both_there : (rec : DeviceRec) (from to : Option Res) (p : Res × Res) → both from to ≡ Some p
    → ((r : Res) → from ≡ Some r → IsThere rec r) → ((r : Res) → to ≡ Some r → IsThere rec r)
    → AreThere rec p
both_there rec from to p h one other =
    let a = chained {B = Res × Res} (λ a. option_map (λ b. (a, b)) to) from p h in
    let b = mapped {B = Res × Res} (λ b. (a.0, b)) to p a.2 in
    subst (AreThere rec) b.2 (one a.0 a.1, other b.0 b.1)

module _ (rec : DeviceRec) (site t : ℕ) (typed : type_of_site rec site ≡ Some t) where
  bel_pin_there : (bel pin : ℕ) (p : Res × Res) → bel_pin_ends rec bel pin site t ≡ Some p
      → AreThere rec p
  bel_pin_there bel pin p h =
      let at = chained (λ q. both (wire_at rec site t q) (wire_at rec site t q))
      (bel_pin_named rec t bel pin) p h in
      both_there rec (wire_at rec site t at.0) (wire_at rec site t at.0) p at.2
      (wire_there rec site t typed at.0) (wire_there rec site t typed at.0)

  site_pip_there : (bel pin : ℕ) (p : Res × Res) → site_pip_ends rec bel pin site t ≡ Some p
      → AreThere rec p
  site_pip_there bel pin p h =
      let from = chained (λ a. option_and_then (λ b. both (wire_at rec site t a)
      (wire_at rec site t b)) (in_type (site_pip_from a) rec t)) (bel_pin_named rec t bel pin) p
      h in
      let to = chained (λ b. both (wire_at rec site t from.0) (wire_at rec site t b))
      (in_type (site_pip_from from.0) rec t) p from.2 in
      both_there rec (wire_at rec site t from.0) (wire_at rec site t to.0) p to.2
      (wire_there rec site t typed from.0) (wire_there rec site t typed to.0)

  crossing_there : (dir : Direction) (pin number : ℕ) (p : Res × Res)
      → crossing dir (wire_at rec site t pin) (node_of_pin rec site number) ≡ Some p
      → AreThere rec p
  crossing_there Output pin number p h =
      both_there rec (wire_at rec site t pin) (node_of_pin rec site number) p h
      (wire_there rec site t typed pin) (node_of_pin_there rec site number)
  crossing_there Input pin number p h =
      both_there rec (node_of_pin rec site number) (wire_at rec site t pin) p h
      (node_of_pin_there rec site number) (wire_there rec site t typed pin)
  crossing_there Inout pin number p h = absurd (none-some p h)

  site_pin_there : (name : ℕ) (p : Res × Res) → site_pin_ends rec name site t ≡ Some p
      → AreThere rec p
  site_pin_there name p h =
      let number = chained (λ pin. option_and_then (pin_crossing rec site t pin)
      (in_type (λ ty. slice_get ty.pins pin) rec t)) (in_type (site_pin_in name) rec t) p h in
      let pin = chained (pin_crossing rec site t number.0)
      (in_type (λ ty. slice_get ty.pins number.0) rec t) p number.2 in
      crossing_there pin.0.dir pin.0.belpin number.0 p pin.2

  in_site_there : (kind : BranchKind) (second third : ℕ) (p : Res × Res)
      → ends_in_site kind rec second third site t ≡ Some p → AreThere rec p
  in_site_there BelPin second third p h = bel_pin_there second third p h
  in_site_there SitePin second third p h = site_pin_there second p h
  in_site_there SitePip second third p h = site_pip_there second third p h
  in_site_there Pip second third p h = absurd (none-some p h)

of_site_there : (rec : DeviceRec) (kind : BranchKind) (first second third : ℕ) (p : Res × Res)
    → of_site rec first (ends_in_site kind rec second third) ≡ Some p → AreThere rec p
of_site_there rec kind first second third p h =
    let tell = ends_in_site kind rec second third in
    let site = chained (λ site. option_and_then (tell site) (type_of_site rec site))
    (site_named rec first) p h in
    let t = chained (tell site.0) (type_of_site rec site.0) p site.2 in
    in_site_there rec site.0 t.0 t.1 kind second third p t.2

named_pip_there : (rec : DeviceRec) (first second third : ℕ) (forward : Bool) (p : Res × Res)
    → named_pip_ends rec first second third forward ≡ Some p → AreThere rec p
named_pip_there rec first second third forward p h =
    let two = mapped {A = ℕ × ℕ} {B = Res × Res} (λ ns. (Node ns.0, Node ns.1))
    (option_and_then (ends_at (graph_of rec).wires)
    (option_and_then (λ t. pip_named rec t second third forward) (tile_named rec first))) p h in
    let pip = chained (ends_at (graph_of rec).wires)
    (option_and_then (λ t. pip_named rec t second third forward) (tile_named rec first)) two.0
    two.1 in
    let from = chained {B = ℕ × ℕ} (λ n.
    option_map (λ m. (n, m)) (to_node (graph_of rec).wires pip.0))
    (from_node (graph_of rec).wires pip.0) two.0 pip.2 in
    let to = mapped {B = ℕ × ℕ} (λ m. (from.0, m)) (to_node (graph_of rec).wires pip.0) two.0
    from.2 in
    subst (AreThere rec) two.2 (subst {A = ℕ × ℕ} (λ ns. AreThere rec (Node ns.0, Node ns.1)) to.2 (
      node_inside rec pip.0.tile (enters_at pip.0) from.0 from.1,
      node_inside rec pip.0.tile (leaves_at pip.0) to.0 to.1,
    ))

by_kind_there : (kind : BranchKind) (rec : DeviceRec) (first second third : ℕ) (forward : Bool)
    (p : Res × Res) → ends_by kind rec first second third forward ≡ Some p → AreThere rec p
by_kind_there Pip rec first second third forward p h =
    named_pip_there rec first second third forward p h
by_kind_there BelPin rec first second third forward p h =
    of_site_there rec BelPin first second third p h
by_kind_there SitePin rec first second third forward p h =
    of_site_there rec SitePin first second third p h
by_kind_there SitePip rec first second third forward p h =
    of_site_there rec SitePip first second third p h

pub ends_there : EndsAreThere
unfolding ends
ends_there rec s from to h =
    by_kind_there s.kind rec s.first s.second s.third s.forward (from, to) h

-- The graph has each node's constant.
pub constants_there : GraphHasConstants
unfolding graph_of
constants_there rec n lt =
    let all = map (constant_of_node rec) (range_with_len 0 (length (nodes rec))) in
    let count : length (map (constant_of_node rec) (range_with_len 0 (length (nodes rec))))
    ≡ length (nodes rec)
    = length-map-range_with_len (constant_of_node rec) 0 (length (nodes rec)) in
    slice_get-get_or all n None (omega arith)
    ∙ ap Some (get_or-map-range_with_len (constant_of_node rec) 0 (length (nodes rec)) n n None lt
    (omega arith))

-- The graph has the device's nodes.
pub nodes_there : GraphHasNodes
unfolding graph_of
nodes_there rec = count_nodes rec
