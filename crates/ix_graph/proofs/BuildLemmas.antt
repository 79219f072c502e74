-- A graph of a device has nodes for the wires that its PIPs join.
use Rattle.std.proofs.Common.{◌≡◌, ◌<◌, refl, ap, sym, subst, ◌∙◌, ℕ, ◌+◌, Bool, true, false, if◌then◌else◌, List, [], ◌∷◌, length, map, slice_get, Option, Some, None, IsSome, IfSome, unwrap_or, option_map, option_and_then}
use Rattle.std.specs.List.{AllByRecursion, range_with_len}
use Rattle.std.proofs.lemmas.Bool.{false≢true}
use Rattle.std.proofs.lemmas.List.{length-map}
use Rattle.std.proofs.lemmas.List.FromFn.{length-range_with_len}
use Rattle.std.proofs.lemmas.Option.{same_Some, none-some, slice_get-map}
use Rattle.ix_rec.specs.declared.device.DeviceRec.{DeviceRec}
use Rattle.ix_rec.specs.declared.device.Tile.{Tile}
use Rattle.ix_rec.specs.declared.device.TileType.{TileType}
use Rattle.ix_rec.specs.declared.device.Site.{Site}
use Rattle.ix_rec.specs.declared.device.Pip.{Pip}
use Rattle.ix_rec.specs.Ranges.{IndexesFit, SitesFit}
use Rattle.ix_device.proofs.Walks.{at_place}
use Rattle.ix_device.proofs.SiteLemmas.{type_within}
use Rattle.ix_graph.specs.declared.type_pips.TilePip.{TilePip}
use Rattle.ix_num.specs.declared.resource.Constant.{Constant}
use Rattle.ix_graph.specs.Nodes.{AreBelow, wire_count, wires_in, nodes, node_of, nodes_from, first_wires}
use Rattle.ix_graph.specs.Constants.{constant_of_node}
use Rattle.ix_graph.specs.Spans.{span, greatest}
use Rattle.ix_graph.specs.Graph.{Graph, graph_of, node_at}
use Rattle.ix_graph.specs.Pips.{DirectedPip, ways_from, is_conventional, tile_pip, conventional_from, conventional, pips_of_type}
use Rattle.ix_graph.specs.Edges.{AreWithin, HaveNodes}
use Rattle.ix_device.specs.Lookups.{sites_of, tile_of_site, type_of_tile, wire_of_pin, wire_of_site_pin, IsInTile}
use Rattle.ix_graph.proofs.GraphLemmas.{within_some}
use Rattle.ix_graph.proofs.TileLemmas.{nodes_count, nodes_at}

abbrev pub made : (wires : List (List ℕ)) (firsts : List (ℕ × ℕ)) (pips : List DirectedPip) (constants : List (Option Constant)) (most : ℕ) → Graph
made wires firsts pips constants most = record { wires = wires; firsts = firsts; pips = pips; constants = constants; span_max = most }

-- conventional PIPs join wires that all PIPs join
conventional_within : (wires place : ℕ) (ps : List Pip) → AllByRecursion (λ p. (p.wire0 < wires) × (p.wire1 < wires)) ps → AreWithin wires (conventional_from place ps)
unfolding conventional_from
conventional_within wires place [] h = tt
conventional_within wires place (p ∷ ps) h = by (is_conventional p.kind) (conventional_within wires (place + 1) ps h.1)
  where
    by : (b : Bool) → AreWithin wires (conventional_from (place + 1) ps) → AreWithin wires (if b then tile_pip place p ∷ conventional_from (place + 1) ps else conventional_from (place + 1) ps)
    by true rest = (h.0, rest)
    by false rest = rest

kinds_below : (types : List TileType) (count : ℕ) (tiles : List Tile) → length types ≡ count → AllByRecursion (λ t. SitesFit (slice_get types t.ty) t.sites) tiles → AreBelow count (map (λ t. t.ty) tiles)
kinds_below types count [] e h = tt
kinds_below types count (t ∷ ts) e h = (subst (λ k. t.ty < k) e (type_within types t.ty t.sites h.0), kinds_below types count ts e h.1)

-- the nodes of a tile's wires are as many as its type has wires
length_of_wires : (rec : DeviceRec) (tile : ℕ) (t : Tile) (T : TileType) → slice_get rec.tile_type_list t.ty ≡ Some T → length (map (node_of rec) (wires_in tile (wire_count rec t))) ≡ length T.wires
length_of_wires rec tile t T at =
    length-map (wires_in tile (wire_count rec t)) (node_of rec) ∙ length-map (range_with_len 0 (wire_count rec t)) (λ w. (tile, w)) ∙ length-range_with_len 0 (wire_count rec t)
    ∙ ap (λ o. length (unwrap_or (option_map (λ ty. ty.wires) o) [])) at

pips_of_place : (types : List TileType) (k : ℕ) (T : TileType) → slice_get types k ≡ Some T → pips_of_type (map (λ ty. conventional ty.pips) types) k ≡ conventional T.pips
pips_of_place types k T at = ap (λ o. unwrap_or o []) (slice_get-map (λ ty. conventional ty.pips) types k ∙ ap (option_map (λ ty. conventional ty.pips)) at)

module _ (rec : DeviceRec) (fits : IndexesFit rec) where
  -- the wires of a tile whose type is this
  tile_within : (tile ty : ℕ) (ws : List ℕ) (t : Tile) → slice_get rec.tile_list tile ≡ Some t → t.ty ≡ ty → slice_get (nodes_from rec 0 rec.tile_list) tile ≡ Some ws
      → AreWithin (length ws) (pips_of_type (map (λ u. conventional u.pips) rec.tile_type_list) ty)
  tile_within tile ty ws t at same at_wires = by (slice_get rec.tile_type_list t.ty) refl (at_place _ rec.tile_list tile t fits.tiles at)
    where
      by : (o : Option TileType) → slice_get rec.tile_type_list t.ty ≡ o → SitesFit (slice_get rec.tile_type_list t.ty) t.sites → AreWithin (length ws) (pips_of_type (map (λ u. conventional u.pips) rec.tile_type_list) ty)
      by None e h = absurd (subst (λ o. SitesFit o t.sites) e h)
      by (Some T) e h =
          subst (λ k. AreWithin (length ws) (pips_of_type (map (λ u. conventional u.pips) rec.tile_type_list) k)) same
          (subst (λ xs. AreWithin (length ws) xs) (sym (pips_of_place rec.tile_type_list t.ty T e))
          (subst (λ n. AreWithin n (conventional T.pips)) (sym (length_of_wires rec tile t T e) ∙ ap length (same_Some _ _ (sym (nodes_at rec tile t at) ∙ at_wires)))
          (conventional_within (length T.wires) 0 T.pips (at_place _ rec.tile_type_list t.ty T fits.tile_types e).pips)))

  kind_within : (tile ty : ℕ) (ws : List ℕ) → slice_get (map (λ t. t.ty) rec.tile_list) tile ≡ Some ty → slice_get (nodes_from rec 0 rec.tile_list) tile ≡ Some ws
      → AreWithin (length ws) (pips_of_type (map (λ u. conventional u.pips) rec.tile_type_list) ty)
  kind_within tile ty ws at_kind at_wires = by (slice_get rec.tile_list tile) refl (sym (slice_get-map (λ t. t.ty) rec.tile_list tile) ∙ at_kind)
    where
      by : (o : Option Tile) → slice_get rec.tile_list tile ≡ o → option_map (λ t. t.ty) o ≡ Some ty → AreWithin (length ws) (pips_of_type (map (λ u. conventional u.pips) rec.tile_type_list) ty)
      by None e h = absurd (none-some ty h)
      by (Some t) e h = tile_within tile ty ws t e (same_Some _ _ h) at_wires

  whole : (count : ℕ) → AllByRecursion (AreBelow count) (nodes_from rec 0 rec.tile_list) → HaveNodes (nodes_from rec 0 rec.tile_list) (map (λ u. conventional u.pips) rec.tile_type_list) (map (λ t. t.ty) rec.tile_list) count
  whole count below = record {
    tiles = nodes_count rec 0 rec.tile_list ∙ sym (length-map rec.tile_list (λ t. t.ty));
    kinds_stand = kinds_below rec.tile_type_list (length (map (λ u. conventional u.pips) rec.tile_type_list)) rec.tile_list (sym (length-map rec.tile_type_list (λ u. conventional u.pips))) fits.tiles;
    within = kind_within;
    below = below;
  }

  -- the nodes of the wires, the types of the tiles and their PIPs, as they are told
  pub have_nodes : (wires : List (List ℕ)) (types : List (List TilePip)) (kinds : List ℕ) (count : ℕ) → wires ≡ nodes_from rec 0 rec.tile_list → types ≡ map (λ u. conventional u.pips) rec.tile_type_list → kinds ≡ map (λ t. t.ty) rec.tile_list
      → AllByRecursion (AreBelow count) wires → HaveNodes wires types kinds count
  have_nodes wires types kinds count e f g below =
      subst (λ ws. HaveNodes ws types kinds count) (sym e) (subst (λ xs. HaveNodes (nodes_from rec 0 rec.tile_list) xs kinds count) (sym f)
      (subst (λ ks. HaveNodes (nodes_from rec 0 rec.tile_list) (map (λ u. conventional u.pips) rec.tile_type_list) ks count) (sym g) (whole count (subst (λ ws. AllByRecursion (AreBelow count) ws) e below))))

  -- a graph's parts are those of the device's graph
  pub same_graph : (wires : List (List ℕ)) (firsts : List (ℕ × ℕ)) (types : List (List TilePip)) (kinds : List ℕ) (constants : List (Option Constant)) (most count : ℕ) → wires ≡ nodes_from rec 0 rec.tile_list → firsts ≡ first_wires rec
      → types ≡ map (λ u. conventional u.pips) rec.tile_type_list → kinds ≡ map (λ t. t.ty) rec.tile_list → constants ≡ map (constant_of_node rec) (range_with_len 0 count)
      → most ≡ greatest (map (span rec) (range_with_len 0 count)) → count ≡ length (nodes rec)
      → made wires firsts (ways_from types 0 0 kinds) constants most ≡ graph_of rec
  unfolding graph_of
  same_graph wires firsts types kinds constants most count e f g h k m n =
      ap (λ x. made x firsts (ways_from types 0 0 kinds) constants most) e
      ∙ ap (λ x. made (nodes_from rec 0 rec.tile_list) x (ways_from types 0 0 kinds) constants most) f
      ∙ ap (λ x. made (nodes_from rec 0 rec.tile_list) (first_wires rec) (ways_from x 0 0 kinds) constants most) g
      ∙ ap (λ x. made (nodes_from rec 0 rec.tile_list) (first_wires rec) (ways_from (map (λ u. conventional u.pips) rec.tile_type_list) 0 0 x) constants most) h
      ∙ ap (λ x. made (nodes_from rec 0 rec.tile_list) (first_wires rec) all x most) (k ∙ ap (λ j. map (constant_of_node rec) (range_with_len 0 j)) n)
      ∙ ap (made (nodes_from rec 0 rec.tile_list) (first_wires rec) all (map (constant_of_node rec) (range_with_len 0 (length (nodes rec))))) (m ∙ ap (λ j. greatest (map (span rec) (range_with_len 0 j))) n)
    where
      all : List DirectedPip
      all = ways_from (map (λ u. conventional u.pips) rec.tile_type_list) 0 0 (map (λ t. t.ty) rec.tile_list)

-- a wire of the tile of a site, on which a pin of the site is, has a node
pub node_there : (rec : DeviceRec) (site pin tile w : ℕ) → wire_of_site_pin rec site pin ≡ Some w → tile_of_site rec site ≡ Some tile → IfSome (tile_of_site rec site) (λ t. IsInTile rec t w)
    → IsSome (node_at (nodes_from rec 0 rec.tile_list) tile w)
node_there rec site pin tile w at_wire at_tile inside = by (slice_get (sites_of rec) site) refl at_wire (subst (λ o. IfSome o (λ t. IsInTile rec t w)) at_tile inside)
  where
    typed : (t : Tile) → slice_get rec.tile_list tile ≡ Some t → (T : TileType) → slice_get rec.tile_type_list t.ty ≡ Some T → w < length T.wires → IsSome (node_at (nodes_from rec 0 rec.tile_list) tile w)
    typed t at T at_type lt =
        subst (λ o. IsSome (option_and_then (λ ws. slice_get ws w) o)) (sym (nodes_at rec tile t at))
        (within_some (map (node_of rec) (wires_in tile (wire_count rec t))) w (subst (λ n. w < n) (sym (length_of_wires rec tile t T at_type)) lt))

    with_tile : (o : Option Tile) → slice_get rec.tile_list tile ≡ o → (T : TileType) → option_and_then (λ t. slice_get rec.tile_type_list t.ty) o ≡ Some T → w < length T.wires → IsSome (node_at (nodes_from rec 0 rec.tile_list) tile w)
    with_tile None e T h lt = absurd (none-some T h)
    with_tile (Some t) e T h lt = typed t e T h lt

    with_type : (o : Option TileType) → type_of_tile rec tile ≡ o → IsSome o → IfSome o (λ T. w < length T.wires) → IsSome (node_at (nodes_from rec 0 rec.tile_list) tile w)
    with_type None e there lt = absurd (false≢true there)
    with_type (Some T) e there lt = with_tile (slice_get rec.tile_list tile) refl T e lt

    some_type : (o : Option TileType) (tell : TileType → Option ℕ) → option_and_then tell o ≡ Some w → IsSome o
    some_type None tell h = absurd (none-some w h)
    some_type (Some T) tell h = refl

    by : (o : Option (ℕ × Site)) → slice_get (sites_of rec) site ≡ o → option_and_then (λ s. option_and_then (wire_of_pin s.1.ty pin) (type_of_tile rec s.0)) o ≡ Some w → IsInTile rec tile w → IsSome (node_at (nodes_from rec 0 rec.tile_list) tile w)
    by None e h lt = absurd (none-some w h)
    by (Some s) e h lt =
        with_type (type_of_tile rec tile) refl (subst (λ t. IsSome (type_of_tile rec t)) (same_Some _ _ (sym (ap (option_map (λ u. u.0)) e) ∙ at_tile)) (some_type (type_of_tile rec s.0) (wire_of_pin s.1.ty pin) h)) lt
