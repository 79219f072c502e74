-- The wires of a device's tiles have nodes in its graph.
use Rattle.std.proofs.Common.{◌≡◌, ◌<◌, refl, ap, sym, subst, ◌∙◌, ℕ, zero, suc, ◌+◌, nat_eq}
use Rattle.std.proofs.Common.{List, [], ◌∷◌, length, map, slice_get, Option, Some, None, IsSome}
use Rattle.std.proofs.Common.{is_some, option_map, option_and_then, unwrap_or, arith}
use Rattle.std.specs.List.{range_with_len}
use Rattle.std.proofs.lemmas.List.{length-map}
use Rattle.std.proofs.lemmas.List.FromFn.{length-range_with_len}
use Rattle.std.proofs.lemmas.List.Quantifiers.{position-Some}
use Rattle.std.proofs.lemmas.Option.{same_Some, none-some, slice_get-get_or}
use Rattle.ix_rec.specs.declared.device.DeviceRec.{DeviceRec}
use Rattle.ix_rec.specs.declared.device.Tile.{Tile}
use Rattle.ix_rec.specs.declared.device.TileType.{TileType}
use Rattle.ix_device.specs.Lookups.{tile_named, tile_wire_named, wire_in_tile, wire_of_type}
use Rattle.ix_graph.specs.Nodes.{wire_count, wires_in, node_of, nodes_from}
use Rattle.ix_graph.specs.Graph.{node_at}

-- the nodes of a tile's wires
nodes_after : (rec : DeviceRec) (first : ℕ) (ts : List Tile) (i : ℕ) (t : Tile) →
    slice_get ts i ≡ Some t → slice_get (nodes_from rec first ts) i
    ≡ Some (map (node_of rec) (wires_in (first + i) (wire_count rec t)))
unfolding nodes_from
nodes_after rec first [] i t at = absurd (none-some t at)
nodes_after rec first (u ∷ us) zero t at =
    ap (λ v. Some (map (node_of rec) (wires_in first (wire_count rec v)))) (same_Some u t at)
    ∙ ap (λ k. Some (map (node_of rec) (wires_in k (wire_count rec t)))) (omega arith)
nodes_after rec first (u ∷ us) (suc i) t at =
    nodes_after rec (first + 1) us i t at
    ∙ ap (λ k. Some (map (node_of rec) (wires_in k (wire_count rec t)))) (omega arith)

length_of_wires : (rec : DeviceRec) (tile : ℕ) (t : Tile) (ty : TileType) →
    slice_get rec.tile_type_list t.ty ≡ Some ty →
    length (map (node_of rec) (wires_in tile (wire_count rec t))) ≡ length ty.wires
length_of_wires rec tile t ty at =
    length-map (wires_in tile (wire_count rec t)) (node_of rec)
    ∙ (length-map (range_with_len 0 (wire_count rec t)) (λ w. (tile, w))
    ∙ (length-range_with_len 0 (wire_count rec t)
    ∙ ap (λ o. length (unwrap_or (option_map (λ u. u.wires) o) [])) at))

is_there : (ns : List ℕ) (i : ℕ) → i < length ns → IsSome (slice_get ns i)
is_there ns i below = ap is_some (slice_get-get_or ns i 0 below)

module _ (rec : DeviceRec) where
  -- a wire of a tile by its name
  in_tile : (tile name w : ℕ) → wire_in_tile rec tile name ≡ Some w →
      IsSome (node_at (nodes_from rec 0 rec.tile_list) tile w)
  in_tile tile name w found = with_tile (slice_get rec.tile_list tile) refl found
    where
      with_type : (t : Tile) → slice_get rec.tile_list tile ≡ Some t → (o : Option TileType) →
          slice_get rec.tile_type_list t.ty ≡ o → option_and_then (wire_of_type name) o ≡ Some w →
          IsSome (node_at (nodes_from rec 0 rec.tile_list) tile w)
      with_type t at None e h = absurd (none-some w h)
      with_type t at (Some ty) e h =
          subst (λ o. IsSome (option_and_then (λ ns. slice_get ns w) o))
          (sym (nodes_after rec 0 rec.tile_list tile t at))
          (is_there (map (node_of rec) (wires_in (0 + tile) (wire_count rec t))) w
          (subst (λ n. w < n) (sym (length_of_wires rec (0 + tile) t ty e))
          (position-Some (nat_eq name) ty.wires w 0 h).0))

      with_tile : (o : Option Tile) → slice_get rec.tile_list tile ≡ o →
          option_and_then (wire_of_type name)
          (option_and_then (λ t. slice_get rec.tile_type_list t.ty) o) ≡ Some w →
          IsSome (node_at (nodes_from rec 0 rec.tile_list) tile w)
      with_tile None e h = absurd (none-some w h)
      with_tile (Some t) e h = with_type t e (slice_get rec.tile_type_list t.ty) refl h

  -- a tile wire by the names of its tile and its wire
  pub wire_has_node : (tile wire : ℕ) (found : ℕ × ℕ) → tile_wire_named rec tile wire ≡ Some found →
      IsSome (node_at (nodes_from rec 0 rec.tile_list) found.0 found.1)
  wire_has_node tile wire found named = by_tile (tile_named rec tile) named
    where
      by_wire : (i : ℕ) (o : Option ℕ) → wire_in_tile rec i wire ≡ o →
          option_map {U = ℕ × ℕ} (λ w. (i, w)) o ≡ Some found →
          IsSome (node_at (nodes_from rec 0 rec.tile_list) found.0 found.1)
      by_wire i None e h = absurd (none-some found h)
      by_wire i (Some w) e h =
          subst (λ f. IsSome (node_at (nodes_from rec 0 rec.tile_list) f.0 f.1))
          (same_Some (i, w) found h) (in_tile i wire w e)

      by_tile : (o : Option ℕ) →
          option_and_then (λ i. option_map (λ w. (i, w)) (wire_in_tile rec i wire)) o ≡ Some found →
          IsSome (node_at (nodes_from rec 0 rec.tile_list) found.0 found.1)
      by_tile None h = absurd (none-some found h)
      by_tile (Some i) h = by_wire i (wire_in_tile rec i wire) refl h
