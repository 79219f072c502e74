-- Marks of constants, wire by wire and source by source.
use Rattle.std.proofs.Common.{◌≡◌, ◌<◌, ◌≤◌, refl, ap, sym, subst, ◌∙◌, ℕ, suc, ◌+◌, Bool, true, false, ◌&&◌, ◌||◌, nat_eq, List, [], ◌∷◌, map, take, length, slice_get, Option, Some, None, option_map, option_and_then, unwrap_or, arith}
use Rattle.std.specs.List.{AllByRecursion, list_any, range_with_len}
use Rattle.std.proofs.lemmas.Bool.{eqb-true, eq-eqb}
use Rattle.std.proofs.lemmas.Option.{slice_get-get_or}
use Rattle.std.proofs.lemmas.List.{take_all}
use Rattle.std.proofs.lemmas.List.Folds.{list_any-append}
use Rattle.std.proofs.lemmas.List.FromFn.{length-range_with_len, get_or-range_with_len}
use Rattle.ix_num.specs.declared.resource.Constant.{Constant}
use Rattle.ix_num.specs.declared.resource.Constant.TheVariants.{Gnd, Vcc}
use Rattle.ix_rec.specs.declared.device.ConstantPreference.{ConstantPreference}
use Rattle.ix_rec.specs.declared.device.DeviceRec.{DeviceRec}
use Rattle.ix_rec.specs.declared.device.Tile.{Tile}
use Rattle.ix_rec.specs.declared.device.TileType.{TileType}
use Rattle.ix_rec.specs.declared.device.WireConstantSources.{WireConstantSources}
use Rattle.ix_rec.specs.declared.device.NodeConstantSource.{NodeConstantSource}
use Rattle.ix_device.specs.Lookups.{tile_wire_named, type_of_tile}
use Rattle.ix_device.specs.Sources.{is_constant, node_sources_of}
use Rattle.ix_device.proofs.Differing.{nat_eq_sym}
use Rattle.ix_device.proofs.Walks.{any_at, any_next, any_same}
use Rattle.ix_graph.specs.declared.constants.Carried.{Carried}
use Rattle.ix_graph.specs.Nodes.{wire_count, wires_in, wires_from, tile_wires, is_wire, node_of, wires_of_node}
use Rattle.ix_graph.specs.NodeTables.{wires_before}
use Rattle.ix_graph.specs.Graph.{is_node}
use Rattle.ix_graph.specs.Constants.{entry_lists, type_lists, is_listed, is_this, source_names, is_named, carries, only_constant, constant_of_node}
use Rattle.ix_graph.specs.Marks.{Adds, is_marked, listed_in, entry_marks, type_marks, source_marks}
use Rattle.ix_graph.proofs.AnyLemmas.{or_none, or_assoc, and_or, any_or, any_and, any_map, any_filter, any_both, any_same_where, any_one, any_no_one}
use Rattle.ix_graph.proofs.TileWires.{wires_before_more}
use Rattle.ix_graph.proofs.TileLemmas.{node_in, is_tile_wire, named_wire, wires_of_type}

-- nothing was marked yet
pub none_added : {A : Type 0} (test : Constant → ℕ → A → Bool) (marks : List Carried) → Adds (λ c n. list_any (test c n) []) marks marks
none_added test marks = record { count = refl; marks = λ c n. sym (or_none (is_marked c marks n)) }

-- the marks of one item more
pub one_more : {A : Type 0} (test : Constant → ℕ → A → Bool) (xs : List A) (i : ℕ) (x : A) (first old new : List Carried) → slice_get xs i ≡ Some x
    → Adds (λ c n. list_any (test c n) (take i xs)) first old → Adds (λ c n. test c n x) old new → Adds (λ c n. list_any (test c n) (take (i + 1) xs)) first new
one_more test xs i x first old new at before step = record {
  count = step.count ∙ before.count;
  marks = λ c n.
      step.marks c n ∙ ap (λ b. b || test c n x) (before.marks c n) ∙ or_assoc (is_marked c first n) (list_any (test c n) (take i xs)) (test c n x)
      ∙ ap (λ b. is_marked c first n || b) (sym (any_next (test c n) xs i x at));
}

-- all items were gone over
pub all_added : {A : Type 0} (test : Constant → ℕ → A → Bool) (xs : List A) (i : ℕ) (first now : List Carried) → length xs ≤ i → Adds (λ c n. list_any (test c n) (take i xs)) first now → Adds (λ c n. list_any (test c n) xs) first now
all_added test xs i first now end h = subst (λ ys. Adds (λ c n. list_any (test c n) ys) first now) (take_all i xs end) h

-- a wire has its node marked
pub wire_marked : (ns : List ℕ) (w node : ℕ) (kind : ConstantPreference) (old new : List Carried) → slice_get ns w ≡ Some node
    → Adds (λ c n. is_constant c kind && nat_eq n node) old new → Adds (λ c n. is_constant c kind && is_node n (slice_get ns w)) old new
wire_marked ns w node kind old new at h = subst (λ o. Adds (λ c n. is_constant c kind && is_node n o) old new) (sym at) h

-- The wires of a tile.

in_range : (count k : ℕ) → k < count → list_any (λ j. nat_eq j k) (range_with_len 0 count) ≡ true
in_range count k lt = any_at (λ j. nat_eq j k) (range_with_len 0 count) k k (slice_get-get_or (range_with_len 0 count) k k inside ∙ ap Some (get_or-range_with_len 0 count k k lt ∙ omega arith)) (eq-eqb k k refl)
  where
    inside : k < length (range_with_len 0 count)
    inside = let len = length-range_with_len 0 count in omega arith

-- an entry of the tile's type: its wires, or the tile's wires that it lists
entry_of_tile : (rec : DeviceRec) (tile count : ℕ) (c : Constant) (n : ℕ) (e : WireConstantSources) → AllByRecursion (λ w. w < count) e.wires
    → list_any (λ j. nat_eq (node_of rec (tile, j)) n && entry_lists c j e) (range_with_len 0 count) ≡ entry_marks c (map (node_of rec) (wires_in tile count)) n e
entry_of_tile rec tile count c n e fits =
    any_same (λ j. g j && (a && list_any (nat_eq j) e.wires)) (λ j. g j && list_any (λ k. a && nat_eq j k) e.wires) (range_with_len 0 count) (λ j. ap (λ b. g j && b) (any_and a (nat_eq j) e.wires))
    ∙ any_both g (λ j k. a && nat_eq j k) (range_with_len 0 count) e.wires
    ∙ any_same_where (λ k. k < count) (λ k. list_any (λ j. g j && (a && nat_eq j k)) (range_with_len 0 count)) (λ k. a && is_node n (slice_get (map (node_of rec) (wires_in tile count)) k)) e.wires one fits
  where
    g : ℕ → Bool
    g j = nat_eq (node_of rec (tile, j)) n

    a : Bool
    a = is_constant c e.constant

    one : (k : ℕ) → k < count → list_any (λ j. g j && (a && nat_eq j k)) (range_with_len 0 count) ≡ (a && is_node n (slice_get (map (node_of rec) (wires_in tile count)) k))
    one k lt =
        any_one g a (λ j. nat_eq j k) k (range_with_len 0 count) (λ j h. eqb-true j k h) (in_range count k lt)
        ∙ ap (λ b. a && b) (nat_eq_sym (node_of rec (tile, k)) n ∙ sym (ap (is_node n) (node_in rec tile count k lt)))

-- a tile's type: its entries, or the tile's wires that it lists
type_of_wires : (rec : DeviceRec) (tile : ℕ) (ty : TileType) (count : ℕ) (c : Constant) (n : ℕ) → type_of_tile rec tile ≡ Some ty → AllByRecursion (λ e. AllByRecursion (λ w. w < count) e.wires) ty.constants
    → list_any (listed_in rec c n) (wires_in tile count) ≡ type_marks c (map (node_of rec) (wires_in tile count)) n ty
type_of_wires rec tile ty count c n is fits =
    any_map (listed_in rec c n) (λ j. (tile, j)) (range_with_len 0 count)
    ∙ any_same (λ j. g j && is_listed rec c (tile, j)) (λ j. g j && type_lists c j ty) (range_with_len 0 count) (λ j. ap (λ o. g j && unwrap_or (option_map (type_lists c j) o) false) is)
    ∙ any_both g (entry_lists c) (range_with_len 0 count) ty.constants
    ∙ any_same_where (λ e. AllByRecursion (λ w. w < count) e.wires) (λ e. list_any (λ j. g j && entry_lists c j e) (range_with_len 0 count)) (entry_marks c (map (node_of rec) (wires_in tile count)) n) ty.constants
    (λ e h. entry_of_tile rec tile count c n e h) fits
  where
    g : ℕ → Bool
    g j = nat_eq (node_of rec (tile, j)) n

-- the marks of one tile more
pub one_more_tile : (rec : DeviceRec) (i : ℕ) (t : Tile) (ty : TileType) (ns : List ℕ) (first old new : List Carried) → slice_get rec.tile_list i ≡ Some t → slice_get rec.tile_type_list t.ty ≡ Some ty
    → ns ≡ map (node_of rec) (wires_in i (wire_count rec t)) → AllByRecursion (λ e. AllByRecursion (λ w. w < length ty.wires) e.wires) ty.constants
    → Adds (λ c n. list_any (listed_in rec c n) (wires_before rec i)) first old → Adds (λ c n. type_marks c ns n ty) old new → Adds (λ c n. list_any (listed_in rec c n) (wires_before rec (i + 1))) first new
one_more_tile rec i t ty ns first old new at at_type same fits before step = record {
  count = step.count ∙ before.count;
  marks = λ c n.
      step.marks c n ∙ ap (λ b. b || type_marks c ns n ty) (before.marks c n) ∙ or_assoc (is_marked c first n) (list_any (listed_in rec c n) (wires_before rec i)) (type_marks c ns n ty)
      ∙ ap (λ b. is_marked c first n || b) (sym (both c n));
}
  where
    type_is : type_of_tile rec i ≡ Some ty
    type_is = ap (option_and_then (λ t. slice_get rec.tile_type_list t.ty)) at ∙ at_type

    within : AllByRecursion (λ e. AllByRecursion (λ w. w < wire_count rec t) e.wires) ty.constants
    within = subst (λ count. AllByRecursion (λ e. AllByRecursion (λ w. w < count) e.wires) ty.constants) (sym (wires_of_type rec t ty at_type)) fits

    both : (c : Constant) (n : ℕ) → list_any (listed_in rec c n) (wires_before rec (i + 1)) ≡ (list_any (listed_in rec c n) (wires_before rec i) || type_marks c ns n ty)
    both c n =
        ap (list_any (listed_in rec c n)) (wires_before_more rec i t at) ∙ list_any-append (listed_in rec c n) (wires_before rec i) (wires_in i (wire_count rec t))
        ∙ ap (λ b. list_any (listed_in rec c n) (wires_before rec i) || b) (type_of_wires rec i ty (wire_count rec t) c n type_is within ∙ ap (λ ms. type_marks c ms n ty) (sym same))

no_wires : (rec : DeviceRec) → wires_before rec 0 ≡ []
unfolding wires_from
no_wires rec = refl

pub no_tile : (rec : DeviceRec) (marks : List Carried) → Adds (λ c n. list_any (listed_in rec c n) (wires_before rec 0)) marks marks
no_tile rec marks = subst (λ ws. Adds (λ c n. list_any (listed_in rec c n) ws) marks marks) (sym (no_wires rec)) (none_added (listed_in rec) marks)

pub all_tiles : (rec : DeviceRec) (i : ℕ) (first now : List Carried) → length rec.tile_list ≤ i → Adds (λ c n. list_any (listed_in rec c n) (wires_before rec i)) first now → Adds (λ c n. list_any (listed_in rec c n) (tile_wires rec)) first now
all_tiles rec i first now end h = subst (λ ts. Adds (λ c n. list_any (listed_in rec c n) (wires_from rec 0 ts)) first now) (take_all i rec.tile_list end) h

-- Node sources.

-- a source: the wire that it names, or the wires of which it is the name
source_of_wires : (rec : DeviceRec) (c : Constant) (n : ℕ) (s : NodeConstantSource) → list_any (λ w. nat_eq (node_of rec w) n && source_names rec c w s) (tile_wires rec) ≡ source_marks rec c n s
source_of_wires rec c n s = by (tile_wire_named rec s.tile s.wire) refl
  where
    g : ℕ × ℕ → Bool
    g w = nat_eq (node_of rec w) n

    a : Bool
    a = is_constant c s.constant

    same : (w v : ℕ × ℕ) → is_wire w v ≡ true → w ≡ v
    same w v h = ap (λ x. (x, w.1)) (eqb-true w.0 v.0 (left (nat_eq w.0 v.0) (nat_eq w.1 v.1) h)) ∙ ap (λ y. (v.0, y)) (eqb-true w.1 v.1 (right (nat_eq w.0 v.0) (nat_eq w.1 v.1) h))
      where
        left : (a b : Bool) → (a && b) ≡ true → a ≡ true
        left true b e = refl
        left false b e = absurd (cc)

        right : (a b : Bool) → (a && b) ≡ true → b ≡ true
        right true b e = e
        right false b e = absurd (cc)

    by : (o : Option (ℕ × ℕ)) → tile_wire_named rec s.tile s.wire ≡ o → list_any (λ w. g w && (a && is_this w o)) (tile_wires rec) ≡ (a && is_node n (option_map (node_of rec) o))
    by None e = any_no_one g a (tile_wires rec)
    by (Some v) e = stands (named_wire rec s.tile s.wire v e)
      where
        stands : (t : Tile) × ((slice_get rec.tile_list v.0 ≡ Some t) × (v.1 < wire_count rec t)) → list_any (λ w. g w && (a && is_wire w v)) (tile_wires rec) ≡ (a && nat_eq n (node_of rec v))
        stands at = any_one g a (λ w. is_wire w v) v (tile_wires rec) (λ w h. same w v h) (is_tile_wire rec v.0 at.0 v.1 at.1.0 at.1.1) ∙ ap (λ b. a && b) (nat_eq_sym (node_of rec v) n)

-- a source has the node of the wire that it names marked
pub source_marked : (rec : DeviceRec) (s : NodeConstantSource) (v : ℕ × ℕ) (node : ℕ) (old new : List Carried) → tile_wire_named rec s.tile s.wire ≡ Some v → node ≡ node_of rec v
    → Adds (λ c n. is_constant c s.constant && nat_eq n node) old new → Adds (λ c n. source_marks rec c n s) old new
source_marked rec s v node old new named is h = subst (λ o. Adds (λ c n. is_constant c s.constant && is_node n o) old new) (ap Some is ∙ sym (ap (option_map (node_of rec)) named)) h

sources_of_wires : (rec : DeviceRec) (c : Constant) (n : ℕ) → list_any (λ w. nat_eq (node_of rec w) n && is_named rec c w) (tile_wires rec) ≡ list_any (source_marks rec c n) (node_sources_of rec)
sources_of_wires rec c n =
    any_both (λ w. nat_eq (node_of rec w) n) (source_names rec c) (tile_wires rec) (node_sources_of rec)
    ∙ any_same (λ s. list_any (λ w. nat_eq (node_of rec w) n && source_names rec c w s) (tile_wires rec)) (source_marks rec c n) (node_sources_of rec) (source_of_wires rec c n)

-- a node carries what its wires are listed with, and what sources name them with
carried_by : (rec : DeviceRec) (c : Constant) (n : ℕ) → carries rec c n ≡ (list_any (listed_in rec c n) (tile_wires rec) || list_any (source_marks rec c n) (node_sources_of rec))
unfolding wires_of_node
carried_by rec c n =
    any_filter (λ w. is_listed rec c w || is_named rec c w) g (tile_wires rec)
    ∙ any_same (λ w. g w && (is_listed rec c w || is_named rec c w)) (λ w. (g w && is_listed rec c w) || (g w && is_named rec c w)) (tile_wires rec) (λ w. and_or (g w) (is_listed rec c w) (is_named rec c w))
    ∙ any_or (listed_in rec c n) (λ w. g w && is_named rec c w) (tile_wires rec)
    ∙ ap (λ b. list_any (listed_in rec c n) (tile_wires rec) || b) (sources_of_wires rec c n)
  where
    g : ℕ × ℕ → Bool
    g w = nat_eq (node_of rec w) n

-- The constants.

each_constant : (rec : DeviceRec) (first : ℕ) (marks : List Carried) → ((c : Constant) (k : ℕ) → is_marked c marks k ≡ carries rec c (first + k)) → map (λ m. only_constant m.gnd m.vcc) marks ≡ map (constant_of_node rec) (range_with_len first (length marks))
each_constant rec first [] h = refl
each_constant rec first (m ∷ ms) h =
    ap (λ o. o ∷ map (λ m. only_constant m.gnd m.vcc) ms) head ∙ ap (λ l. constant_of_node rec first ∷ l) (each_constant rec (first + 1) ms (λ c k. h c (suc k) ∙ ap (carries rec c) (omega arith)))
  where
    head : only_constant m.gnd m.vcc ≡ constant_of_node rec first
    head = ap (λ b. only_constant b m.vcc) (h Gnd 0 ∙ ap (carries rec Gnd) (omega arith)) ∙ ap (λ b. only_constant (carries rec Gnd first) b) (h Vcc 0 ∙ ap (carries rec Vcc) (omega arith))

-- what tile types list, then what sources name
pub all_marked : (rec : DeviceRec) (first listed all : List Carried) → Adds (λ c n. list_any (listed_in rec c n) (tile_wires rec)) first listed → Adds (λ c n. list_any (source_marks rec c n) (node_sources_of rec)) listed all
    → Adds (carries rec) first all
all_marked rec first listed all tiles sources = record {
  count = sources.count ∙ tiles.count;
  marks = λ c n.
      sources.marks c n ∙ ap (λ b. b || list_any (source_marks rec c n) (node_sources_of rec)) (tiles.marks c n)
      ∙ or_assoc (is_marked c first n) (list_any (listed_in rec c n) (tile_wires rec)) (list_any (source_marks rec c n) (node_sources_of rec))
      ∙ ap (λ b. is_marked c first n || b) (sym (carried_by rec c n));
}

-- the constants, where nothing was marked first
pub all_constants : (rec : DeviceRec) (count : ℕ) (first all : List Carried) → length first ≡ count → ((c : Constant) (n : ℕ) → is_marked c first n ≡ false) → Adds (carries rec) first all
    → map (λ m. only_constant m.gnd m.vcc) all ≡ map (constant_of_node rec) (range_with_len 0 count)
all_constants rec count first all size none marked =
    each_constant rec 0 all (λ c k. marked.marks c k ∙ ap (λ b. b || carries rec c k) (none c k) ∙ ap (carries rec c) (omega arith))
    ∙ ap (λ n. map (constant_of_node rec) (range_with_len 0 n)) (marked.count ∙ size)
