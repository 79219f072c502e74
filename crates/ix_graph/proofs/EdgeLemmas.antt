-- Counting and filling the rows of edges, PIP by PIP and tile by tile.
use Rattle.std.proofs.Common.{◌≡◌, ◌≤◌, refl, ap, sym, ◌∙◌, ℕ, ◌+◌, ◌*◌, Bool, true, false, if◌then◌else◌, List, [], ◌∷◌, ◌++◌, length, map, take, drop, slice_get, Option, Some, option_map, option_and_then, append_assoc, arith}
use Rattle.std.specs.List.{filter, sum_by, AllByRecursion}
use Rattle.std.proofs.lemmas.List.{map-append, length-append, length-map, take-append-drop}
use Rattle.std.proofs.lemmas.List.Elements.{filter-append}
use Rattle.std.proofs.lemmas.List.Sums.{sum_by-append, sum_by-cons, sum_by-take-le}
use Rattle.ix_device.proofs.Walks.{take_next}
use Rattle.ix_graph.specs.declared.type_pips.TilePip.{TilePip}
use Rattle.ix_graph.specs.Pips.{DirectedPip, directed_pip, enters_at, leaves_at, ways, ways_in, ways_from, pips_of_type}
use Rattle.ix_graph.specs.Graph.{is_node, node_at, goes_from, edge}
use Rattle.ix_graph.specs.Tables.{pip_count}
use Rattle.ix_graph.proofs.WayLemmas.{ways_from-append, ways_in_next, ways_next}
use Rattle.ix_graph.specs.Edges.{one_at, outs, all_outs, goes_out, edge_in, edges_out}

-- one more PIP of a tile
pub one_more_out : (ns : List ℕ) (n : ℕ) (xs : List TilePip) (i : ℕ) (x : TilePip) → slice_get xs i ≡ Some x → all_outs ns n (take (i + 1) xs) ≡ all_outs ns n (take i xs) + outs ns n x
one_more_out ns n xs i x at =
    let e : all_outs ns n (take i xs ++ x ∷ []) ≡ all_outs ns n (take i xs) + sum_by (outs ns n) (x ∷ []) = sum_by-append (outs ns n) (take i xs) (x ∷ []) in
    let f : sum_by (outs ns n) (x ∷ []) ≡ outs ns n x + sum_by (outs ns n) [] = sum_by-cons (outs ns n) x [] in
    ap (all_outs ns n) (take_next xs i x at) ∙ e ∙ ap (λ k. all_outs ns n (take i xs) + k) (f ∙ omega arith)

-- a row's count with one more PIP of a tile
pub counted_next : (ns : List ℕ) (n : ℕ) (xs : List TilePip) (i : ℕ) (x : TilePip) (before now new : ℕ) → slice_get xs i ≡ Some x → now ≡ before + all_outs ns n (take i xs) → new ≡ now + outs ns n x
    → new ≡ before + all_outs ns n (take (i + 1) xs)
counted_next ns n xs i x before now new at h step = let e : all_outs ns n (take (i + 1) xs) ≡ all_outs ns n (take i xs) + outs ns n x = one_more_out ns n xs i x at in omega arith

pub edges_out-append : (ns : List ℕ) (n : ℕ) (es fs : List DirectedPip) → edges_out ns n (es ++ fs) ≡ edges_out ns n es ++ edges_out ns n fs
edges_out-append ns n es fs = ap (map (edge_in ns)) (filter-append (goes_out ns n) es fs) ∙ map-append (edge_in ns) (filter (goes_out ns n) es) (filter (goes_out ns n) fs)

-- a row with the edges of one more PIP
pub one_more_edge : (ns : List ℕ) (n tile p : ℕ) (xs : List TilePip) (i : ℕ) (x : TilePip) (before now new : List (Option (ℕ × ℕ)))
    → slice_get xs i ≡ Some x → now ≡ before ++ edges_out ns n (ways_in tile p (take i xs)) → new ≡ now ++ edges_out ns n (ways tile (p + i) x)
    → new ≡ before ++ edges_out ns n (ways_in tile p (take (i + 1) xs))
one_more_edge ns n tile p xs i x before now new at h step =
    step ∙ ap (λ l. l ++ edges_out ns n (ways tile (p + i) x)) h
    ∙ append_assoc before (edges_out ns n (ways_in tile p (take i xs))) (edges_out ns n (ways tile (p + i) x))
    ∙ ap (λ l. before ++ l) (sym (ap (edges_out ns n) (ways_in_next tile p i xs x at) ∙ edges_out-append ns n (ways_in tile p (take i xs)) (ways tile (p + i) x)))

one_longer : (b : Bool) (e : DirectedPip) (l : List DirectedPip) → length (if b then e ∷ l else l) ≡ (if b then 1 else 0) + length l
one_longer true e l = omega arith
one_longer false e l = omega arith

-- how many edges of a PIP go out of a node
length_outs : (ns : List ℕ) (n tile p : ℕ) (x : TilePip) → length (filter (goes_out ns n) (ways tile p x)) ≡ outs ns n x
length_outs ns n tile p x = one_longer (is_node n (slice_get ns x.wire0)) (directed_pip (2 * p) tile x true) (filter (goes_out ns n) (backward x.directional)) ∙ ap (λ k. one_at ns n x.wire0 + k) (by x.directional)
  where
    backward : Bool → List DirectedPip
    backward b = if b then [] else directed_pip (2 * p + 1) tile x false ∷ []

    by : (b : Bool) → length (filter (goes_out ns n) (backward b)) ≡ (if b then 0 else one_at ns n x.wire1)
    by true = refl
    by false = one_longer (is_node n (slice_get ns x.wire1)) (directed_pip (2 * p + 1) tile x false) [] ∙ omega arith

-- how many edges of a tile do
pub length_all_outs : (ns : List ℕ) (n tile p : ℕ) (xs : List TilePip) → length (filter (goes_out ns n) (ways_in tile p xs)) ≡ all_outs ns n xs
unfolding ways_in
length_all_outs ns n tile p [] = refl
length_all_outs ns n tile p (x ∷ xs) =
    ap length (filter-append (goes_out ns n) (ways tile p x) (ways_in tile (p + 1) xs))
    ∙ length-append (filter (goes_out ns n) (ways tile p x)) (filter (goes_out ns n) (ways_in tile (p + 1) xs))
    ∙ ap (λ k. k + length (filter (goes_out ns n) (ways_in tile (p + 1) xs))) (length_outs ns n tile p x)
    ∙ ap (λ k. outs ns n x + k) (length_all_outs ns n tile (p + 1) xs)
    ∙ sym (sum_by-cons (outs ns n) x xs)

-- tests that agree and things that are told alike
map_filter_same : {A B : Type 0} (f g : A → B) (p q : A → Bool) (xs : List A) → AllByRecursion (λ x. (p x ≡ q x) × (f x ≡ g x)) xs → map f (filter p xs) ≡ map g (filter q xs)
map_filter_same f g p q [] h = refl
map_filter_same f g p q (x ∷ xs) h = by (p x) (map_filter_same f g p q xs h.1) ∙ ap (λ b. map g (if b then x ∷ filter q xs else filter q xs)) h.0.0
  where
    by : (b : Bool) → map f (filter p xs) ≡ map g (filter q xs) → map f (if b then x ∷ filter p xs else filter p xs) ≡ map g (if b then x ∷ filter q xs else filter q xs)
    by true rest = ap (λ y. y ∷ map f (filter p xs)) h.0.1 ∙ ap (λ l. g x ∷ l) rest
    by false rest = rest

pub all-append : {A : Type 0} (P : A → Type 0) (xs ys : List A) → AllByRecursion P xs → AllByRecursion P ys → AllByRecursion P (xs ++ ys)
all-append P [] ys h k = k
all-append P (x ∷ xs) ys h k = (h.0, all-append P xs ys h.1 k)

-- what holds of each directed PIP of a tile
all_ways : (P : DirectedPip → Type 0) (tile : ℕ) → ((k : ℕ) (x : TilePip) (b : Bool) → P (directed_pip k tile x b)) → (p : ℕ) (xs : List TilePip) → AllByRecursion P (ways_in tile p xs)
unfolding ways_in
all_ways P tile h p [] = tt
all_ways P tile h p (x ∷ xs) = all-append P (ways tile p x) (ways_in tile (p + 1) xs) (h (2 * p) x true, by x.directional) (all_ways P tile h (p + 1) xs)
  where
    by : (b : Bool) → AllByRecursion P (if b then [] else directed_pip (2 * p + 1) tile x false ∷ [])
    by true = tt
    by false = (h (2 * p + 1) x false, tt)

-- a tile's edges, by the nodes of its own wires
pub edges_of_tile : (wires : List (List ℕ)) (ns : List ℕ) (n tile p : ℕ) (xs : List TilePip) → slice_get wires tile ≡ Some ns
    → map (edge wires) (filter (goes_from wires n) (ways_in tile p xs)) ≡ edges_out ns n (ways_in tile p xs)
edges_of_tile wires ns n tile p xs at = map_filter_same (edge wires) (edge_in ns) (goes_from wires n) (goes_out ns n) (ways_in tile p xs) (all_ways _ tile alike p xs)
  where
    node : (wire : ℕ) → node_at wires tile wire ≡ slice_get ns wire
    node wire = ap (option_and_then (λ ws. slice_get ws wire)) at

    alike : (k : ℕ) (x : TilePip) (b : Bool) → (goes_from wires n (directed_pip k tile x b) ≡ goes_out ns n (directed_pip k tile x b)) × (edge wires (directed_pip k tile x b) ≡ edge_in ns (directed_pip k tile x b))
    alike k x b = (ap (is_node n) (node (enters_at (directed_pip k tile x b))), ap (option_map (λ m. (k, m))) (node (leaves_at (directed_pip k tile x b))))

-- how many they are
pub length_of_tile : (wires : List (List ℕ)) (ns : List ℕ) (n tile p : ℕ) (xs : List TilePip) → slice_get wires tile ≡ Some ns
    → length (filter (goes_from wires n) (ways_in tile p xs)) ≡ all_outs ns n xs
length_of_tile wires ns n tile p xs at =
    sym (length-map (filter (goes_from wires n) (ways_in tile p xs)) (edge wires)) ∙ ap length (edges_of_tile wires ns n tile p xs at)
    ∙ length-map (filter (goes_out ns n) (ways_in tile p xs)) (edge_in ns) ∙ length_all_outs ns n tile p xs

-- a row with a tile's edges is longer by their number
pub longer : {A : Type 0} (f : A → Option (ℕ × ℕ)) (ns : List ℕ) (n tile p : ℕ) (xs : List TilePip) (before now : List A)
    → map f now ≡ map f before ++ edges_out ns n (ways_in tile p xs) → length now ≡ length before + all_outs ns n xs
longer f ns n tile p xs before now h =
    let a : length (map f now) ≡ length now = length-map now f in
    let b : length (map f before) ≡ length before = length-map before f in
    let c : length (map f before ++ edges_out ns n (ways_in tile p xs)) ≡ length (map f before) + length (edges_out ns n (ways_in tile p xs)) = length-append (map f before) (edges_out ns n (ways_in tile p xs)) in
    let d : length (edges_out ns n (ways_in tile p xs)) ≡ all_outs ns n xs = length-map (filter (goes_out ns n) (ways_in tile p xs)) (edge_in ns) ∙ length_all_outs ns n tile p xs in
    let e : length (map f now) ≡ length (map f before ++ edges_out ns n (ways_in tile p xs)) = ap length h in
    omega arith

-- room for one more PIP of a tile
pub room_next : {A : Type 0} (f : A → Option (ℕ × ℕ)) (ns : List ℕ) (n tile p : ℕ) (xs : List TilePip) (i : ℕ) (x : TilePip) (before now : List A) (room room_now : ℕ)
    → slice_get xs i ≡ Some x → map f now ≡ map f before ++ edges_out ns n (ways_in tile p (take i xs)) → length before + all_outs ns n xs ≤ room → room_now ≡ room
    → length now + outs ns n x ≤ room_now
room_next f ns n tile p xs i x before now room room_now at h fits same =
    let e : all_outs ns n (take (i + 1) xs) ≡ all_outs ns n (take i xs) + outs ns n x = one_more_out ns n xs i x at in
    let g : all_outs ns n (take (i + 1) xs) ≤ all_outs ns n xs = sum_by-take-le (outs ns n) xs (i + 1) in
    let k : length now ≡ length before + all_outs ns n (take i xs) = longer f ns n tile p (take i xs) before now h in
    omega arith

-- the ways of the tiles behind the first i
pub rest_of_tiles : (types : List (List TilePip)) (kinds : List ℕ) (i : ℕ) → ways_from types 0 0 kinds ≡ ways_from types 0 0 (take i kinds) ++ ways_from types (0 + length (take i kinds)) (0 + pip_count types (take i kinds)) (drop i kinds)
rest_of_tiles types kinds i = ap (ways_from types 0 0) (sym (take-append-drop i kinds)) ∙ ways_from-append types 0 0 (take i kinds) (drop i kinds)

-- some of the tiles have at most as many edges out of a node as all
pub at_most_all : (wires : List (List ℕ)) (types : List (List TilePip)) (kinds : List ℕ) (n i : ℕ) → length (filter (goes_from wires n) (ways_from types 0 0 (take i kinds))) ≤ length (filter (goes_from wires n) (ways_from types 0 0 kinds))
at_most_all wires types kinds n i =
    let rest = ways_from types (0 + length (take i kinds)) (0 + pip_count types (take i kinds)) (drop i kinds) in
    let e : length (filter (goes_from wires n) (ways_from types 0 0 kinds)) ≡ length (filter (goes_from wires n) (ways_from types 0 0 (take i kinds))) + length (filter (goes_from wires n) rest)
    = ap (λ l. length (filter (goes_from wires n) l)) (rest_of_tiles types kinds i) ∙ ap length (filter-append (goes_from wires n) (ways_from types 0 0 (take i kinds)) rest) ∙ length-append _ _ in
    omega arith

-- Tile i, of this type, whose wires have these nodes.
module _ (wires : List (List ℕ)) (types : List (List TilePip)) (kinds : List ℕ) (i ty : ℕ) (ns : List ℕ) (at_kind : slice_get kinds i ≡ Some ty) (at_wires : slice_get wires i ≡ Some ns) where
  -- the edges of one tile more
  pub tile_edges_next : (n : ℕ) → map (edge wires) (filter (goes_from wires n) (ways_from types 0 0 (take (i + 1) kinds)))
      ≡ map (edge wires) (filter (goes_from wires n) (ways_from types 0 0 (take i kinds))) ++ edges_out ns n (ways_in i (pip_count types (take i kinds)) (pips_of_type types ty))
  tile_edges_next n =
      ap (λ l. map (edge wires) (filter (goes_from wires n) l)) (ways_next types kinds i ty at_kind)
      ∙ ap (map (edge wires)) (filter-append (goes_from wires n) before here)
      ∙ map-append (edge wires) (filter (goes_from wires n) before) (filter (goes_from wires n) here)
      ∙ ap (λ l. map (edge wires) (filter (goes_from wires n) before) ++ l) (edges_of_tile wires ns n i (pip_count types (take i kinds)) (pips_of_type types ty) at_wires)
    where
      before : List DirectedPip
      before = ways_from types 0 0 (take i kinds)

      here : List DirectedPip
      here = ways_in i (pip_count types (take i kinds)) (pips_of_type types ty)

  -- how many they are
  pub tile_count_next : (n : ℕ) → length (filter (goes_from wires n) (ways_from types 0 0 (take (i + 1) kinds)))
      ≡ length (filter (goes_from wires n) (ways_from types 0 0 (take i kinds))) + all_outs ns n (pips_of_type types ty)
  tile_count_next n =
      sym (length-map (filter (goes_from wires n) (ways_from types 0 0 (take (i + 1) kinds))) (edge wires)) ∙ ap length (tile_edges_next n)
      ∙ length-append (map (edge wires) (filter (goes_from wires n) (ways_from types 0 0 (take i kinds)))) (edges_out ns n here)
      ∙ ap (λ k. k + length (edges_out ns n here)) (length-map (filter (goes_from wires n) (ways_from types 0 0 (take i kinds))) (edge wires))
      ∙ ap (λ k. length (filter (goes_from wires n) (ways_from types 0 0 (take i kinds))) + k) (length-map (filter (goes_out ns n) here) (edge_in ns) ∙ length_all_outs ns n i (pip_count types (take i kinds)) (pips_of_type types ty))
    where
      here : List DirectedPip
      here = ways_in i (pip_count types (take i kinds)) (pips_of_type types ty)

  -- there is room for one tile more
  pub tile_room : (n room length_now : ℕ) → room ≡ length (filter (goes_from wires n) (ways_from types 0 0 kinds)) → length_now ≡ length (filter (goes_from wires n) (ways_from types 0 0 (take i kinds)))
      → length_now + all_outs ns n (pips_of_type types ty) ≤ room
  tile_room n room length_now e f =
      let g : length (filter (goes_from wires n) (ways_from types 0 0 (take (i + 1) kinds))) ≡ length (filter (goes_from wires n) (ways_from types 0 0 (take i kinds))) + all_outs ns n (pips_of_type types ty) = tile_count_next n in
      let h : length (filter (goes_from wires n) (ways_from types 0 0 (take (i + 1) kinds))) ≤ length (filter (goes_from wires n) (ways_from types 0 0 kinds)) = at_most_all wires types kinds n (i + 1) in
      omega arith

  -- a row with the edges of one tile more
  pub row_next : (n first : ℕ) (xs : List TilePip) (now new : List (Option (ℕ × ℕ))) → first ≡ pip_count types (take i kinds) → pips_of_type types ty ≡ xs
      → now ≡ map (edge wires) (filter (goes_from wires n) (ways_from types 0 0 (take i kinds))) → new ≡ now ++ edges_out ns n (ways_in i first xs)
      → new ≡ map (edge wires) (filter (goes_from wires n) (ways_from types 0 0 (take (i + 1) kinds)))
  row_next n first xs now new e f h step =
      step ∙ ap (λ l. l ++ edges_out ns n (ways_in i first xs)) h ∙ ap (λ p. before ++ edges_out ns n (ways_in i p xs)) e
      ∙ ap (λ ys. before ++ edges_out ns n (ways_in i (pip_count types (take i kinds)) ys)) (sym f) ∙ sym (tile_edges_next n)
    where
      before : List (Option (ℕ × ℕ))
      before = map (edge wires) (filter (goes_from wires n) (ways_from types 0 0 (take i kinds)))

  -- a row's count with one tile more
  pub tile_counted_next : (n before now new : ℕ) (xs : List TilePip) → pips_of_type types ty ≡ xs → now ≡ before + length (filter (goes_from wires n) (ways_from types 0 0 (take i kinds))) → new ≡ now + all_outs ns n xs
      → new ≡ before + length (filter (goes_from wires n) (ways_from types 0 0 (take (i + 1) kinds)))
  tile_counted_next n before now new xs f h step =
      let g : length (filter (goes_from wires n) (ways_from types 0 0 (take (i + 1) kinds))) ≡ length (filter (goes_from wires n) (ways_from types 0 0 (take i kinds))) + all_outs ns n (pips_of_type types ty) = tile_count_next n in
      let k : all_outs ns n (pips_of_type types ty) ≡ all_outs ns n xs = ap (all_outs ns n) f in
      omega arith

-- some of the tiles have at most as many PIPs as all
pub some_pips : (types : List (List TilePip)) (kinds : List ℕ) (i : ℕ) → pip_count types (take i kinds) ≤ pip_count types kinds
some_pips types kinds i = sum_by-take-le (λ u. length (pips_of_type types u)) kinds i
