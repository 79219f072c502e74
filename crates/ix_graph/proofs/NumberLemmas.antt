-- The number of a tile wire's node: its entry's, or else the next after those of the wires before it.
use Rattle.std.proofs.Common.{◌≡◌, ◌<◌, ◌≤◌, refl, ap, sym, subst, ◌∙◌, ℕ, zero, suc, ◌+◌, Bool, true, false, not, cond, nat_lt, ◌||◌, List, [], ◌∷◌, ◌++◌, map, take, length, slice_get, Option, Some, None, append_assoc, arith}
use Rattle.std.specs.List.{AllByRecursion, filter, flat_map, list_any, position, position_or_len, range_with_len}
use Rattle.std.proofs.lemmas.Bool.{lt-ltb, ltb-true}
use Rattle.std.proofs.lemmas.Option.{none-some, same_Some}
use Rattle.std.proofs.lemmas.List.{length-append, length-map, map-append}
use Rattle.std.proofs.lemmas.List.Elements.{filter-append}
use Rattle.std.proofs.lemmas.List.Folds.{list_any-append}
use Rattle.std.proofs.lemmas.Grind.{flat_map-append}
use Rattle.ix_rec.specs.declared.device.DeviceRec.{DeviceRec}
use Rattle.ix_rec.specs.declared.device.Tile.{Tile}
use Rattle.ix_device.proofs.FirstPlaces.{none-place, some-place}
use Rattle.ix_graph.specs.Nodes.{wire_count, wires_in, tile_wires, is_wire, has_wire, has_some, entry_wires, entries, is_alone, nodes, node_of, first_wires, nodes_from}
use Rattle.ix_graph.specs.NodeTables.{wires_before, firsts_with}
use Rattle.ix_graph.proofs.TileWires.{around_wire, not_before, same_wire}

-- The first place in two lists, one after the other.

past_first : {X : Type 0} (p : X → Bool) (xs ys : List X) → list_any p xs ≡ false → position_or_len p (xs ++ ys) ≡ length xs + position_or_len p ys
past_first p [] ys h = omega arith
past_first p (x ∷ xs) ys h = by (p x) h (past_first p xs ys)
  where
    by : (b : Bool) → (b || list_any p xs) ≡ false → (list_any p xs ≡ false → position_or_len p (xs ++ ys) ≡ length xs + position_or_len p ys)
        → cond (not b) (1 + position_or_len p (xs ++ ys)) 0 ≡ suc (length xs) + position_or_len p ys
    by true e rest = absurd (cc)
    by false e rest = let same = rest e in omega arith

in_first : {X : Type 0} (p : X → Bool) (xs ys : List X) → list_any p xs ≡ true → position_or_len p (xs ++ ys) ≡ position_or_len p xs
in_first p [] ys h = absurd (cc)
in_first p (x ∷ xs) ys h = by (p x) h (in_first p xs ys)
  where
    by : (b : Bool) → (b || list_any p xs) ≡ true → (list_any p xs ≡ true → position_or_len p (xs ++ ys) ≡ position_or_len p xs)
        → cond (not b) (1 + position_or_len p (xs ++ ys)) 0 ≡ cond (not b) (1 + position_or_len p xs) 0
    by true e rest = refl
    by false e rest = ap (λ n. 1 + n) (rest e)

place_of_some : {X : Type 0} (p : X → Bool) (xs : List X) (n : ℕ) → position p xs ≡ Some n → position_or_len p xs ≡ n
place_of_some p xs n h = by (nat_lt (position_or_len p xs) (length xs)) h
  where
    by : (b : Bool) → cond b (Some (position_or_len p xs)) None ≡ Some n → position_or_len p xs ≡ n
    by true e = same_Some (position_or_len p xs) n e
    by false e = absurd (none-some n e)

place_below : {X : Type 0} (p : X → Bool) (xs : List X) (n : ℕ) → position p xs ≡ Some n → n < length xs
place_below p xs n h = by (nat_lt (position_or_len p xs) (length xs)) refl h
  where
    by : (b : Bool) → nat_lt (position_or_len p xs) (length xs) ≡ b → cond b (Some (position_or_len p xs)) None ≡ Some n → n < length xs
    by true t e = subst (λ m. m < length xs) (same_Some (position_or_len p xs) n e) (ltb-true (position_or_len p xs) (length xs) t)
    by false t e = absurd (none-some n e)

first_of_two : {X : Type 0} (p : X → Bool) (x : X) (xs : List X) → p x ≡ true → position_or_len p (x ∷ xs) ≡ 0
first_of_two p x xs h = ap (λ b. cond (not b) (1 + position_or_len p xs) 0) h

-- a filter keeps no item that passes a test where there was none
none_kept : {X : Type 0} (p q : X → Bool) (xs : List X) → list_any p xs ≡ false → list_any p (filter q xs) ≡ false
none_kept p q [] h = refl
none_kept p q (x ∷ xs) h = by (p x) (q x) refl h (none_kept p q xs)
  where
    by : (a b : Bool) → p x ≡ a → (a || list_any p xs) ≡ false → (list_any p xs ≡ false → list_any p (filter q xs) ≡ false) → list_any p (cond b (x ∷ filter q xs) (filter q xs)) ≡ false
    by true b s e rest = absurd (cc)
    by false true s e rest = ap (λ c. c || list_any p (filter q xs)) s ∙ rest e
    by false false s e rest = rest e

pub kept_head : {X : Type 0} (q : X → Bool) (x : X) (xs : List X) → q x ≡ true → filter q (x ∷ xs) ≡ x ∷ filter q xs
kept_head q x xs h = ap (λ b. cond b (x ∷ filter q xs) (filter q xs)) h

pub dropped_head : {X : Type 0} (q : X → Bool) (x : X) (xs : List X) → q x ≡ false → filter q (x ∷ xs) ≡ filter q xs
dropped_head q x xs h = ap (λ b. cond b (x ∷ filter q xs) (filter q xs)) h

-- Nodes of one wire each.

abbrev each_alone : List (ℕ × ℕ) → List (List (ℕ × ℕ))
each_alone ws = map (λ w. w ∷ []) ws

none_alone : (w : ℕ × ℕ) (ws : List (ℕ × ℕ)) → list_any (is_wire w) ws ≡ false → list_any (has_wire w) (each_alone ws) ≡ false
none_alone w [] h = refl
none_alone w (x ∷ xs) h = by (is_wire w x) h (none_alone w xs)
  where
    by : (b : Bool) → (b || list_any (is_wire w) xs) ≡ false → (list_any (is_wire w) xs ≡ false → list_any (has_wire w) (each_alone xs) ≡ false) → ((b || false) || list_any (has_wire w) (each_alone xs)) ≡ false
    by true e rest = absurd (cc)
    by false e rest = rest e

has_itself : (w : ℕ × ℕ) → has_wire w (w ∷ []) ≡ true
has_itself w = ap (λ b. b || false) (same_wire w)

-- an entry's wire has the entry's number
pub named : (rec : DeviceRec) (w : ℕ × ℕ) (n : ℕ) → position (has_wire w) (entries rec) ≡ Some n → node_of rec w ≡ n
unfolding nodes
named rec w n h = in_first (has_wire w) (entries rec) (each_alone (filter (is_alone rec) (tile_wires rec))) (some-place (has_wire w) (entries rec) n h) ∙ place_of_some (has_wire w) (entries rec) n h

pub not_alone : (rec : DeviceRec) (w : ℕ × ℕ) (n : ℕ) → position (has_wire w) (entries rec) ≡ Some n → is_alone rec w ≡ false
not_alone rec w n h = ap not (some-place (has_wire w) (entries rec) n h)

pub alone : (rec : DeviceRec) (w : ℕ × ℕ) → position (has_wire w) (entries rec) ≡ None → is_alone rec w ≡ true
alone rec w h = ap not (none-place (has_wire w) (entries rec) h)

-- the nodes, about a wire that is alone
nodes_around : (rec : DeviceRec) (w : ℕ × ℕ) (before after : List (ℕ × ℕ)) → tile_wires rec ≡ before ++ w ∷ after → is_alone rec w ≡ true
    → nodes rec ≡ (entries rec ++ each_alone (filter (is_alone rec) before)) ++ (w ∷ []) ∷ each_alone (filter (is_alone rec) after)
unfolding nodes
nodes_around rec w before after h is =
    ap (λ ws. entries rec ++ each_alone ws) (ap (filter (is_alone rec)) h ∙ filter-append (is_alone rec) before (w ∷ after) ∙ ap (λ ws. filter (is_alone rec) before ++ ws) (kept_head (is_alone rec) w after is))
    ∙ ap (λ l. entries rec ++ l) (map-append (λ x. x ∷ []) (filter (is_alone rec) before) (w ∷ filter (is_alone rec) after))
    ∙ sym (append_assoc (entries rec) (each_alone (filter (is_alone rec) before)) ((w ∷ []) ∷ each_alone (filter (is_alone rec) after)))

-- Each entry has a first wire, and so has each wire that is alone.

firsts_of_alone : (ws : List (ℕ × ℕ)) → flat_map (take 1) (each_alone ws) ≡ ws
firsts_of_alone [] = refl
firsts_of_alone (w ∷ ws) = ap (λ l. w ∷ l) (firsts_of_alone ws)

some_wire : (x : ℕ × ℕ) (xs : List (ℕ × ℕ)) → has_some (x ∷ xs) ≡ true
some_wire x xs = lt-ltb 0 (suc (length xs)) (omega arith)

-- an entry that has a wire counts
pub wires_count : (x : ℕ × ℕ) (xs : List (ℕ × ℕ)) (all : List (List (ℕ × ℕ))) → filter has_some ((x ∷ xs) ∷ all) ≡ (x ∷ xs) ∷ filter has_some all
wires_count x xs all = kept_head has_some (x ∷ xs) all (some_wire x xs)

pub count_firsts : (all : List (List (ℕ × ℕ))) → length (flat_map (take 1) (filter has_some all)) ≡ length (filter has_some all)
count_firsts [] = refl
count_firsts ([] ∷ all) = count_firsts all
count_firsts ((w ∷ ws) ∷ all) = ap (λ es. length (flat_map (take 1) es)) (wires_count w ws all) ∙ ap suc (count_firsts all) ∙ ap length (sym (wires_count w ws all))

count_entries : (rec : DeviceRec) → length (flat_map (take 1) (entries rec)) ≡ length (entries rec)
unfolding entries
count_entries rec = count_firsts (map (entry_wires rec) rec.nodes)

-- how many nodes there are with these wires
count_with : (rec : DeviceRec) (ws : List (ℕ × ℕ)) → length (entries rec ++ each_alone (filter (is_alone rec) ws)) ≡ length (firsts_with rec ws)
count_with rec ws =
    length-append (entries rec) (each_alone (filter (is_alone rec) ws)) ∙ ap (λ n. length (entries rec) + n) (length-map (filter (is_alone rec) ws) (λ w. w ∷ []))
    ∙ ap (λ n. n + length (filter (is_alone rec) ws)) (sym (count_entries rec)) ∙ sym (length-append (flat_map (take 1) (entries rec)) (filter (is_alone rec) ws))

pub all_firsts : (rec : DeviceRec) → firsts_with rec (tile_wires rec) ≡ first_wires rec
unfolding nodes first_wires
all_firsts rec = sym (flat_map-append (take 1) (entries rec) (each_alone (filter (is_alone rec) (tile_wires rec))) ∙ ap (λ ws. flat_map (take 1) (entries rec) ++ ws) (firsts_of_alone (filter (is_alone rec) (tile_wires rec))))

-- a node has one first wire
pub count_nodes : (rec : DeviceRec) → length (first_wires rec) ≡ length (nodes rec)
unfolding nodes
count_nodes rec = ap length (sym (all_firsts rec)) ∙ sym (count_with rec (tile_wires rec))

-- a wire that is alone has the next number after the nodes of the wires before it
pub next_number : (rec : DeviceRec) (w : ℕ × ℕ) (before after : List (ℕ × ℕ)) → tile_wires rec ≡ before ++ w ∷ after → list_any (is_wire w) before ≡ false
    → position (has_wire w) (entries rec) ≡ None → node_of rec w ≡ length (firsts_with rec before)
next_number rec w before after h new none =
    ap (position_or_len (has_wire w)) (nodes_around rec w before after h (alone rec w none))
    ∙ past_first (has_wire w) (entries rec ++ each_alone (filter (is_alone rec) before)) ((w ∷ []) ∷ each_alone (filter (is_alone rec) after)) not_yet
    ∙ ap (λ n. length (entries rec ++ each_alone (filter (is_alone rec) before)) + n) (first_of_two (has_wire w) (w ∷ []) (each_alone (filter (is_alone rec) after)) (has_itself w))
    ∙ nothing_more (length (entries rec ++ each_alone (filter (is_alone rec) before)))
    ∙ count_with rec before
  where
    nothing_more : (n : ℕ) → n + 0 ≡ n
    nothing_more n = omega arith

    not_yet : list_any (has_wire w) (entries rec ++ each_alone (filter (is_alone rec) before)) ≡ false
    not_yet =
        list_any-append (has_wire w) (entries rec) (each_alone (filter (is_alone rec) before))
        ∙ ap (λ b. b || list_any (has_wire w) (each_alone (filter (is_alone rec) before))) (none-place (has_wire w) (entries rec) none)
        ∙ none_alone w (filter (is_alone rec) before) (none_kept (is_wire w) (is_alone rec) before new)

-- A tile wire is in a node.

below_first : (n a b : ℕ) → n < a → n < a + b
below_first n a b h = omega arith

is_below : (rec : DeviceRec) (w : ℕ × ℕ) (before after : List (ℕ × ℕ)) → tile_wires rec ≡ before ++ w ∷ after → list_any (is_wire w) before ≡ false → node_of rec w < length (nodes rec)
unfolding nodes
is_below rec w before after h new = by (position (has_wire w) (entries rec)) refl
  where
    by : (o : Option ℕ) → position (has_wire w) (entries rec) ≡ o → node_of rec w < length (nodes rec)
    by (Some n) at =
        subst (λ m. m < length (nodes rec)) (sym (named rec w n at))
        (subst (λ m. n < m) (sym (length-append (entries rec) (each_alone (filter (is_alone rec) (tile_wires rec))))) (below_first n (length (entries rec)) (length (each_alone (filter (is_alone rec) (tile_wires rec)))) (place_below (has_wire w) (entries rec) n at)))
    by None none =
        subst (λ m. m < length (nodes rec)) (sym (next_number rec w before after h new none ∙ sym (count_with rec before)))
        (subst (λ m. length (entries rec ++ each_alone (filter (is_alone rec) before)) < m)
        (sym (ap length (nodes_around rec w before after h (alone rec w none)) ∙ length-append (entries rec ++ each_alone (filter (is_alone rec) before)) ((w ∷ []) ∷ each_alone (filter (is_alone rec) after))))
        (omega arith))

tile_below : (rec : DeviceRec) (tile : ℕ) (t : Tile) (first n : ℕ) → slice_get rec.tile_list tile ≡ Some t → first + n ≤ wire_count rec t → AllByRecursion (λ m. m < length (nodes rec)) (map (node_of rec) (map (λ w. (tile, w)) (range_with_len first n)))
tile_below rec tile t first zero at h = tt
tile_below rec tile t first (suc n) at h = (by (around_wire rec tile t first at (omega arith)), tile_below rec tile t (first + 1) n at (omega arith))
  where
    by : (after : List (ℕ × ℕ)) × (tile_wires rec ≡ (wires_before rec tile ++ wires_in tile first) ++ (tile, first) ∷ after) → node_of rec (tile, first) < length (nodes rec)
    by around = is_below rec (tile, first) (wires_before rec tile ++ wires_in tile first) around.0 around.1 (not_before rec tile t first at)

tiles_below : (rec : DeviceRec) (first : ℕ) (ts : List Tile) → ((k : ℕ) (t : Tile) → slice_get ts k ≡ Some t → slice_get rec.tile_list (k + first) ≡ Some t)
    → AllByRecursion (λ ns. AllByRecursion (λ m. m < length (nodes rec)) ns) (nodes_from rec first ts)
unfolding nodes_from
tiles_below rec first [] at = tt
tiles_below rec first (t ∷ ts) at =
    (tile_below rec first t 0 (wire_count rec t) (ap (slice_get rec.tile_list) (this_place first) ∙ at 0 t refl) (omega arith), tiles_below rec (first + 1) ts (λ k u h. ap (slice_get rec.tile_list) (next_place first k) ∙ at (suc k) u h))
  where
    this_place : (a : ℕ) → a ≡ 0 + a
    this_place a = omega arith

    next_place : (a b : ℕ) → b + (a + 1) ≡ suc b + a
    next_place a b = omega arith

-- each node's number is below the number of nodes
pub all_below : (rec : DeviceRec) → AllByRecursion (λ ns. AllByRecursion (λ m. m < length (nodes rec)) ns) (nodes_from rec 0 rec.tile_list)
all_below rec = tiles_below rec 0 rec.tile_list (λ k t h. ap (slice_get rec.tile_list) (same_place k) ∙ h)
  where
    same_place : (a : ℕ) → a + 0 ≡ a
    same_place a = omega arith
