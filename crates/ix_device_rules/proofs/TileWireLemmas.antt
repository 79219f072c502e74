-- Tile wires, told by tables.
use Rattle.std.proofs.Common.{◌≡◌, ◌<◌, cond, nat_lt, ◌∙◌, ◌∷◌, ◌≤◌, ◌||◌, ◌&&◌, length, inl, inr, [], ℕ, zero, suc, Bool, true, false, true≢false, not, nat_eq, List, map, slice_get, Option, Some, None, option_map, unwrap_or, is_some, position, ap, refl, sym, subst, arith}
use Rattle.std.specs.List.{list_any, flat_map, position_or_len}
use Rattle.std.proofs.lemmas.Bool.Decides.{nat_tests}
use Rattle.std.proofs.lemmas.List.Folds.{list_any-append}
use Rattle.std.proofs.lemmas.Option.{slice_get-map, slice_get_past, same_Some, none-some}
use Rattle.ix_message.specs.Indexes.{Step, begun, asked}
use Rattle.ix_rec.specs.declared.device.DeviceRec.{DeviceRec}
use Rattle.ix_rec.specs.declared.device.Tile.{Tile}
use Rattle.ix_rec.specs.declared.device.Wire.{Wire}
use Rattle.ix_rec.specs.declared.device.Node.{Node}
use Rattle.ix_keys.specs.declared.key.Key.{Key}
use Rattle.ix_keys.specs.Keys.{key, name_key, key_eq, has_key, AllDiffer}
use Rattle.ix_device_rules.specs.Named.{tile_key}
use Rattle.ix_device_rules.specs.Tables.{SameKeys, KnowsWires, EachKnown}
use Rattle.ix_device_rules.specs.TileWires.{wire_key, wire_keys, node_keys, is_free_of, wire_is_free, type_has_wire, has_wire_at}
use Rattle.ix_device_rules.specs.Rules.{is_same_wire, node_has, is_free, node_wires, wires_of_tile, has_tile_wire}
use Rattle.ix_device_rules.proofs.TableLemmas.{list_any-same, list_any-map, nat_eq-sym, either}
use Rattle.std.proofs.lemmas.Bool.{lt-ltb}
use Rattle.ix_strings.proofs.TableLemmas.{position_or_len-within, position_or_len-none}
use Rattle.ix_keys.proofs.KeyLemmas.{alike, stands}
use Rattle.ix_rec.specs.declared.device.TileType.{TileType}
use Rattle.ix_device_rules.proofs.WireLemmas.{map-same}
use Rattle.std.proofs.lemmas.List.Concat.{flat_map_single}

-- a key among the keys of things
pub has_key-flat : {A : Type 0} (f : A → List Key) (xs : List A) (k : Key) → has_key (flat_map f xs) k ≡ list_any (λ x. has_key (f x) k) xs
has_key-flat f [] k = refl
has_key-flat f (x ∷ xs) k = list_any-append (key_eq k) (f x) (flat_map f xs) ∙ ap (λ b. has_key (f x) k || b) (has_key-flat f xs k)

or_false : (b : Bool) → (b || false) ≡ b
or_false true = refl
or_false false = refl

one_wire : (w : Wire) (o : Option Wire) → has_key (unwrap_or (option_map (λ u. wire_key u ∷ []) o) []) (wire_key w) ≡ unwrap_or (option_map (is_same_wire w) o) false
one_wire w None = refl
one_wire w (Some u) = or_false (key_eq (wire_key w) (wire_key u))

-- a wire is taken where one of the nodes has it
pub taken_by : (rec : DeviceRec) (w : Wire) (nodes : List Node) → has_key (flat_map (node_keys rec.wires) nodes) (wire_key w) ≡ list_any (node_has rec w) nodes
taken_by rec w nodes =
    has_key-flat (node_keys rec.wires) nodes (wire_key w)
    ∙ list_any-same (λ n. has_key (node_keys rec.wires n) (wire_key w)) (node_has rec w) (λ n. has_key-flat (wire_keys rec.wires) n.wires (wire_key w) ∙ list_any-same (λ i. has_key (wire_keys rec.wires i) (wire_key w)) (λ i. unwrap_or (option_map (is_same_wire w) (slice_get rec.wires i)) false) (λ i. one_wire w (slice_get rec.wires i)) n.wires) nodes

free_by : (rec : DeviceRec) (nodes : List Node) (taken : List Key) → SameKeys taken (flat_map (node_keys rec.wires) nodes) → (o : Option Wire) → unwrap_or (option_map (λ w. not (has_key taken (wire_key w))) o) true ≡ unwrap_or (option_map (λ w. not (list_any (node_has rec w) nodes)) o) true
free_by rec nodes taken h None = refl
free_by rec nodes taken h (Some w) = ap not (h.same (wire_key w) ∙ taken_by rec w nodes)

pub node_steps : (rec : DeviceRec) (nodes : List Node) (taken : List Key) → SameKeys taken (flat_map (node_keys rec.wires) nodes) → (n : Node) → (begun "Node" ∷ flat_map (wire_is_free rec.wires taken) n.wires) ≡ node_wires rec nodes n
node_steps rec nodes taken h n =
    ap (λ (l : List Step). begun "Node" ∷ l)
    (flat_map_single (λ i. asked "Node" "wires" (is_free_of rec.wires taken i)) n.wires
    ∙ map-same (λ i. asked "Node" "wires" (is_free_of rec.wires taken i)) (λ i. asked "Node" "wires" (is_free rec nodes i)) (λ i. ap (λ b. asked "Node" "wires" b) (free_by rec nodes taken h (slice_get rec.wires i))) n.wires)

-- no wire of a place past the end
pub no_wire_keys : (wires : List Wire) (i : ℕ) → length wires ≤ i → wire_keys wires i ≡ []
no_wire_keys wires i past = ap (λ o. unwrap_or (option_map (λ w. wire_key w ∷ []) o) []) (slice_get_past wires i past)

-- The tile of a name, and its wires.

pub some_place : {A : Type 0} (p : A → Bool) (xs : List A) → is_some (position p xs) ≡ list_any p xs
some_place p xs = elim (either (list_any p xs)) [
  | inl any ↦ (let within : position_or_len p xs < length xs = position_or_len-within p xs any in ap (λ b. is_some (cond b (Some (position_or_len p xs)) None)) (lt-ltb _ _ within) ∙ sym any)
  | inr none ↦ (let past : nat_lt (position_or_len p xs) (length xs) ≡ false = rw (position_or_len-none p xs none) (grind (arith, nat_tests)) in ap (λ b. is_some (cond b (Some (position_or_len p xs)) None)) past ∙ sym none)
]

stands_at : (ks : List Key) (k : Key) → has_key ks k ≡ true → (i : ℕ) × (slice_get ks i ≡ Some k)
stands_at [] k h = absurd (true≢false (sym h))
stands_at (x ∷ xs) k h = by (key_eq k x) refl h (stands_at xs k)
  where
    by : (b : Bool) → key_eq k x ≡ b → (b || has_key xs k) ≡ true → (has_key xs k ≡ true → (i : ℕ) × (slice_get xs i ≡ Some k)) → (i : ℕ) × (slice_get (x ∷ xs) i ≡ Some k)
    by true e h later = (0, ap (λ y. Some y) (sym (alike k x e)))
    by false e h later = (suc (later h).0, (later h).1)

tile_wire : (rec : DeviceRec) (table : List Key) → EachKnown KnowsWires table rec.tile_type_list → (t : Tile) (wire : ℕ) → type_has_wire rec table t.ty wire ≡ list_any (nat_eq wire) (wires_of_tile rec t)
tile_wire rec table knows t wire = by (slice_get rec.tile_type_list t.ty) refl
  where
    by : (o : Option TileType) → slice_get rec.tile_type_list t.ty ≡ o → unwrap_or (option_map (λ _. has_key table (key t.ty 0 wire)) o) false ≡ list_any (nat_eq wire) (unwrap_or (option_map (λ ty. ty.wires) o) [])
    by None e = refl
    by (Some ty) e = knows t.ty ty e wire

same_name : (n : ℕ) (ts : List Tile) → has_key (map tile_key ts) (name_key n) ≡ list_any (λ t. nat_eq t.name n) ts
same_name n ts = list_any-map (key_eq (name_key n)) tile_key ts ∙ list_any-same (λ t. nat_eq n t.name) (λ t. nat_eq t.name n) (λ t. nat_eq-sym n t.name) ts

-- where no tile has the name, none of the name has anything
none_named : (n : ℕ) (has : Tile → Bool) (ts : List Tile) → list_any (λ t. nat_eq t.name n) ts ≡ false → list_any (λ t. nat_eq t.name n && has t) ts ≡ false
none_named n has [] h = refl
none_named n has (t ∷ ts) h = by (nat_eq t.name n) (list_any (λ t. nat_eq t.name n) ts) h (none_named n has ts)
  where
    by : (b r : Bool) → (b || r) ≡ false → (r ≡ false → list_any (λ t. nat_eq t.name n && has t) ts ≡ false) → ((b && has t) || list_any (λ t. nat_eq t.name n && has t) ts) ≡ false
    by true r h rest = absurd (true≢false h)
    by false r h rest = rest h

differ_behind : (k : Key) (ks : List Key) → AllDiffer (k ∷ ks) → AllDiffer ks
differ_behind k ks differ i j t at_i at_j = let e : suc i ≡ suc j = differ (suc i) (suc j) t at_i at_j in omega arith

-- the first of keys that differ stands nowhere later
not_behind : (k : Key) (ks : List Key) → AllDiffer (k ∷ ks) → has_key ks k ≡ false
not_behind k ks differ = elim (either (has_key ks k)) [ inl there ↦ absurd (again (stands_at ks k there)) | inr not_there ↦ not_there ]
  where
    again : (i : ℕ) × (slice_get ks i ≡ Some k) → ⊥
    again found = let e : 0 ≡ suc found.0 = differ 0 (suc found.0) k refl found.1 in absurd (omega arith)

-- among tiles whose names differ, one alone has the name of this
only_one : (has : Tile → Bool) (ts : List Tile) (p : ℕ) (t : Tile) → AllDiffer (map tile_key ts) → slice_get ts p ≡ Some t → list_any (λ u. nat_eq u.name t.name && has u) ts ≡ has t
only_one has [] p t differ at = absurd (none-some t at)
only_one has (u ∷ us) zero t differ at =
    let is : u ≡ t = same_Some u t at in
    let none : list_any (λ v. nat_eq v.name u.name) us ≡ false = sym (same_name u.name us) ∙ not_behind (tile_key u) (map tile_key us) differ in
    let like : nat_eq u.name u.name ≡ true = grind (arith, nat_tests) in
    let here : list_any (λ v. nat_eq v.name u.name && has v) (u ∷ us) ≡ has u = (λ i. (like i && has u) || none_named u.name has us none i) ∙ or_false (has u) in
    subst (λ v. list_any (λ w. nat_eq w.name v.name && has w) (u ∷ us) ≡ has v) is here
only_one has (u ∷ us) (suc p) t differ at =
    let other : nat_eq u.name t.name ≡ false = elim (either (nat_eq u.name t.name)) [ inl same ↦ absurd (apart same) | inr differs ↦ differs ] in
    ap (λ b. (b && has u) || list_any (λ v. nat_eq v.name t.name && has v) us) other ∙ only_one has us p t (differ_behind (tile_key u) (map tile_key us) differ) at
  where
    apart : nat_eq u.name t.name ≡ true → ⊥
    apart same =
        let names : u.name ≡ t.name = grind (arith, nat_tests) in
        let there : slice_get (map tile_key us) p ≡ Some (tile_key t) = slice_get-map tile_key us p ∙ ap (option_map tile_key) at in
        let e : 0 ≡ suc p = differ 0 (suc p) (tile_key t) (ap (λ n. Some (name_key n)) names) there in
        absurd (omega arith)

pub named_tile : (tiles : List Tile) (n : ℕ) (place : Option ℕ) → place ≡ position (key_eq (name_key n)) (map tile_key tiles) → is_some place ≡ list_any (λ t. nat_eq t.name n) tiles
named_tile tiles n place is = ap is_some is ∙ some_place (key_eq (name_key n)) (map tile_key tiles) ∙ same_name n tiles

pub named_wire : (rec : DeviceRec) (table : List Key) (names : List Key) → EachKnown KnowsWires table rec.tile_type_list → names ≡ map tile_key rec.tile_list → AllDiffer names → (n wire : ℕ) (place : Option ℕ) → place ≡ position (key_eq (name_key n)) names → has_wire_at rec table place wire ≡ has_tile_wire rec n wire
named_wire rec table names knows are differ n wire None is =
    let none : list_any (λ t. nat_eq t.name n) rec.tile_list ≡ false = sym (named_tile rec.tile_list n None (is ∙ ap (λ ks. position (key_eq (name_key n)) ks) are)) in
    sym (none_named n (λ t. list_any (nat_eq wire) (wires_of_tile rec t)) rec.tile_list none)
named_wire rec table names knows are differ n wire (Some p) is = by (slice_get rec.tile_list p) refl
  where
    there : slice_get (map tile_key rec.tile_list) p ≡ Some (name_key n)
    there = ap (λ ks. slice_get ks p) (sym are) ∙ stands names (name_key n) p is

    found : (o : Option Tile) → slice_get rec.tile_list p ≡ o → option_map tile_key o ≡ Some (name_key n)
    found o e = sym (slice_get-map tile_key rec.tile_list p ∙ ap (option_map tile_key) e) ∙ there

    by : (o : Option Tile) → slice_get rec.tile_list p ≡ o → unwrap_or (option_map (λ t. type_has_wire rec table t.ty wire) o) false ≡ has_tile_wire rec n wire
    by None e = absurd (none-some (name_key n) (found None e))
    by (Some t) e =
        let key_is = same_Some (tile_key t) (name_key n) (found (Some t) e) in
        let name_is : t.name ≡ n = ap (λ k. k.name) key_is in
        tile_wire rec table knows t wire
        ∙ sym (only_one (λ u. list_any (nat_eq wire) (wires_of_tile rec u)) rec.tile_list p t (subst AllDiffer are differ) e)
        ∙ ap (λ m. list_any (λ u. nat_eq u.name m && list_any (nat_eq wire) (wires_of_tile rec u)) rec.tile_list) name_is
