-- The tables and the first wires, entry by entry.
use Rattle.std.proofs.Common.{◌≡◌, ◌<◌, refl, ap, sym, subst, ◌∙◌, ℕ, zero, suc, ◌+◌, ◌≤◌, ◌⊎◌, inl, inr, Bool, true, false, nat_eq, if◌then◌else◌, ◌||◌, List, [], ◌∷◌, ◌++◌, map, take, length, slice_get, Option, Some, None, option_map, option_and_then, append-nil, arith}
use Rattle.std.specs.List.{filter, filter_map, flat_map, position}
use Rattle.std.proofs.lemmas.Bool.{eq-eqb, ne_eqb, cases_lt}
use Rattle.std.proofs.lemmas.Option.{same_Some, slice_get_within}
use Rattle.std.proofs.lemmas.List.{length-append, take_all}
use Rattle.std.proofs.lemmas.List.Elements.{filter-append, filter_map-append}
use Rattle.std.proofs.lemmas.List.Folds.{list_any-append}
use Rattle.std.proofs.lemmas.Grind.{flat_map-append}
use Rattle.ix_first.specs.First.{value_of, or_later}
use Rattle.ix_first.specs.declared.by_id.FirstById.{FirstById}
use Rattle.ix_rec.specs.declared.device.DeviceRec.{DeviceRec}
use Rattle.ix_rec.specs.declared.device.Tile.{Tile}
use Rattle.ix_rec.specs.declared.device.Node.{Node}
use Rattle.ix_rec.specs.declared.device.Wire.{Wire}
use Rattle.ix_device.specs.Lookups.{tile_wire_named}
use Rattle.ix_device.proofs.FirstPlaces.{position-push}
use Rattle.ix_device.proofs.Walks.{take_next, map_take_next}
use Rattle.ix_graph.specs.Nodes.{wire_count, is_wire, has_wire, has_some, wire_listed, entry_wires, entries}
use Rattle.ix_graph.specs.NodeTables.{number_in, HaveNumbers}
use Rattle.ix_graph.proofs.NumberLemmas.{count_firsts, wires_count}

-- What is put where the test fails stays out.

keeps : {V : Type 0} (o : Option V) (v : V) → or_later o false v ≡ o
keeps None v = refl
keeps (Some w) v = refl

map_keeps : {V : Type 0} (o : Option (Option V)) (v : V) → option_map (λ o. or_later o false v) o ≡ o
map_keeps None v = refl
map_keeps (Some o) v = ap Some (keeps o v)

-- The wires of an entry: those of its first places.

pub record ArePut (rec : DeviceRec) (places : List ℕ) (n : ℕ) (old now : List (FirstById ℕ)) (before fs : List (ℕ × ℕ)) : Type 0 where
  pub tables : (w : ℕ × ℕ) → number_in now w ≡ option_map (λ o. or_later o (has_wire w (filter_map (wire_listed rec) places)) n) (number_in old w)
  pub firsts : fs ≡ before ++ take 1 (filter_map (wire_listed rec) places)

pub none_put : (rec : DeviceRec) (n : ℕ) (tables : List (FirstById ℕ)) (firsts : List (ℕ × ℕ)) → ArePut rec [] n tables tables firsts firsts
none_put rec n tables firsts = record { tables = λ w. sym (map_keeps (number_in tables w) n); firsts = sym (append-nil firsts) }

wires_next : (rec : DeviceRec) (places : List ℕ) (i place : ℕ) (o : Option (ℕ × ℕ)) → slice_get places i ≡ Some place → wire_listed rec place ≡ o
    → filter_map (wire_listed rec) (take (i + 1) places) ≡ filter_map (wire_listed rec) (take i places) ++ filter_map (λ x. x) (o ∷ [])
wires_next rec places i place o at e =
    ap (filter_map (wire_listed rec)) (take_next places i place at) ∙ filter_map-append (wire_listed rec) (take i places) (place ∷ [])
    ∙ ap (λ l. filter_map (wire_listed rec) (take i places) ++ l) (ap (λ p. filter_map (λ x. x) (p ∷ [])) e)

-- the tile wire of these names is the one that the place lists
pub listed : (rec : DeviceRec) (place : ℕ) (names : Wire) (o : Option (ℕ × ℕ)) → slice_get rec.wires place ≡ Some names → o ≡ tile_wire_named rec names.tile names.wire → wire_listed rec place ≡ o
listed rec place names o at h = ap (option_and_then (λ w. tile_wire_named rec w.tile w.wire)) at ∙ sym h

-- one more place, which has no tile wire
pub one_more_none : (rec : DeviceRec) (places : List ℕ) (i place n : ℕ) (old now new : List (FirstById ℕ)) (before firsts more : List (ℕ × ℕ)) → slice_get places i ≡ Some place → wire_listed rec place ≡ None
    → new ≡ now → more ≡ firsts → ArePut rec (take i places) n old now before firsts → ArePut rec (take (i + 1) places) n old new before more
one_more_none rec places i place n old now new before firsts more at e same_tables same_firsts h = record {
  tables = λ w. ap (λ ts. number_in ts w) same_tables ∙ h.tables w ∙ ap (λ ws. option_map (λ o. or_later o (has_wire w ws) n) (number_in old w)) (sym same);
  firsts = same_firsts ∙ h.firsts ∙ ap (λ ws. before ++ take 1 ws) (sym same);
}
  where
    same : filter_map (wire_listed rec) (take (i + 1) places) ≡ filter_map (wire_listed rec) (take i places)
    same = wires_next rec places i place None at e ∙ append-nil (filter_map (wire_listed rec) (take i places))

twice : {V : Type 0} (o : Option (Option V)) (a b : Bool) (v : V) → option_map (λ o. or_later o b v) (option_map (λ o. or_later o a v) o) ≡ option_map (λ o. or_later o (a || b) v) o
twice None a b v = refl
twice (Some (Some w)) a b v = refl
twice (Some None) true b v = refl
twice (Some None) false b v = refl

one_wire : (w x : ℕ × ℕ) → has_wire w (x ∷ []) ≡ is_wire w x
one_wire w x = by (is_wire w x)
  where
    by : (b : Bool) → (b || false) ≡ b
    by true = refl
    by false = refl

-- the tables with one more wire
put_more : (ws : List (ℕ × ℕ)) (x w : ℕ × ℕ) (n : ℕ) (old now new : List (FirstById ℕ)) → number_in now w ≡ option_map (λ o. or_later o (has_wire w ws) n) (number_in old w)
    → number_in new w ≡ option_map (λ o. or_later o (is_wire w x) n) (number_in now w) → number_in new w ≡ option_map (λ o. or_later o (has_wire w (ws ++ x ∷ [])) n) (number_in old w)
put_more ws x w n old now new h step =
    step ∙ ap (option_map (λ o. or_later o (is_wire w x) n)) h ∙ twice (number_in old w) (has_wire w ws) (is_wire w x) n
    ∙ ap (λ b. option_map (λ o. or_later o b n) (number_in old w)) (ap (λ b. has_wire w ws || b) (sym (one_wire w x)) ∙ sym (list_any-append (is_wire w) ws (x ∷ [])))

one_more_first : (ws before firsts : List (ℕ × ℕ)) (x : ℕ × ℕ) (n : ℕ) → n ≡ length before → firsts ≡ before ++ take 1 ws
    → firsts ++ (if nat_eq (length firsts) n then x ∷ [] else []) ≡ before ++ take 1 (ws ++ x ∷ [])
one_more_first [] before firsts x n is h = ap (λ b. firsts ++ (if b then x ∷ [] else [])) (eq-eqb (length firsts) n (ap length (h ∙ append-nil before) ∙ sym is)) ∙ ap (λ l. l ++ x ∷ []) (h ∙ append-nil before)
one_more_first (y ∷ ys) before firsts x n is h =
    ap (λ b. firsts ++ (if b then x ∷ [] else [])) (ne_eqb (length firsts) n (λ e. longer (ap length h ∙ length-append before (y ∷ [])) e)) ∙ append-nil firsts ∙ h
  where
    longer : length firsts ≡ length before + 1 → length firsts ≡ n → ⊥
    longer e f = omega arith

-- one more place, which has a tile wire
pub one_more_wire : (rec : DeviceRec) (places : List ℕ) (i place : ℕ) (x : ℕ × ℕ) (n : ℕ) (old now new : List (FirstById ℕ)) (before firsts more : List (ℕ × ℕ)) → slice_get places i ≡ Some place → wire_listed rec place ≡ Some x
    → n ≡ length before → ((w : ℕ × ℕ) → number_in new w ≡ option_map (λ o. or_later o (is_wire w x) n) (number_in now w)) → more ≡ firsts ++ (if nat_eq (length firsts) n then x ∷ [] else [])
    → ArePut rec (take i places) n old now before firsts → ArePut rec (take (i + 1) places) n old new before more
one_more_wire rec places i place x n old now new before firsts more at e is step pushed h = record {
  tables = λ w. put_more (filter_map (wire_listed rec) (take i places)) x w n old now new (h.tables w) (step w) ∙ ap (λ ws. option_map (λ o. or_later o (has_wire w ws) n) (number_in old w)) (sym next);
  firsts = pushed ∙ one_more_first (filter_map (wire_listed rec) (take i places)) before firsts x n is h.firsts ∙ ap (λ ws. before ++ take 1 ws) (sym next);
}
  where
    next : filter_map (wire_listed rec) (take (i + 1) places) ≡ filter_map (wire_listed rec) (take i places) ++ x ∷ []
    next = wires_next rec places i place (Some x) at e

-- Entry by entry.

abbrev pub entries_to : DeviceRec → ℕ → List (List (ℕ × ℕ))
entries_to rec i = filter has_some (map (entry_wires rec) (take i rec.nodes))

pub record EntriesPut (rec : DeviceRec) (i : ℕ) (all : List (FirstById ℕ)) (fs : List (ℕ × ℕ)) : Type 0 where
  pub tables : HaveNumbers rec all (entries_to rec i)
  pub firsts : fs ≡ flat_map (take 1) (entries_to rec i)

entries_next : (rec : DeviceRec) (i : ℕ) (n : Node) → slice_get rec.nodes i ≡ Some n → entries_to rec (i + 1) ≡ entries_to rec i ++ filter has_some (entry_wires rec n ∷ [])
entries_next rec i n at = ap (filter has_some) (map_take_next (entry_wires rec) rec.nodes i n at) ∙ filter-append has_some (map (entry_wires rec) (take i rec.nodes)) (entry_wires rec n ∷ [])

-- the first entry of a wire, with one entry more
first_entry : (es : List (List (ℕ × ℕ))) (ws : List (ℕ × ℕ)) (w : ℕ × ℕ) → or_later (position (has_wire w) es) (has_wire w ws) (length es) ≡ position (has_wire w) (es ++ filter has_some (ws ∷ []))
first_entry es [] w = keeps (position (has_wire w) es) (length es) ∙ ap (position (has_wire w)) (sym (append-nil es))
first_entry es (x ∷ xs) w = sym (ap (λ l. position (has_wire w) (es ++ l)) (wires_count x xs []) ∙ position-push (has_wire w) es (x ∷ xs))

first_of_entry : (ws : List (ℕ × ℕ)) → take 1 ws ≡ flat_map (take 1) (filter has_some (ws ∷ []))
first_of_entry [] = refl
first_of_entry (x ∷ xs) = sym (ap (flat_map (take 1)) (wires_count x xs []))

pub one_more_entry : (rec : DeviceRec) (i : ℕ) (n : Node) (now new : List (FirstById ℕ)) (firsts with_its : List (ℕ × ℕ)) → slice_get rec.nodes i ≡ Some n
    → ((w : ℕ × ℕ) → number_in new w ≡ option_map (λ o. or_later o (has_wire w (entry_wires rec n)) (length firsts)) (number_in now w)) → with_its ≡ firsts ++ take 1 (entry_wires rec n)
    → EntriesPut rec i now firsts → EntriesPut rec (i + 1) new with_its
one_more_entry rec i n now new firsts with_its at step more h = record {
  tables = record {
    each = λ tile t wire tile_at lt.
        step (tile, wire) ∙ ap (option_map (λ o. or_later o (has_wire (tile, wire) (entry_wires rec n)) (length firsts))) (h.tables.each tile t wire tile_at lt)
        ∙ ap (λ m. Some (or_later (position (has_wire (tile, wire)) (entries_to rec i)) (has_wire (tile, wire) (entry_wires rec n)) m)) (ap length h.firsts ∙ count_firsts (map (entry_wires rec) (take i rec.nodes)))
        ∙ ap Some (first_entry (entries_to rec i) (entry_wires rec n) (tile, wire) ∙ ap (position (has_wire (tile, wire))) (sym (entries_next rec i n at)));
  };
  firsts =
      more ∙ ap (λ l. l ++ take 1 (entry_wires rec n)) h.firsts ∙ ap (λ l. flat_map (take 1) (entries_to rec i) ++ l) (first_of_entry (entry_wires rec n))
      ∙ sym (ap (flat_map (take 1)) (entries_next rec i n at) ∙ flat_map-append (take 1) (entries_to rec i) (filter has_some (entry_wires rec n ∷ [])));
}

-- all entries were put
pub all_put : (rec : DeviceRec) (n : ℕ) (all : List (FirstById ℕ)) (fs : List (ℕ × ℕ)) → n ≡ length rec.nodes → EntriesPut rec n all fs → HaveNumbers rec all (entries rec) × (fs ≡ flat_map (take 1) (entries rec))
unfolding entries
all_put rec n all fs e h = (subst (HaveNumbers rec all) whole h.tables, h.firsts ∙ ap (flat_map (take 1)) whole)
  where
    whole : entries_to rec n ≡ filter has_some (map (entry_wires rec) rec.nodes)
    whole = ap (λ ns. filter has_some (map (entry_wires rec) ns)) (ap (λ m. take m rec.nodes) e ∙ take_all (length rec.nodes) rec.nodes (omega arith))

-- Tables without numbers, tile by tile.

pub record AreEmpty (rec : DeviceRec) (i : ℕ) (tables : List (FirstById ℕ)) : Type 0 where
  pub count : length tables ≡ i
  pub each : (tile : ℕ) (t : Tile) (wire : ℕ) → tile < i → slice_get rec.tile_list tile ≡ Some t → wire < wire_count rec t → number_in tables (tile, wire) ≡ Some None

get_before : {A : Type 0} (xs : List A) (y : A) (k : ℕ) → k < length xs → slice_get (xs ++ y ∷ []) k ≡ slice_get xs k
get_before [] y k h = absurd (below_none h)
  where
    below_none : k < 0 → ⊥
    below_none lt = omega arith
get_before (x ∷ xs) y zero h = refl
get_before (x ∷ xs) y (suc k) h = get_before xs y k (omega arith)

get_last : {A : Type 0} (xs : List A) (y : A) → slice_get (xs ++ y ∷ []) (length xs) ≡ Some y
get_last [] y = refl
get_last (x ∷ xs) y = get_last xs y

-- one more table without numbers
pub one_more_empty : (rec : DeviceRec) (i : ℕ) (t : Tile) (n : ℕ) (table : FirstById ℕ) (tables more : List (FirstById ℕ)) → slice_get rec.tile_list i ≡ Some t → n ≡ wire_count rec t
    → ((wire : ℕ) → wire < n → value_of table wire ≡ Some None) → more ≡ tables ++ table ∷ [] → AreEmpty rec i tables → AreEmpty rec (i + 1) more
one_more_empty rec i t n table tables more at is empty pushed h = record {
  count = ap length pushed ∙ length-append tables (table ∷ []) ∙ ap (λ m. m + 1) h.count;
  each = λ tile u wire lt u_at inside. ap (λ ts. number_in ts (tile, wire)) pushed ∙ by tile u wire lt u_at inside (cases_lt tile i);
}
  where
    by : (tile : ℕ) (u : Tile) (wire : ℕ) → tile < i + 1 → slice_get rec.tile_list tile ≡ Some u → wire < wire_count rec u → (tile < i) ⊎ (i ≤ tile) → number_in (tables ++ table ∷ []) (tile, wire) ≡ Some None
    by tile u wire lt u_at inside (inl before) =
        let len = h.count in ap (option_and_then (λ x. value_of x wire)) (get_before tables table tile (omega arith)) ∙ h.each tile u wire before u_at inside
    by tile u wire lt u_at inside (inr past) =
        let len = h.count in let here : tile ≡ length tables = omega arith in let place : tile ≡ i = omega arith in
        ap (option_and_then (λ x. value_of x wire)) (ap (slice_get (tables ++ table ∷ [])) here ∙ get_last tables table)
        ∙ empty wire (subst (λ m. wire < m) (ap (wire_count rec) (same_Some u t (sym u_at ∙ ap (slice_get rec.tile_list) place ∙ at)) ∙ sym is) inside)

-- no table has a number
pub all_empty : (rec : DeviceRec) (n : ℕ) (tables : List (FirstById ℕ)) → n ≡ length rec.tile_list → AreEmpty rec n tables → HaveNumbers rec tables []
all_empty rec n tables e h = record {
  each = λ tile t wire at inside. let within : tile < length rec.tile_list = slice_get_within rec.tile_list tile t at in h.each tile t wire (omega arith) at inside;
}
