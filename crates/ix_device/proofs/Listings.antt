-- The table of admissions, put by put.
use Rattle.std.proofs.Common.{◌≡◌, refl, ap, sym, ◌∙◌, ℕ, ◌+◌, Bool, true, false, true≢false, not, ◌&&◌, ◌||◌, nat_eq, List, [], ◌∷◌, ◌++◌, map, take, length, if◌then◌else◌, arith, slice_get, Option, Some, None}
use Rattle.std.specs.List.{list_any, list_all}
use Rattle.std.specs.List.{position}
use Rattle.std.proofs.lemmas.Bool.{eqb-true, eqb-false, eq-eqb, ne_eqb}
use Rattle.std.proofs.lemmas.Option.{same_Some, get_or_from_slice_get}
use Rattle.std.proofs.lemmas.List.Quantifiers.{position-Some}
use Rattle.std.proofs.lemmas.Map.Keys.{any_passes_from_place}
use Rattle.ix_rec.specs.declared.device.SiteType.{SiteType}
use Rattle.ix_rec.specs.declared.device.SiteTypeBelEntry.{SiteTypeBelEntry}
use Rattle.ix_rec.specs.declared.device.CellBelPinEntry.{CellBelPinEntry}
use Rattle.ix_first.specs.declared.by_key.FirstByKey.{FirstByKey}
use Rattle.ix_rec.specs.declared.device.CellBelMapping.{CellBelMapping}
use Rattle.ix_rec.specs.declared.device.CommonCellBelPinMaps.{CommonCellBelPinMaps}
use Rattle.ix_device_rules.specs.Rules.{has_pin, is_new}
use Rattle.ix_device.specs.Admission.{lists_bel, fits_bel, pins_differ}
use Rattle.ix_device.specs.declared.admissions.CellPinMap.{CellPinMap}
use Rattle.ix_device.specs.Premises.{TypesDiffer}
use Rattle.ix_device.proofs.FirstPlaces.{none-place}
use Rattle.ix_keys.specs.declared.key.Key.{Key}
use Rattle.ix_keys.specs.Keys.{key, key_eq}
use Rattle.ix_first.specs.First.{value_at, or_later, or_found}
use Rattle.ix_device.specs.declared.admissions.Listing.{Listing}
use Rattle.ix_device.specs.Listed.{listing, names_one, entry_lists, PutsMap, PutsMapping, AreListings, listed_in, listed_from}
use Rattle.ix_device.proofs.Walks.{any_next, take_next, length_take}
use Rattle.ix_device.proofs.Differing.{nat_eq_sym}

-- two values of one key, put one after the other
or_step : {V : Type 0} (o : Option V) (s t : Bool) (v w : V) → (t ≡ true → v ≡ w) → or_later (or_later o s w) t v ≡ or_later o (s || t) w
or_step (Some x) s t v w h = refl
or_step None true t v w h = refl
or_step None false true v w h = ap Some (h refl)
or_step None false false v w h = refl

-- one more BEL of the same site type and cell type
spread : (a l c x : Bool) → ((a && (l && c)) || (a && (x && c))) ≡ (a && ((l || x) && c))
spread true true true x = refl
spread true true false true = refl
spread true true false false = refl
spread true false c x = refl
spread false l c x = refl

one_more_bel : (owner cell : ℕ) (bels : List ℕ) (i bel : ℕ) (q : Key) → slice_get bels i ≡ Some bel
    → (names_one owner cell (take i bels) q || key_eq (key owner bel cell) q) ≡ names_one owner cell (take (i + 1) bels) q
one_more_bel owner cell bels i bel q at =
    spread (nat_eq owner q.owner) (list_any (nat_eq q.part) (take i bels)) (nat_eq cell q.name) (nat_eq bel q.part)
    ∙ ap (λ b. nat_eq owner q.owner && ((list_any (nat_eq q.part) (take i bels) || b) && nat_eq cell q.name)) (nat_eq_sym bel q.part)
    ∙ ap (λ b. nat_eq owner q.owner && (b && nat_eq cell q.name)) (sym (any_next (nat_eq q.part) bels i bel at))

part_is : (owner bel cell : ℕ) (q : Key) → key_eq (key owner bel cell) q ≡ true → bel ≡ q.part
part_is owner bel cell q h = by (nat_eq owner q.owner) (nat_eq bel q.part) refl h
  where
    by : (a b : Bool) → nat_eq bel q.part ≡ b → (a && (b && nat_eq cell q.name)) ≡ true → bel ≡ q.part
    by true true e h = eqb-true bel q.part e
    by true false e h = absurd (true≢false (sym h))
    by false b e h = absurd (true≢false (sym h))

-- one more BEL of a list was put
pub one_more_put : (owner cell : ℕ) (bels : List ℕ) (i bel : ℕ) (f : ℕ → Listing) (old now new : Key → Option Listing) → slice_get bels i ≡ Some bel
    → ((q : Key) → now q ≡ or_later (old q) (names_one owner cell (take i bels) q) (f q.part))
    → ((q : Key) → new q ≡ or_later (now q) (key_eq (key owner bel cell) q) (f bel))
    → (q : Key) → new q ≡ or_later (old q) (names_one owner cell (take (i + 1) bels) q) (f q.part)
one_more_put owner cell bels i bel f old now new at before step q =
    step q ∙ ap (λ o. or_later o (key_eq (key owner bel cell) q) (f bel)) (before q)
    ∙ or_step (old q) (names_one owner cell (take i bels) q) (key_eq (key owner bel cell) q) (f bel) (f q.part) (λ h. ap f (part_is owner bel cell q h))
    ∙ ap (λ t. or_later (old q) t (f q.part)) (one_more_bel owner cell bels i bel q at)

pub same_key : (a b c x y z : ℕ) (k : Key) → k ≡ key a b c → a ≡ x → b ≡ y → c ≡ z → k ≡ key x y z
same_key a b c x y z k h ha hb hc = h ∙ ap (λ n. key n b c) ha ∙ ap (λ n. key x n c) hb ∙ ap (λ n. key x y n) hc

-- A name's first site type owns just the entries that name it.
pub owner_named : (types : List SiteType) (name owner k : ℕ) (t : SiteType) → TypesDiffer types → position (λ u. nat_eq u.name name) types ≡ Some owner → slice_get types k ≡ Some t → nat_eq owner k ≡ nat_eq name t.name
owner_named types name owner k t differ found at = by (nat_eq name t.name) refl
  where
    by : (b : Bool) → nat_eq name t.name ≡ b → nat_eq owner k ≡ b
    by true h = eq-eqb owner k (same_Some owner k (sym found ∙ ap (λ n. position (λ u. nat_eq u.name n) types) (eqb-true name t.name h) ∙ differ k t at))
    by false h = ne_eqb owner k (λ e. eqb-false name t.name h (sym (eqb-true t.name name (ap (λ u. nat_eq u.name name) (sym (get_or_from_slice_get types owner t t (ap (slice_get types) e ∙ at))) ∙ (position-Some (λ u. nat_eq u.name name) types owner t found).1))))

-- An entry of a site type that isn't there names none.
pub unowned : (types : List SiteType) (name k : ℕ) (t : SiteType) → position (λ u. nat_eq u.name name) types ≡ None → slice_get types k ≡ Some t → nat_eq name t.name ≡ false
unowned types name k t none at = by (nat_eq name t.name) refl
  where
    by : (b : Bool) → nat_eq name t.name ≡ b → b ≡ false
    by false h = refl
    by true h = sym (any_passes_from_place (λ u. nat_eq u.name name) types k t at (eq-eqb t.name name (sym (eqb-true name t.name h)))) ∙ none-place (λ u. nat_eq u.name name) types none

later_or : {V : Type 0} (o : Option V) (s t : Bool) (v : V) → or_later (or_later o s v) t v ≡ or_later o (s || t) v
later_or o s t v = or_step o s t v v (λ h. refl)

spread_cells : (a b c : Bool) → ((a && c) || ((b || false) && c)) ≡ ((a || b) && c)
spread_cells true b true = refl
spread_cells true true false = refl
spread_cells true false false = refl
spread_cells false true c = refl
spread_cells false false c = refl

-- one more entry was put
pub one_more_entry : (types : List SiteType) (old now new : FirstByKey Listing) (map : CellPinMap) (entries : List SiteTypeBelEntry) (pins : List CellBelPinEntry) (i : ℕ) (e : SiteTypeBelEntry)
    → slice_get entries i ≡ Some e → PutsMap types old now map (take i entries) pins → PutsMap types now new map (e ∷ []) pins → PutsMap types old new map (take (i + 1) entries) pins
one_more_entry types old now new map entries pins i e at before step k t at_k bel cell =
    step k t at_k bel cell ∙ ap (λ o. or_later o ((entry_lists t bel e || false) && nat_eq map.cell cell) v) (before k t at_k bel cell)
    ∙ later_or (value_at old (key k bel cell)) (list_any (entry_lists t bel) (take i entries) && nat_eq map.cell cell) ((entry_lists t bel e || false) && nat_eq map.cell cell) v
    ∙ ap (λ b. or_later (value_at old (key k bel cell)) b v) (spread_cells (list_any (entry_lists t bel) (take i entries)) (entry_lists t bel e) (nat_eq map.cell cell) ∙ ap (λ b. b && nat_eq map.cell cell) (sym (any_next (entry_lists t bel) entries i e at)))
  where
    v : Listing
    v = listing map.mapping map.pin_map (map.differ && list_all (λ p. has_pin t bel p.bel_pin) pins)

later_false : {V : Type 0} (o : Option V) (v : V) → or_later o false v ≡ o
later_false (Some w) v = refl
later_false None v = refl

-- an entry of a site type that isn't there was passed over
pub passed_entry : (types : List SiteType) (table : FirstByKey Listing) (map : CellPinMap) (e : SiteTypeBelEntry) (pins : List CellBelPinEntry) → position (λ u. nat_eq u.name e.site_type) types ≡ None → PutsMap types table table map (e ∷ []) pins
passed_entry types table map e pins none k t at bel cell =
    sym (ap (λ b. or_later (value_at table (key k bel cell)) (((b && list_any (nat_eq bel) e.bels) || false) && nat_eq map.cell cell) v) (unowned types e.site_type k t none at) ∙ later_false (value_at table (key k bel cell)) v)
  where
    v : Listing
    v = listing map.mapping map.pin_map (map.differ && list_all (λ p. has_pin t bel p.bel_pin) pins)

-- the BELs of an entry were put
pub put_of_entry : (types : List SiteType) (old new : FirstByKey Listing) (map : CellPinMap) (e : SiteTypeBelEntry) (pins : List CellBelPinEntry) (owner : ℕ) (u : SiteType)
    → TypesDiffer types → position (λ v. nat_eq v.name e.site_type) types ≡ Some owner → slice_get types owner ≡ Some u
    → ((q : Key) → value_at new q ≡ or_later (value_at old q) (names_one owner map.cell e.bels q) (listing map.mapping map.pin_map (map.differ && list_all (λ p. has_pin u q.part p.bel_pin) pins)))
    → PutsMap types old new map (e ∷ []) pins
put_of_entry types old new map e pins owner u differ found at_owner step k t at bel cell = step (key k bel cell) ∙ by (nat_eq owner k) refl
  where
    value : SiteType → Listing
    value s = listing map.mapping map.pin_map (map.differ && list_all (λ p. has_pin s bel p.bel_pin) pins)

    tests : (l c : Bool) → (l && c) ≡ ((l || false) && c)
    tests true c = refl
    tests false c = refl

    by : (b : Bool) → nat_eq owner k ≡ b → or_later (value_at old (key k bel cell)) (nat_eq owner k && (list_any (nat_eq bel) e.bels && nat_eq map.cell cell)) (value u) ≡ or_later (value_at old (key k bel cell)) ((entry_lists t bel e || false) && nat_eq map.cell cell) (value t)
    by true h =
        ap (λ b. or_later (value_at old (key k bel cell)) (b && (list_any (nat_eq bel) e.bels && nat_eq map.cell cell)) (value u)) h
        ∙ ap (λ s. or_later (value_at old (key k bel cell)) (list_any (nat_eq bel) e.bels && nat_eq map.cell cell) (value s)) (same_Some u t (sym at_owner ∙ ap (slice_get types) (eqb-true owner k h) ∙ at))
        ∙ ap (λ b. or_later (value_at old (key k bel cell)) b (value t)) (tests (list_any (nat_eq bel) e.bels) (nat_eq map.cell cell))
        ∙ ap (λ b. or_later (value_at old (key k bel cell)) (((b && list_any (nat_eq bel) e.bels) || false) && nat_eq map.cell cell) (value t)) (sym h ∙ owner_named types e.site_type owner k t differ found at)
    by false h =
        ap (λ b. or_later (value_at old (key k bel cell)) (b && (list_any (nat_eq bel) e.bels && nat_eq map.cell cell)) (value u)) h
        ∙ later_false (value_at old (key k bel cell)) (value u) ∙ sym (later_false (value_at old (key k bel cell)) (value t))
        ∙ ap (λ b. or_later (value_at old (key k bel cell)) (((b && list_any (nat_eq bel) e.bels) || false) && nat_eq map.cell cell) (value t)) (sym h ∙ owner_named types e.site_type owner k t differ found at)

-- one map more among a cell type's
listed_push : (t : SiteType) (bel mapping place : ℕ) (ms : List CommonCellBelPinMaps) (m : CommonCellBelPinMaps)
    → listed_in t bel mapping place (ms ++ m ∷ []) ≡ or_later (listed_in t bel mapping place ms) (lists_bel t bel m) (listing mapping (place + length ms) (fits_bel t bel m.pins))
listed_push t bel mapping place [] m = ap (λ n. if lists_bel t bel m then Some (listing mapping n (fits_bel t bel m.pins)) else None) (omega arith)
listed_push t bel mapping place (x ∷ xs) m =
    by (lists_bel t bel x) (listed_push t bel mapping (place + 1) xs m ∙ ap (λ n. or_later (listed_in t bel mapping (place + 1) xs) (lists_bel t bel m) (listing mapping n (fits_bel t bel m.pins))) (omega arith))
  where
    by : (b : Bool) → listed_in t bel mapping (place + 1) (xs ++ m ∷ []) ≡ or_later (listed_in t bel mapping (place + 1) xs) (lists_bel t bel m) (listing mapping (place + length (x ∷ xs)) (fits_bel t bel m.pins))
        → (if b then Some (listing mapping place (fits_bel t bel x.pins)) else listed_in t bel mapping (place + 1) (xs ++ m ∷ []))
        ≡ or_later (if b then Some (listing mapping place (fits_bel t bel x.pins)) else listed_in t bel mapping (place + 1) xs) (lists_bel t bel m) (listing mapping (place + length (x ∷ xs)) (fits_bel t bel m.pins))
    by true h = refl
    by false h = h

found_or : (o f : Option Listing) (b l : Bool) (v : Listing) → or_later (or_found o b f) (l && b) v ≡ or_found o b (or_later f l v)
found_or (Some w) f b l v = refl
found_or None (Some g) true l v = refl
found_or None None true true v = refl
found_or None None true false v = refl
found_or None f false true v = refl
found_or None f false false v = refl

-- one more map of a cell type was put
pub one_more_map : (types : List SiteType) (old now new : FirstByKey Listing) (map : CellPinMap) (place : ℕ) (maps : List CommonCellBelPinMaps) (i : ℕ) (m : CommonCellBelPinMaps)
    → slice_get maps i ≡ Some m → map.mapping ≡ place → map.pin_map ≡ i → map.differ ≡ pins_differ m.pins
    → PutsMapping types old now place map.cell (take i maps) → PutsMap types now new map m.site_types m.pins → PutsMapping types old new place map.cell (take (i + 1) maps)
one_more_map types old now new map place maps i m at is_place is_map differ before step k t at_k bel q =
    step k t at_k bel q
    ∙ ap (λ o. or_later o (lists_bel t bel m && nat_eq map.cell q) (listing map.mapping map.pin_map (map.differ && list_all (λ p. has_pin t bel p.bel_pin) m.pins))) (before k t at_k bel q)
    ∙ ap (or_later (or_found (value_at old (key k bel q)) (nat_eq map.cell q) (listed_in t bel place 0 (take i maps))) (lists_bel t bel m && nat_eq map.cell q)) (same_listing map.mapping place map.pin_map i map.differ (pins_differ m.pins) is_place is_map differ)
    ∙ found_or (value_at old (key k bel q)) (listed_in t bel place 0 (take i maps)) (nat_eq map.cell q) (lists_bel t bel m) (listing place i (fits_bel t bel m.pins))
    ∙ ap (or_found (value_at old (key k bel q)) (nat_eq map.cell q)) (sym (ap (listed_in t bel place 0) (take_next maps i m at) ∙ listed_push t bel place 0 (take i maps) m ∙ ap (λ n. or_later (listed_in t bel place 0 (take i maps)) (lists_bel t bel m) (listing place n (fits_bel t bel m.pins))) (let len = length_take maps i m at in omega arith)))
  where
    same_listing : (a b c d : ℕ) (x y : Bool) → a ≡ b → c ≡ d → x ≡ y → listing a c (x && list_all (λ p. has_pin t bel p.bel_pin) m.pins) ≡ listing b d (y && list_all (λ p. has_pin t bel p.bel_pin) m.pins)
    same_listing a b c d x y ab cd xy = ap (λ n. listing n c (x && list_all (λ p. has_pin t bel p.bel_pin) m.pins)) ab ∙ ap (λ n. listing b n (x && list_all (λ p. has_pin t bel p.bel_pin) m.pins)) cd ∙ ap (λ z. listing b d (z && list_all (λ p. has_pin t bel p.bel_pin) m.pins)) xy

-- one mapping more
from_push : (t : SiteType) (bel cell place : ℕ) (ms : List CellBelMapping) (m : CellBelMapping)
    → listed_from t bel cell place (ms ++ m ∷ []) ≡ (if is_new (map (λ x. x.cell) ms) cell then (if nat_eq m.cell cell then listed_in t bel (place + length ms) 0 m.common_pins else None) else listed_from t bel cell place ms)
from_push t bel cell place [] m = ap (λ n. if nat_eq m.cell cell then listed_in t bel n 0 m.common_pins else None) (omega arith)
from_push t bel cell place (x ∷ xs) m =
    by (nat_eq x.cell cell) (from_push t bel cell (place + 1) xs m ∙ ap (λ n. if is_new (map (λ y. y.cell) xs) cell then (if nat_eq m.cell cell then listed_in t bel n 0 m.common_pins else None) else listed_from t bel cell (place + 1) xs) (omega arith))
    ∙ ap (λ b. if not (b || list_any (nat_eq cell) (map (λ y. y.cell) xs)) then (if nat_eq m.cell cell then listed_in t bel (place + length (x ∷ xs)) 0 m.common_pins else None) else listed_from t bel cell place (x ∷ xs)) (nat_eq_sym x.cell cell)
  where
    by : (b : Bool) → listed_from t bel cell (place + 1) (xs ++ m ∷ []) ≡ (if is_new (map (λ y. y.cell) xs) cell then (if nat_eq m.cell cell then listed_in t bel (place + length (x ∷ xs)) 0 m.common_pins else None) else listed_from t bel cell (place + 1) xs)
        → (if b then listed_in t bel place 0 x.common_pins else listed_from t bel cell (place + 1) (xs ++ m ∷ []))
        ≡ (if not (b || list_any (nat_eq cell) (map (λ y. y.cell) xs)) then (if nat_eq m.cell cell then listed_in t bel (place + length (x ∷ xs)) 0 m.common_pins else None) else (if b then listed_in t bel place 0 x.common_pins else listed_from t bel cell (place + 1) xs))
    by true h = refl
    by false h = h

-- where no mapping is of the cell type, nothing is listed
pub none_listed : (t : SiteType) (bel cell place : ℕ) (ms : List CellBelMapping) → is_new (map (λ x. x.cell) ms) cell ≡ true → listed_from t bel cell place ms ≡ None
none_listed t bel cell place [] h = refl
none_listed t bel cell place (x ∷ xs) h = by (nat_eq x.cell cell) (none_listed t bel cell (place + 1) xs) (ap (λ b. not (b || list_any (nat_eq cell) (map (λ y. y.cell) xs))) (nat_eq_sym x.cell cell) ∙ h)
  where
    by : (b : Bool) → (is_new (map (λ y. y.cell) xs) cell ≡ true → listed_from t bel cell (place + 1) xs ≡ None) → not (b || list_any (nat_eq cell) (map (λ y. y.cell) xs)) ≡ true
        → (if b then listed_in t bel place 0 x.common_pins else listed_from t bel cell (place + 1) xs) ≡ None
    by true rest h = absurd (true≢false (sym h))
    by false rest h = rest h

-- the first mapping of a cell type was put
pub new_mapping : (types : List SiteType) (now new : FirstByKey Listing) (ms : List CellBelMapping) (i : ℕ) (m : CellBelMapping) → slice_get ms i ≡ Some m → is_new (map (λ x. x.cell) (take i ms)) m.cell ≡ true
    → AreListings types now (take i ms) → PutsMapping types now new i m.cell m.common_pins → AreListings types new (take (i + 1) ms)
new_mapping types now new ms i m at fresh before step k t at_k bel cell =
    step k t at_k bel cell ∙ ap (λ o. or_found o (nat_eq m.cell cell) (listed_in t bel i 0 m.common_pins)) (before k t at_k bel cell)
    ∙ by (nat_eq m.cell cell) (is_new (map (λ x. x.cell) (take i ms)) cell) refl refl
    ∙ sym (ap (listed_from t bel cell 0) (take_next ms i m at) ∙ from_push t bel cell 0 (take i ms) m ∙ ap (λ n. if is_new (map (λ x. x.cell) (take i ms)) cell then (if nat_eq m.cell cell then listed_in t bel n 0 m.common_pins else None) else listed_from t bel cell 0 (take i ms)) (let len = length_take ms i m at in omega arith))
  where
    kept : (o f : Option Listing) → or_found o false f ≡ o
    kept None f = refl
    kept (Some v) f = refl

    by : (b c : Bool) → nat_eq m.cell cell ≡ b → is_new (map (λ x. x.cell) (take i ms)) cell ≡ c
        → or_found (listed_from t bel cell 0 (take i ms)) b (listed_in t bel i 0 m.common_pins) ≡ (if c then (if b then listed_in t bel i 0 m.common_pins else None) else listed_from t bel cell 0 (take i ms))
    by true true e n = ap (λ o. or_found o true (listed_in t bel i 0 m.common_pins)) (none_listed t bel cell 0 (take i ms) n)
    by true false e n = absurd (true≢false (sym fresh ∙ ap (is_new (map (λ x. x.cell) (take i ms))) (eqb-true m.cell cell e) ∙ n))
    by false true e n = kept (listed_from t bel cell 0 (take i ms)) (listed_in t bel i 0 m.common_pins) ∙ none_listed t bel cell 0 (take i ms) n
    by false false e n = kept (listed_from t bel cell 0 (take i ms)) (listed_in t bel i 0 m.common_pins)

-- another mapping of a cell type that has one is passed over
pub old_mapping : (types : List SiteType) (now : FirstByKey Listing) (ms : List CellBelMapping) (i : ℕ) (m : CellBelMapping) → slice_get ms i ≡ Some m → is_new (map (λ x. x.cell) (take i ms)) m.cell ≡ false
    → AreListings types now (take i ms) → AreListings types now (take (i + 1) ms)
old_mapping types now ms i m at known before k t at_k bel cell =
    before k t at_k bel cell
    ∙ by (nat_eq m.cell cell) (is_new (map (λ x. x.cell) (take i ms)) cell) refl refl
    ∙ sym (ap (listed_from t bel cell 0) (take_next ms i m at) ∙ from_push t bel cell 0 (take i ms) m)
  where
    by : (b c : Bool) → nat_eq m.cell cell ≡ b → is_new (map (λ x. x.cell) (take i ms)) cell ≡ c
        → listed_from t bel cell 0 (take i ms) ≡ (if c then (if b then listed_in t bel (0 + length (take i ms)) 0 m.common_pins else None) else listed_from t bel cell 0 (take i ms))
    by true true e n = absurd (true≢false (sym n ∙ sym (ap (is_new (map (λ x. x.cell) (take i ms))) (eqb-true m.cell cell e)) ∙ known))
    by b false e n = refl
    by false true e n = none_listed t bel cell 0 (take i ms) n
