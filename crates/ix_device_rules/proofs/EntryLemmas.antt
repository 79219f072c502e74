-- Entries of LUT elements, and the elements of their site types that came before.
use Rattle.std.proofs.Common.{◌≡◌, ◌∙◌, ◌++◌, ◌∷◌, ◌<◌, ◌&&◌, ◌||◌, inl, inr, [], ℕ, zero, suc, Bool, true, false, true≢false, cond, not, nat_eq, nat_lt, nat_le, List, map, length, get_or, slice_get, Option, Some, None, position, is_some, option_map, ap, refl, sym, arith, if◌then◌else◌}
use Rattle.std.specs.List.{list_any, flat_map, find}
use Rattle.std.proofs.lemmas.Bool.Decides.{nat_tests}
use Rattle.std.proofs.lemmas.Grind.{flat_map-append}
use Rattle.std.proofs.lemmas.List.{append-nil}
use Rattle.std.proofs.lemmas.List.Concat.{flat_map_single}
use Rattle.std.proofs.lemmas.List.Folds.{list_any-append}
use Rattle.std.proofs.lemmas.List.Quantifiers.{position-Some}
use Rattle.std.proofs.lemmas.Option.{slice_get-map, slice_get-get_or, get_or_from_slice_get, same_Some, none-some}
use Rattle.ix_message.specs.Indexes.{Step, begun, asked}
use Rattle.ix_rec.specs.declared.device.DeviceRec.{DeviceRec}
use Rattle.ix_rec.specs.declared.device.SiteType.{SiteType}
use Rattle.ix_rec.specs.declared.device.LutBel.{LutBel}
use Rattle.ix_rec.specs.declared.device.LutElement.{LutElement}
use Rattle.ix_rec.specs.declared.device.SiteTypeLutElements.{SiteTypeLutElements}
use Rattle.ix_keys.specs.declared.key.Key.{Key}
use Rattle.ix_keys.specs.Keys.{key, name_key, key_eq, has_key}
use Rattle.ix_device_rules.specs.Named.{site_type_key}
use Rattle.ix_device_rules.specs.Tables.{SameKeys, EachKnown, KnowsBels, KnowsPins}
use Rattle.ix_device_rules.specs.Luts.{Parts, has_bel_by, has_pin_by, input_by, lut_bel_by, element_by, element_keys, element_after, entry_by, seen_by}
use Rattle.ix_device_rules.specs.Rules.{has_bel, has_pin, bits_fit, element_has, lut_bel_stands, element_stands, elements_for, elements_of_type, elements_stand, site_type_named}
use Rattle.ix_device_rules.proofs.Steps.{by_earlier-same}
use Rattle.ix_device_rules.proofs.TableLemmas.{either, list_any-map, list_any-same, nat_eq-sym}
use Rattle.ix_device_rules.proofs.WireLemmas.{map-same}
use Rattle.ix_device_rules.proofs.LutLemmas.{flat_map-same}
use Rattle.ix_device_rules.proofs.TileWireLemmas.{has_key-flat, some_place}

-- The site type of a name.

find_none : {A : Type 0} (test : A → Bool) (xs : List A) → list_any test xs ≡ false → find test xs ≡ None
find_none test [] h = refl
find_none test (x ∷ xs) h = by (test x) (list_any test xs) h (find_none test xs)
  where
    by : (b r : Bool) → (b || r) ≡ false → (r ≡ false → find test xs ≡ None) → cond b (Some x) (find test xs) ≡ None
    by true r h rest = absurd (true≢false h)
    by false r h rest = rest h

find_at : {A : Type 0} (test : A → Bool) (xs : List A) (i : ℕ) (x : A) → slice_get xs i ≡ Some x → test x ≡ true → ((k : ℕ) (y : A) → k < i → slice_get xs k ≡ Some y → test y ≡ false) → find test xs ≡ Some x
find_at test [] i x at passes before = absurd (none-some x at)
find_at test (y ∷ ys) zero x at passes before =
    let is = same_Some y x at in
    ap (λ b. cond b (Some y) (find test ys)) (ap test is ∙ passes) ∙ ap (λ z. Some z) is
find_at test (y ∷ ys) (suc i) x at passes before =
    let first : test y ≡ false = before 0 y (omega arith) refl in
    ap (λ b. cond b (Some y) (find test ys)) first ∙ find_at test ys i x at passes (λ k z lt there. before (suc k) z (omega arith) there)

named_none : (types : List SiteType) (n : ℕ) → None ≡ position (key_eq (name_key n)) (map site_type_key types) → find (λ t. nat_eq t.name n) types ≡ None
named_none types n is =
    let none : list_any (key_eq (name_key n)) (map site_type_key types) ≡ false = sym (some_place (key_eq (name_key n)) (map site_type_key types)) ∙ ap is_some (sym is) in
    find_none (λ t. nat_eq t.name n) types (sym (list_any-map (key_eq (name_key n)) site_type_key types ∙ list_any-same (λ t. nat_eq n t.name) (λ t. nat_eq t.name n) (λ t. nat_eq-sym n t.name) types) ∙ none)

named_some : (types : List SiteType) (n p : ℕ) (t : SiteType) → Some p ≡ position (key_eq (name_key n)) (map site_type_key types) → slice_get types p ≡ Some t → find (λ t. nat_eq t.name n) types ≡ Some t
named_some types n p t is at =
    find_at (λ t. nat_eq t.name n) types p t at (nat_eq-sym t.name n ∙ ap (key_eq (name_key n)) (sym (key_at p t at)) ∙ found.1)
    (λ k y lt there. nat_eq-sym y.name n ∙ ap (key_eq (name_key n)) (sym (key_at k y there)) ∙ found.2 k lt)
  where
    found : (p < length (map site_type_key types)) × (key_eq (name_key n) (get_or (map site_type_key types) p (name_key n)) ≡ true) × ((k : ℕ) → k < p → key_eq (name_key n) (get_or (map site_type_key types) k (name_key n)) ≡ false)
    found = position-Some (key_eq (name_key n)) (map site_type_key types) p (name_key n) (sym is)

    key_at : (k : ℕ) (y : SiteType) → slice_get types k ≡ Some y → get_or (map site_type_key types) k (name_key n) ≡ site_type_key y
    key_at k y there = get_or_from_slice_get (map site_type_key types) k (site_type_key y) (name_key n) (slice_get-map site_type_key types k ∙ ap (option_map site_type_key) there)

-- a place of a name is that of a site type
named_at : (types : List SiteType) (n p : ℕ) → Some p ≡ position (key_eq (name_key n)) (map site_type_key types) → (t : SiteType) × (slice_get types p ≡ Some t)
named_at types n p is = by (slice_get types p) refl
  where
    there : slice_get (map site_type_key types) p ≡ Some (get_or (map site_type_key types) p (name_key n))
    there = slice_get-get_or (map site_type_key types) p (name_key n) (position-Some (key_eq (name_key n)) (map site_type_key types) p (name_key n) (sym is)).0

    by : (o : Option SiteType) → slice_get types p ≡ o → (t : SiteType) × (slice_get types p ≡ Some t)
    by None e = absurd (none-some (get_or (map site_type_key types) p (name_key n)) (sym (slice_get-map site_type_key types p ∙ ap (option_map site_type_key) e) ∙ there))
    by (Some t) e = (t, e)

-- Elements by tables are elements by lists.

module _ (k : Parts) (t : SiteType) (bels : (bel : ℕ) → has_bel_by k bel ≡ has_bel t bel) (pins : (bel pin : ℕ) → has_pin_by k bel pin ≡ has_pin t bel pin) where
  module _ (seen : List Key) (before : List LutElement) (known : (bel : ℕ) → has_key seen (key k.site 0 bel) ≡ list_any (element_has bel) before) where
    bel_same : (width : ℕ) (b : LutBel) → lut_bel_by k seen width b ≡ lut_bel_stands t before width b
    bel_same width b = (λ i.
        (begun "LutBel" ∷ asked "LutBel" "highBit" (bits_fit width b) ∷ asked "LutBel" "name" (bels b.name i && not (known b.name i)) ∷ [])
        ++ inputs i ++ asked "LutBel" "outputPin" (pins b.name b.output_pin i) ∷ [])
      where
        inputs : flat_map (input_by k b.name) b.input_pins ≡ map (λ pin. asked "LutBel" "inputPins" (has_pin t b.name pin)) b.input_pins
        inputs = flat_map_single (λ pin. asked "LutBel" "inputPins" (has_pin_by k b.name pin)) b.input_pins ∙ map-same (λ pin. asked "LutBel" "inputPins" (has_pin_by k b.name pin)) (λ pin. asked "LutBel" "inputPins" (has_pin t b.name pin)) (λ pin. ap (λ f. asked "LutBel" "inputPins" f) (pins b.name pin)) b.input_pins

    element_is : (e : LutElement) → element_by k seen e ≡ element_stands t before e
    element_is e = ap (λ (l : List Step). begun "LutElement" ∷ asked "LutElement" "width" (nat_lt 0 e.width && nat_le e.width 64) ∷ l) (flat_map-same (lut_bel_by k seen e.width) (lut_bel_stands t before e.width) (bel_same e.width) e.bels)

no_keys : (s n : ℕ) → nat_eq s n ≡ false → (bel : ℕ) (bs : List LutBel) → has_key (map (λ b. key s 0 b.name) bs) (key n 0 bel) ≡ false
no_keys s n apart bel [] = refl
no_keys s n apart bel (b ∷ bs) =
    let differs : nat_eq n s ≡ false = nat_eq-sym n s ∙ apart in
    (λ i. (differs i && nat_eq bel b.name) || no_keys s n apart bel bs i)

its_keys : (s n : ℕ) → nat_eq s n ≡ true → (bel : ℕ) (bs : List LutBel) → has_key (map (λ b. key s 0 b.name) bs) (key n 0 bel) ≡ list_any (λ b. nat_eq b.name bel) bs
its_keys s n same bel [] = refl
its_keys s n same bel (b ∷ bs) =
    let like : nat_eq n s ≡ true = nat_eq-sym n s ∙ same in
    (λ i. (like i && nat_eq-sym bel b.name i) || its_keys s n same bel bs i)

-- the keys of elements of a site type of one name, asked for a BEL of one of another
elements_keys : (s n bel : ℕ) (es : List LutElement) → has_key (flat_map (element_keys s) es) (key n 0 bel) ≡ list_any (element_has bel) (if nat_eq s n then es else [])
elements_keys s n bel es = elim (either (nat_eq s n)) [
  | inl same ↦ has_key-flat (element_keys s) es (key n 0 bel) ∙ list_any-same (λ e. has_key (element_keys s e) (key n 0 bel)) (element_has bel) (λ e. its_keys s n same bel e.bels) es ∙ ap (λ b. list_any (element_has bel) (if b then es else [])) (sym same)
  | inr apart ↦ has_key-flat (element_keys s) es (key n 0 bel) ∙ list_any-same (λ e. has_key (element_keys s e) (key n 0 bel)) (λ e. false) (λ e. no_keys s n apart bel e.bels) es ∙ nothing es ∙ ap (λ b. list_any (element_has bel) (if b then es else [])) (sym apart)
]
  where
    nothing : (es : List LutElement) → list_any (λ e. false) es ≡ false
    nothing [] = refl
    nothing (e ∷ es) = nothing es

-- the table has the BELs of the elements of these entries, for each site type that is there
pub record Seen (rec : DeviceRec) (table : List Key) (entries : List SiteTypeLutElements) : Type 0 where
  pub seen : (n : ℕ) (t : SiteType) → site_type_named rec n ≡ Some t → (bel : ℕ) → has_key table (key n 0 bel) ≡ list_any (element_has bel) (elements_for n entries)

pub seen_none : (rec : DeviceRec) (table : List Key) → table ≡ [] → Seen rec table []
seen_none rec table is = record { seen = λ n t there bel. ap (λ ks. has_key ks (key n 0 bel)) is }

module _ (rec : DeviceRec) (names bels pins : List Key) (named : names ≡ map site_type_key rec.site_type_list) where
  at_place : (n : ℕ) (place : Option ℕ) → place ≡ position (key_eq (name_key n)) names → place ≡ position (key_eq (name_key n)) (map site_type_key rec.site_type_list)
  at_place n place is = is ∙ ap (λ ks. position (key_eq (name_key n)) ks) named

  keys_seen : (e : SiteTypeLutElements) (place : Option ℕ) → place ≡ position (key_eq (name_key e.site)) names → (n : ℕ) (t : SiteType) → site_type_named rec n ≡ Some t → (bel : ℕ)
      → has_key (seen_by place e) (key n 0 bel) ≡ list_any (element_has bel) (if nat_eq e.site n then e.luts else [])
  keys_seen e (Some p) is n t there bel = elements_keys e.site n bel e.luts
  keys_seen e None is n t there bel = elim (either (nat_eq e.site n)) [
    | inl same ↦ absurd (apart same)
    | inr differs ↦ ap (λ b. list_any (element_has bel) (if b then e.luts else [])) (sym differs)
  ]
    where
      apart : nat_eq e.site n ≡ true → ⊥
      apart same =
          let is_n : e.site ≡ n = grind (arith, nat_tests) in
          let missing = named_none rec.site_type_list e.site (at_place e.site None is) in
          none-some t (sym missing ∙ ap (site_type_named rec) is_n ∙ there)

  pub seen_more : (before : List SiteTypeLutElements) (e : SiteTypeLutElements) (old new : List Key) → Seen rec old before → SameKeys new (old ++ seen_by (position (key_eq (name_key e.site)) names) e) → Seen rec new (before ++ e ∷ [])
  seen_more before e old new h more = record {
    seen = λ n t there bel.
        more.same (key n 0 bel)
        ∙ list_any-append (key_eq (key n 0 bel)) old (seen_by (position (key_eq (name_key e.site)) names) e)
        ∙ (λ i. h.seen n t there bel i || keys_seen e (position (key_eq (name_key e.site)) names) refl n t there bel i)
        ∙ sym (list_any-append (element_has bel) (elements_for n before) (if nat_eq e.site n then e.luts else []))
        ∙ ap (list_any (element_has bel)) (sym (flat_map-append (λ e. if nat_eq e.site n then e.luts else []) before (e ∷ []) ∙ ap (λ l. elements_for n before ++ l) (append-nil (if nat_eq e.site n then e.luts else []))));
  }

  pub entry_is : EachKnown KnowsBels bels rec.site_type_list → EachKnown KnowsPins pins rec.site_type_list → (before : List SiteTypeLutElements) (e : SiteTypeLutElements) (table : List Key) → Seen rec table before → (place : Option ℕ) → place ≡ position (key_eq (name_key e.site)) names → entry_by bels pins place table e ≡ elements_stand rec before e
  entry_is has_bels has_pins before e table h None is =
      ap (λ o. elements_of_type o (elements_for e.site before) e.luts) (sym (named_none rec.site_type_list e.site (at_place e.site None is)))
  entry_is has_bels has_pins before e table h (Some p) is = by (named_at rec.site_type_list e.site p (at_place e.site (Some p) is))
    where
      by : (t : SiteType) × (slice_get rec.site_type_list p ≡ Some t) → entry_by bels pins (Some p) table e ≡ elements_stand rec before e
      by there =
          let t = there.0 in
          let named_t : site_type_named rec e.site ≡ Some t = named_some rec.site_type_list e.site p t (at_place e.site (Some p) is) there.1 in
          by_earlier-same (element_after (record { number = p; site = e.site; bels = bels; pins = pins }) table) (λ b x. element_stands t (elements_for e.site before ++ b) x)
          (λ b x. element_is (record { number = p; site = e.site; bels = bels; pins = pins }) t (has_bels p t there.1) (has_pins p t there.1) (table ++ flat_map (element_keys e.site) b) (elements_for e.site before ++ b) (λ bel. known t named_t b bel) x) [] e.luts
          ∙ ap (λ o. elements_of_type o (elements_for e.site before) e.luts) (sym named_t)
        where
          known : (t : SiteType) → site_type_named rec e.site ≡ Some t → (b : List LutElement) (bel : ℕ) → has_key (table ++ flat_map (element_keys e.site) b) (key e.site 0 bel) ≡ list_any (element_has bel) (elements_for e.site before ++ b)
          known t named_t b bel =
              let like : nat_eq e.site e.site ≡ true = grind (arith, nat_tests) in
              list_any-append (key_eq (key e.site 0 bel)) table (flat_map (element_keys e.site) b)
              ∙ (λ i. h.seen e.site t named_t bel i || (elements_keys e.site e.site bel b ∙ ap (λ c. list_any (element_has bel) (if c then b else [])) like) i)
              ∙ sym (list_any-append (element_has bel) (elements_for e.site before) b)
