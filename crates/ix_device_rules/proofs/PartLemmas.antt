-- Tables of the parts of numbered things.
use Rattle.std.proofs.Common.{◌≡◌, ◌≢◌, ◌∙◌, ◌++◌, ◌∷◌, ◌+◌, ◌≤◌, ◌<◌, ◌⊎◌, inl, inr, ◌||◌, ◌&&◌, [], ℕ, Bool, true, false, nat_eq, List, map, length, take, slice_get, Some, ap, refl, sym, subst, arith}
use Rattle.std.specs.List.{list_any}
use Rattle.std.proofs.lemmas.Bool.Decides.{nat_tests}
use Rattle.std.proofs.lemmas.List.{length-take, take_all}
use Rattle.std.proofs.lemmas.List.Folds.{list_any-append}
use Rattle.std.proofs.lemmas.Option.{slice_get_within, none-some}
use Rattle.ix_rec.specs.declared.device.SiteType.{SiteType}
use Rattle.ix_rec.specs.declared.device.TileType.{TileType}
use Rattle.ix_rec.specs.declared.device.Bel.{Bel}
use Rattle.ix_rec.specs.declared.device.BelPin.{BelPin}
use Rattle.ix_keys.specs.declared.key.Key.{Key}
use Rattle.ix_keys.specs.Keys.{key, key_eq, has_key}
use Rattle.ix_keys.proofs.KeyLemmas.{slice_get-push}
use Rattle.ix_device_rules.specs.Tables.{SameKeys, KnowsBels, KnowsPins, KnowsWires, EachKnown}
use Rattle.ix_device_rules.specs.Rules.{is_pin_of}
use Rattle.ix_device_rules.proofs.Steps.{up_to}
use Rattle.ix_device_rules.proofs.TableLemmas.{list_any-map, list_any-same}

module _ {A B : Type 0} (items : A → List B) (part name : B → ℕ) where
  -- the keys of the parts of the thing of this number
  abbrev pub parts : ℕ → A → List Key
  parts number x = map (λ b. key number (part b) (name b)) (items x)

  -- the table has, of the first things, just their parts, and nothing of later ones
  pub record Filled (table : List Key) (xs : List A) (i : ℕ) : Type 0 where
    pub under : (number : ℕ) (x : A) → slice_get (take i xs) number ≡ Some x → (p n : ℕ) → has_key table (key number p n) ≡ has_key (parts number x) (key number p n)
    pub fresh : (number : ℕ) → i ≤ number → (p n : ℕ) → has_key table (key number p n) ≡ false

  others : (bs : List B) (number other p n : ℕ) → other ≢ number → has_key (map (λ b. key number (part b) (name b)) bs) (key other p n) ≡ false
  others [] number other p n apart = refl
  others (b ∷ bs) number other p n apart =
      let no : nat_eq other number ≡ false = grind (arith, nat_tests) in
      (λ i. (no i && (nat_eq p (part b) && nat_eq n (name b))) || others bs number other p n apart i)

  pub filled_none : (table : List Key) (xs : List A) → table ≡ [] → Filled table xs 0
  filled_none table xs is = record {
    under = λ number x at. absurd (none-some x at);
    fresh = λ number past p n. ap (λ t. has_key t (key number p n)) is;
  }

  pub filled_more : (old new : List Key) (xs : List A) (i : ℕ) (x : A) → slice_get xs i ≡ Some x → Filled old xs i → SameKeys new (old ++ parts i x) → Filled new xs (i + 1)
  filled_more old new xs i x at h more = record {
    under = λ number y there p n. split number p n ∙ by number y p n (slice_get-push (take i xs) x number y (subst (λ l. slice_get l number ≡ Some y) (up_to xs i x at) there));
    fresh = λ number past p n.
        let le : i ≤ number = omega arith in
        let apart : number ≢ i = omega arith in
        split number p n ∙ (λ j. h.fresh number le p n j || others (items x) i number p n apart j);
  }
    where
      split : (number p n : ℕ) → has_key new (key number p n) ≡ (has_key old (key number p n) || has_key (parts i x) (key number p n))
      split number p n = more.same (key number p n) ∙ list_any-append (key_eq (key number p n)) old (parts i x)

      long : length (take i xs) ≡ i
      long = let lt = slice_get_within xs i x at in length-take i xs ∙ omega arith

      or_false : (b : Bool) → (b || false) ≡ b
      or_false true = refl
      or_false false = refl

      by : (number : ℕ) (y : A) (p n : ℕ) → (slice_get (take i xs) number ≡ Some y) ⊎ ((number ≡ length (take i xs)) × (x ≡ y)) → (has_key old (key number p n) || has_key (parts i x) (key number p n)) ≡ has_key (parts number y) (key number p n)
      by number y p n (inl earlier) =
          let lt : number < length (take i xs) = slice_get_within (take i xs) number y earlier in
          let apart : number ≢ i = omega (arith, lt, long) in
          ap (λ b. has_key old (key number p n) || b) (others (items x) i number p n apart) ∙ or_false (has_key old (key number p n)) ∙ h.under number y earlier p n
      by number y p n (inr last) =
          let le : i ≤ number = omega (arith, last.0, long) in
          let same : i ≡ number = omega (arith, last.0, long) in
          ap (λ b. b || has_key (parts i x) (key number p n)) (h.fresh number le p n) ∙ (λ j. has_key (parts (same j) (last.1 j)) (key number p n))

  pub known_parts : (table : List Key) (xs : List A) (i : ℕ) → length xs ≤ i → Filled table xs i → (number : ℕ) (x : A) → slice_get xs number ≡ Some x → (p n : ℕ) → has_key table (key number p n) ≡ list_any (λ b. key_eq (key number p n) (key number (part b) (name b))) (items x)
  known_parts table xs i past h number x at p n = h.under number x (subst (λ l. slice_get l number ≡ Some x) (sym (take_all i xs past)) at) p n ∙ list_any-map (key_eq (key number p n)) (λ b. key number (part b) (name b)) (items x)

abbrev pub bel_part : Bel → ℕ
bel_part b = 0

abbrev pub bel_name : Bel → ℕ
bel_name b = b.name

pub knows_bels : (table : List Key) (xs : List SiteType) (i : ℕ) → length xs ≤ i → Filled (λ t. t.bels) bel_part bel_name table xs i → EachKnown KnowsBels table xs
knows_bels table xs i past h number x at bel =
    known_parts (λ t. t.bels) bel_part bel_name table xs i past h number x at 0 bel
    ∙ list_any-same (λ b. key_eq (key number 0 bel) (key number 0 b.name)) (λ b. nat_eq b.name bel) (λ b. same b.name) x.bels
  where
    same : (name : ℕ) → key_eq (key number 0 bel) (key number 0 name) ≡ nat_eq name bel
    same name = grind (arith, nat_tests)

abbrev pub pin_part : BelPin → ℕ
pin_part p = p.bel

abbrev pub pin_name : BelPin → ℕ
pin_name p = p.name

pub knows_pins : (table : List Key) (xs : List SiteType) (i : ℕ) → length xs ≤ i → Filled (λ t. t.bel_pins) pin_part pin_name table xs i → EachKnown KnowsPins table xs
knows_pins table xs i past h number x at bel pin =
    known_parts (λ t. t.bel_pins) pin_part pin_name table xs i past h number x at bel pin
    ∙ list_any-same (λ p. key_eq (key number bel pin) (key number p.bel p.name)) (is_pin_of bel pin) (λ p. same p.bel p.name) x.bel_pins
  where
    same : (b p : ℕ) → key_eq (key number bel pin) (key number b p) ≡ (nat_eq b bel && nat_eq p pin)
    same b p = grind (arith, nat_tests)

abbrev pub wire_part : ℕ → ℕ
wire_part w = 0

abbrev pub wire_name : ℕ → ℕ
wire_name w = w

pub knows_wires : (table : List Key) (xs : List TileType) (i : ℕ) → length xs ≤ i → Filled (λ t. t.wires) wire_part wire_name table xs i → EachKnown KnowsWires table xs
knows_wires table xs i past h number x at wire =
    known_parts (λ t. t.wires) wire_part wire_name table xs i past h number x at 0 wire
    ∙ list_any-same (λ w. key_eq (key number 0 wire) (key number 0 w)) (nat_eq wire) same x.wires
  where
    same : (w : ℕ) → key_eq (key number 0 wire) (key number 0 w) ≡ nat_eq wire w
    same w = grind (arith, nat_tests)
