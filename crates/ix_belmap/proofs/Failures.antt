-- Port cells that fail, one by one, and the sites of fixed ones.
use Rattle.std.proofs.Common.{◌≡◌, ◌≢◌, refl, ap, sym, ◌∙◌, ℕ, ◌+◌, ◌<◌, ◌≤◌, List, [], ◌∷◌, take}
use Rattle.std.proofs.Common.{length}
use Rattle.std.proofs.Common.{slice_get, Option, Some, None, Bool, true, false, not, ◌||◌, nat_eq}
use Rattle.std.proofs.Common.{option_map}
use Rattle.std.proofs.Common.{option_and_then, unwrap_or, is_none, is_some, arith}
use Rattle.std.specs.List.{list_any}
use Rattle.std.proofs.lemmas.Bool.{eqb-true, eqb-false}
use Rattle.std.proofs.lemmas.Option.{slice_get_within}
use Rattle.ix_first.specs.First.{or_later}
use Rattle.ix_belmap.specs.declared.ports.Fixing.{Fixing}
use Rattle.ix_belmap.specs.declared.ports.Fixing.TheVariants.{Free, Nowhere, At}
use Rattle.ix_belmap.specs.Pins.{IsFirst, NoneFails, is_nowhere, is_nowhere_at, is_second}
use Rattle.ix_belmap.specs.Pins.{name_one_pin, site_of_fixing}
use Rattle.ix_belmap.proofs.Lists.{any_alike, any_more, eq_sym, take_all, taken_here, taken_other}
use Rattle.ix_belmap.proofs.Lists.{taken_past}

not_nowhere : (f : Fixing) → (f ≡ Nowhere → ⊥) → is_nowhere f ≡ false
not_nowhere Free h = refl
not_nowhere Nowhere h = absurd (h refl)
not_nowhere (At pin site) h = refl

pub none_nowhere : (all : List Fixing) (i : ℕ) (f : Fixing) → slice_get all i ≡ Some f
    → (f ≡ Nowhere → ⊥) → ((k : ℕ) → k < i → is_nowhere_at all k ≡ false)
    → (k : ℕ) → k < i + 1 → is_nowhere_at all k ≡ false
none_nowhere all i f at h before k lt = by (nat_eq k i) refl
  where
    by : (b : Bool) → nat_eq k i ≡ b → is_nowhere_at all k ≡ false
    by true e = ap (is_nowhere_at all) (eqb-true k i e)
        ∙ ap (λ o. unwrap_or (option_map is_nowhere o) false) at ∙ not_nowhere f h
    by false e = let ne : k ≢ i = eqb-false k i e in before k (omega arith)

-- a fixing to this package pin
abbrev pub is_pin : ℕ → Fixing → Bool
is_pin pin Free = false
is_pin pin Nowhere = false
is_pin pin (At p site) = nat_eq p pin

names_pin : (pin site : ℕ) (f : Fixing) → name_one_pin (At pin site) f ≡ is_pin pin f
names_pin pin site Free = refl
names_pin pin site Nowhere = refl
names_pin pin site (At p s) = eq_sym pin p

-- which pins the first fixings name, none of them twice
pub record KnowsUsed (all : List Fixing) (used : ℕ → Option (Unit {0})) (i : ℕ) : Type 0 where
  pub apart : (k : ℕ) → k < i → is_second all k ≡ false
  pub names : (pin : ℕ) → is_some (used pin) ≡ list_any (is_pin pin) (take i all)

second_at : (all : List Fixing) (i : ℕ) (f : Fixing) → slice_get all i ≡ Some f
    → is_second all i ≡ list_any (name_one_pin f) (take i all)
second_at all i f at = ap (λ o. unwrap_or
    (option_map (λ g. list_any (name_one_pin g) (take i all)) o) false) at

-- whether a pin is named a second time is what the table tells
second_told : (all : List Fixing) (used : ℕ → Option (Unit {0})) (i pin site : ℕ)
    → slice_get all i ≡ Some (At pin site) → KnowsUsed all used i
    → is_second all i ≡ is_some (used pin)
second_told all used i pin site at known =
    second_at all i (At pin site) at
    ∙ any_alike (name_one_pin (At pin site)) (is_pin pin) (take i all) (names_pin pin site)
    ∙ sym (known.names pin)

some_not_none : (o : Option (Unit {0})) → is_some o ≡ not (is_none o)
some_not_none None = refl
some_not_none (Some u) = refl

pub second_here : (all : List Fixing) (used : ℕ → Option (Unit {0})) (i pin site : ℕ) (new : Bool)
    → slice_get all i ≡ Some (At pin site) → KnowsUsed all used i → new ≡ is_none (used pin)
    → new ≡ false
    → IsFirst (is_second all) i
second_here all used i pin site new at known told is = record {
  here = second_told all used i pin site at known ∙ some_not_none (used pin)
      ∙ ap not (sym told ∙ is);
  earlier = known.apart;
}

apart_next : (all : List Fixing) (i : ℕ) → ((k : ℕ) → k < i → is_second all k ≡ false)
    → is_second all i ≡ false → (k : ℕ) → k < i + 1 → is_second all k ≡ false
apart_next all i before here k lt = by (nat_eq k i) refl
  where
    by : (b : Bool) → nat_eq k i ≡ b → is_second all k ≡ false
    by true e = ap (is_second all) (eqb-true k i e) ∙ here
    by false e = let ne : k ≢ i = eqb-false k i e in before k (omega arith)

later_some : (o : Option (Unit {0})) (b : Bool) → is_some (or_later o b (tt {0})) ≡ (is_some o || b)
later_some (Some u) b = refl
later_some None true = refl
later_some None false = refl

-- one more package pin
pub used_pin : (all : List Fixing) (used now : ℕ → Option (Unit {0})) (i pin site : ℕ) (new : Bool)
    → slice_get all i ≡ Some (At pin site) → KnowsUsed all used i → new ≡ is_none (used pin)
    → new ≡ true
    → ((q : ℕ) → now q ≡ or_later (used q) (nat_eq pin q) (tt {0})) → KnowsUsed all now (i + 1)
used_pin all used now i pin site new at known told is put = record {
  apart = apart_next all i known.apart
      (second_told all used i pin site at known ∙ some_not_none (used pin)
      ∙ ap not (sym told ∙ is));
  names = λ q. ap is_some (put q) ∙ later_some (used q) (nat_eq pin q)
      ∙ ap (λ b. b || nat_eq pin q) (known.names q)
      ∙ sym (any_more (is_pin q) all i (At pin site) at);
}

abbrev pub IsNotAt : Fixing → Type 0
IsNotAt f = (pin site : ℕ) → f ≡ At pin site → ⊥

none_same : (f : Fixing) (xs : List Fixing) → IsNotAt f → list_any (name_one_pin f) xs ≡ false
none_same f [] h = refl
none_same Free (x ∷ xs) h = none_same Free xs h
none_same Nowhere (x ∷ xs) h = none_same Nowhere xs h
none_same (At pin site) (x ∷ xs) h = absurd (h pin site refl)

no_pin : (f : Fixing) (pin : ℕ) → IsNotAt f → is_pin pin f ≡ false
no_pin Free pin h = refl
no_pin Nowhere pin h = refl
no_pin (At p s) pin h = absurd (h p s refl)

no_site : (f : Fixing) → IsNotAt f → site_of_fixing f ≡ None
no_site Free h = refl
no_site Nowhere h = refl
no_site (At p s) h = absurd (h p s refl)

or_false : (b : Bool) → (b || false) ≡ b
or_false true = refl
or_false false = refl

-- one more fixing to no site
pub used_none : (all : List Fixing) (used : ℕ → Option (Unit {0})) (i : ℕ) (f : Fixing)
    → slice_get all i ≡ Some f → IsNotAt f → KnowsUsed all used i → KnowsUsed all used (i + 1)
used_none all used i f at other known = record {
  apart = apart_next all i known.apart (second_at all i f at ∙ none_same f (take i all) other);
  names = λ q. known.names q ∙ sym (any_more (is_pin q) all i f at
      ∙ ap (λ b. list_any (is_pin q) (take i all) || b) (no_pin f q other)
      ∙ or_false (list_any (is_pin q) (take i all)));
}

-- none is second where all were looked at
pub none_second : (all : List Fixing) (used : ℕ → Option (Unit {0})) (i : ℕ) → length all ≤ i
    → KnowsUsed all used i → NoneFails (is_second all)
none_second all used i end known k = by (slice_get all k) refl
  where
    by : (o : Option Fixing) → slice_get all k ≡ o → is_second all k ≡ false
    by None e = ap (λ o. unwrap_or (option_map (λ g. list_any (name_one_pin g) (take k all)) o)
        false) e
    by (Some f) e = known.apart k (let lt = slice_get_within all k f e in omega arith)

-- the sites of the first port cells
abbrev pub sites_until : List Fixing → (count cell : ℕ) → Option ℕ
sites_until all count cell = option_and_then site_of_fixing (slice_get (take count all) cell)

pub site_more : (all : List Fixing) (old now : ℕ → Option ℕ) (i pin site : ℕ)
    → slice_get all i ≡ Some (At pin site) → ((q : ℕ) → old q ≡ sites_until all i q)
    → now i ≡ Some site → ((q : ℕ) → q ≢ i → now q ≡ old q) → (q : ℕ)
    → now q ≡ sites_until all (i + 1) q
site_more all old now i pin site at before here others q = by (nat_eq q i) refl
  where
    by : (b : Bool) → nat_eq q i ≡ b → now q ≡ sites_until all (i + 1) q
    by true e = let is : q ≡ i = eqb-true q i e in
        ap now is ∙ here ∙ sym (ap (option_and_then site_of_fixing)
        (taken_here all i (At pin site) at))
        ∙ ap (sites_until all (i + 1)) (sym is)
    by false e = let ne : q ≢ i = eqb-false q i e in
        others q ne ∙ before q
        ∙ sym (ap (option_and_then site_of_fixing) (taken_other all i q (At pin site) at ne))

pub site_none : (all : List Fixing) (old : ℕ → Option ℕ) (i : ℕ) (f : Fixing)
    → slice_get all i ≡ Some f → IsNotAt f → ((q : ℕ) → old q ≡ sites_until all i q)
    → (q : ℕ) → old q ≡ sites_until all (i + 1) q
site_none all old i f at other before q = by (nat_eq q i) refl
  where
    by : (b : Bool) → nat_eq q i ≡ b → old q ≡ sites_until all (i + 1) q
    by true e = let is : q ≡ i = eqb-true q i e in
        before q ∙ ap (option_and_then site_of_fixing) (taken_past all i q (omega arith))
        ∙ sym (no_site f other) ∙ sym (ap (option_and_then site_of_fixing) (taken_here all i f at))
        ∙ ap (sites_until all (i + 1)) (sym is)
    by false e = let ne : q ≢ i = eqb-false q i e in
        before q ∙ sym (ap (option_and_then site_of_fixing) (taken_other all i q f at ne))

pub sites_end : (all : List Fixing) (now : ℕ → Option ℕ) (i : ℕ) → i ≡ length all
    → ((q : ℕ) → now q ≡ sites_until all i q)
    → (q : ℕ) → now q ≡ option_and_then site_of_fixing (slice_get all q)
sites_end all now i end told q =
    told q ∙ ap (λ l. option_and_then site_of_fixing (slice_get l q)) (take_all all i end)
