-- A list of pins that has been put into the map in part.
use Rattle.std.proofs.Common.{◌≡◌, ◌≢◌, ◌⊎◌, ◌<◌, ◌≤◌, ◌+◌, ◌∙◌, ap, sym, refl, ℕ, suc}
use Rattle.std.proofs.Common.{List, [], ◌∷◌, length, map, slice_get, Option, Some, None}
use Rattle.std.proofs.Common.{option_map, Bool, true, false, inl, inr, get_or, arith}
use Rattle.std.specs.FinMap.{FinMap, get}
use Rattle.std.proofs.lemmas.Bool.{cases_lt, eqb-true, eqb-false}
use Rattle.std.specs.Prelude.{nat_eq}
use Rattle.std.proofs.lemmas.List.{length-map}
use Rattle.std.proofs.lemmas.Option.{same_Some, none-some, slice_get_within, slice_get-map}
use Rattle.std.proofs.lemmas.Option.{slice_get_cases, slice_get_past}
use Rattle.ix_num.specs.declared.resource.NetRef.{NetRef}
use Rattle.ix_num.specs.declared.resource.NetRef.TheVariants.{Signal}
use Rattle.ix_rec.specs.Maps.{pin_order}
use Rattle.ix_rec.specs.declared.flow.CellPin.{CellPin}
use Rattle.ix_rec.specs.declared.flow.FlatNet.{FlatNet}
use Rattle.ix_wiring.specs.Wired.{AreOneEach, Drives, IsDriverAmong}
use Rattle.ix_wiring.specs.Wired.{AreUndriven, IsWired, with_driver}
use Rattle.ix_wiring.specs.declared.flat_pin.FlatPin.{FlatPin}
use Rattle.ix_wiring.specs.declared.wiring.Wiring.{Wiring}

abbrev cell_pin : ℕ → ℕ → CellPin
cell_pin cell pin = record { cell = cell; pin = pin }

-- the first so many pins have been put
pub record Partly (names : List ℕ) (pins : List FlatPin) (n : ℕ)
    (nets_of : FinMap pin_order NetRef) (nets : List FlatNet) : Type 0 where
  pub of : (cell pin : ℕ) (net : NetRef) → get nets_of (cell, pin) ≡ Some net
      → (k : ℕ) × (one : FlatPin) × (k < n) × (slice_get pins k ≡ Some one) × (one.cell ≡ cell)
      × (one.pin ≡ pin) × (one.net ≡ net)
  pub all : AreOneEach pins → (k : ℕ) (pin : FlatPin) → k < n → slice_get pins k ≡ Some pin
      → get nets_of (pin.cell, pin.pin) ≡ Some pin.net
  pub names_are : map (λ (net : FlatNet). net.name) nets ≡ names
  pub drivers : (m : ℕ) (net : FlatNet) (driver : CellPin) → slice_get nets m ≡ Some net
      → net.driver ≡ Some driver → IsDriverAmong pins m driver
  pub driven : (m k : ℕ) (net : FlatNet) (pin : FlatPin) → k < n → slice_get nets m ≡ Some net
      → slice_get pins k ≡ Some pin → pin.net ≡ Signal m → pin.drives ≡ true
      → net.driver ≢ None

abbrev pub Key : Type 0
Key = ℕ × ℕ

abbrev pub key : ℕ → ℕ → Key
key cell pin = (cell, pin)

-- equal keys, or not
same_key : (a b c d : ℕ) → ((a ≡ c) × (b ≡ d)) ⊎ (key a b ≢ key c d)
same_key a b c d = by (nat_eq a c) (nat_eq b d) refl refl
  where
    by : (p q : Bool) → nat_eq a c ≡ p → nat_eq b d ≡ q
        → ((a ≡ c) × (b ≡ d)) ⊎ (key a b ≢ key c d)
    by true true x y = inl (eqb-true a c x, eqb-true b d y)
    by true false x y = inr (λ e. eqb-false b d y (ap (λ (p : Key). p.1) e))
    by false q x y = inr (λ e. eqb-false a c x (ap (λ (p : Key). p.0) e))

-- the net at a place of the list that a pin was noted in
net_before : (old new : List FlatNet) (pin : FlatPin) → Drives old new pin → (m : ℕ)
    (net : FlatNet) → slice_get new m ≡ Some net
    → (was : FlatNet) × (slice_get old m ≡ Some was)
net_before old new pin drives m net at = by ((slice_get_cases old m).1)
  where
    by : ((was : FlatNet) × (m < length old) × (slice_get old m ≡ Some was)
        × (get_or old m was ≡ was))
        ⊎ ((length old ≤ m) × (slice_get old m ≡ None))
        → (was : FlatNet) × (slice_get old m ≡ Some was)
    by (inl h) = (h.0, h.2)
    by (inr h) = absurd (omega (arith, h.0, drives.0, slice_get_within new m net at))

same_lists : (xs ys : List ℕ) → length xs ≡ length ys
    → ((k : ℕ) → slice_get xs k ≡ slice_get ys k) → xs ≡ ys
same_lists [] [] n at = refl
same_lists [] (y ∷ ys) n at = absurd (omega (arith, n))
same_lists (x ∷ xs) [] n at = absurd (omega (arith, n))
same_lists (x ∷ xs) (y ∷ ys) n at = ap (λ k. k ∷ xs) (same_Some x y (at 0))
    ∙ ap (λ zs. y ∷ zs) (same_lists xs ys (omega (arith, n)) (λ k. at (suc k)))

same_name : (driven : Bool) (cell pin : ℕ) (net : FlatNet)
    → (with_driver driven cell pin net).name ≡ net.name
same_name true cell pin net = refl
same_name false cell pin net = refl

names_stay : (old new : List FlatNet) (pin : FlatPin) → Drives old new pin
    → map (λ (net : FlatNet). net.name) new ≡ map (λ (net : FlatNet). net.name) old
names_stay old new pin drives = same_lists _ _
    (length-map new (λ (net : FlatNet). net.name) ∙ drives.0
    ∙ sym (length-map old (λ (net : FlatNet). net.name)))
    (λ k. slice_get-map (λ (net : FlatNet). net.name) new k ∙ at k ((slice_get_cases old k).1)
    ∙ sym (slice_get-map (λ (net : FlatNet). net.name) old k))
  where
    name_in : Option FlatNet → Option ℕ
    name_in o = option_map (λ (net : FlatNet). net.name) o

    at : (k : ℕ) → ((was : FlatNet) × (k < length old) × (slice_get old k ≡ Some was)
        × (get_or old k was ≡ was))
        ⊎ ((length old ≤ k) × (slice_get old k ≡ None))
        → option_map (λ (net : FlatNet). net.name) (slice_get new k)
        ≡ option_map (λ (net : FlatNet). net.name) (slice_get old k)
    at k (inl h) = by (drives.1 k h.0 h.2)
      where
        by : ((pin.net ≡ Signal k) × (pin.drives ≡ true)
            × (slice_get new k ≡ Some (with_driver true pin.cell pin.pin h.0)))
            ⊎ ((pin.net ≡ Signal k → pin.drives ≡ true → ⊥) × (slice_get new k ≡ Some h.0))
            → option_map (λ (net : FlatNet). net.name) (slice_get new k)
            ≡ option_map (λ (net : FlatNet). net.name) (slice_get old k)
        by (inl d) = ap (option_map (λ (net : FlatNet). net.name)) d.2
            ∙ ap (option_map (λ (net : FlatNet). net.name)) (sym h.2)
        by (inr d) = ap (option_map (λ (net : FlatNet). net.name)) (d.1 ∙ sym h.2)
    at k (inr h) = ap (option_map (λ (net : FlatNet). net.name))
        (slice_get_past new k (omega (arith, h.0, drives.0)) ∙ sym h.1)

pub put_next : (names : List ℕ) (pins : List FlatPin) (n : ℕ) (pin : FlatPin)
    (before after : FinMap pin_order NetRef) (old new : List FlatNet)
    → slice_get pins n ≡ Some pin → Partly names pins n before old
    → get after (pin.cell, pin.pin) ≡ Some pin.net
    → ((q : ℕ × ℕ) → q ≢ (pin.cell, pin.pin) → get after q ≡ get before q)
    → Drives old new pin → Partly names pins (n + 1) after new
put_next names pins n pin before after old new at was here others drives = record {
  of = λ cell name net has. from cell name net has (same_key cell name pin.cell pin.pin);
  all = λ each k one lt one_at. held each k one lt one_at
      (same_key one.cell one.pin pin.cell pin.pin) (cases_lt k n);
  names_are = names_stay old new pin drives ∙ was.names_are;
  drivers = λ m net driver net_at is. let b = net_before old new pin drives m net net_at in
      driver_of m net driver net_at is b.0 b.1 (drives.1 m b.0 b.1);
  driven = λ m k net one lt net_at one_at on yes.
      let b = net_before old new pin drives m net net_at in
      has_driver m k net one lt net_at one_at on yes b.0 b.1 (drives.1 m b.0 b.1) (cases_lt k n);
}
  where
    from : (cell name : ℕ) (net : NetRef) → get after (cell, name) ≡ Some net
        → ((cell ≡ pin.cell) × (name ≡ pin.pin)) ⊎ (key cell name ≢ key pin.cell pin.pin)
        → (k : ℕ) × (one : FlatPin) × (k < n + 1) × (slice_get pins k ≡ Some one)
        × (one.cell ≡ cell) × (one.pin ≡ name) × (one.net ≡ net)
    from cell name net has (inl same) = (
      n,
      pin,
      omega arith,
      at,
      sym same.0,
      sym same.1,
      same_Some pin.net net (sym here
          ∙ ap (λ c. get after (c, pin.pin)) (sym same.0)
          ∙ ap (λ p. get after (cell, p)) (sym same.1) ∙ has),
    )
    from cell name net has (inr apart) =
        let w = was.of cell name net (sym (others (cell, name) apart) ∙ has) in
        (w.0, w.1, omega (arith, w.2), w.3, w.4, w.5, w.6)

    held : AreOneEach pins → (k : ℕ) (one : FlatPin) → k < n + 1 → slice_get pins k ≡ Some one
        → ((one.cell ≡ pin.cell)
        × (one.pin ≡ pin.pin)) ⊎ (key one.cell one.pin ≢ key pin.cell pin.pin)
        → (k < n) ⊎ (n ≤ k) → get after (one.cell, one.pin) ≡ Some one.net
    held each k one lt one_at (inl same) c =
        ap (λ c. get after (c, one.pin)) same.0 ∙ ap (λ p. get after (pin.cell, p)) same.1
        ∙ here ∙ ap (λ net. Some net) (each n k pin one at one_at (sym same.0) (sym same.1))
    held each k one lt one_at (inr apart) (inl less) =
        others (one.cell, one.pin) apart ∙ was.all each k one less one_at
    held each k one lt one_at (inr apart) (inr le) =
        let last : k ≡ n = omega (arith, lt, le) in
        let same : one ≡ pin = same_Some one pin (sym one_at ∙ ap (slice_get pins) last ∙ at) in
        absurd (apart (ap (λ (p : FlatPin). key p.cell p.pin) same))

    driver_of : (m : ℕ) (net : FlatNet) (driver : CellPin) → slice_get new m ≡ Some net
        → net.driver ≡ Some driver → (prior : FlatNet) → slice_get old m ≡ Some prior
        → ((pin.net ≡ Signal m) × (pin.drives ≡ true)
        × (slice_get new m ≡ Some (with_driver true pin.cell pin.pin prior)))
        ⊎ ((pin.net ≡ Signal m → pin.drives ≡ true → ⊥) × (slice_get new m ≡ Some prior))
        → IsDriverAmong pins m driver
    driver_of m net driver net_at is prior prior_at (inl d) =
        let same : net ≡ with_driver true pin.cell pin.pin prior =
        same_Some net (with_driver true pin.cell pin.pin prior) (sym net_at ∙ d.2) in
        let e : cell_pin pin.cell pin.pin ≡ driver = same_Some (cell_pin pin.cell pin.pin) driver
        (sym (ap (λ (f : FlatNet). f.driver) same) ∙ is) in (
          n,
          pin,
          at,
          ap (λ (c : CellPin). c.cell) e,
          ap (λ (c : CellPin). c.pin) e,
          d.0,
          d.1,
        )
    driver_of m net driver net_at is prior prior_at (inr d) =
        let same : net ≡ prior = same_Some net prior (sym net_at ∙ d.1) in
        was.drivers m prior driver prior_at (ap (λ (f : FlatNet). f.driver) (sym same) ∙ is)

    has_driver : (m k : ℕ) (net : FlatNet) (one : FlatPin) → k < n + 1
        → slice_get new m ≡ Some net → slice_get pins k ≡ Some one → one.net ≡ Signal m
        → one.drives ≡ true → (prior : FlatNet) → slice_get old m ≡ Some prior
        → ((pin.net ≡ Signal m) × (pin.drives ≡ true)
        × (slice_get new m ≡ Some (with_driver true pin.cell pin.pin prior)))
        ⊎ ((pin.net ≡ Signal m → pin.drives ≡ true → ⊥) × (slice_get new m ≡ Some prior))
        → (k < n) ⊎ (n ≤ k) → net.driver ≡ None → ⊥
    has_driver m k net one lt net_at one_at on drives_it prior prior_at (inl d) c none =
        let same : net ≡ with_driver true pin.cell pin.pin prior =
        same_Some net (with_driver true pin.cell pin.pin prior) (sym net_at ∙ d.2) in
        none-some (cell_pin pin.cell pin.pin) (sym none ∙ ap (λ (f : FlatNet). f.driver) same)
    has_driver m k net one lt net_at one_at on drives_it prior prior_at (inr d) (inl less) none =
        let same : net ≡ prior = same_Some net prior (sym net_at ∙ d.1) in
        was.driven m k prior one less prior_at one_at on drives_it
        (ap (λ (f : FlatNet). f.driver) (sym same) ∙ none)
    has_driver m k net one lt net_at one_at on drives_it prior prior_at (inr d) (inr le) none =
        let last : k ≡ n = omega (arith, lt, le) in
        let same : one ≡ pin = same_Some one pin (sym one_at ∙ ap (slice_get pins) last ∙ at) in
        d.0 (sym (ap (λ (p : FlatPin). p.net) same) ∙ on)
        (sym (ap (λ (p : FlatPin). p.drives) same) ∙ drives_it)

pub start : (names : List ℕ) (pins : List FlatPin) (nets_of : FinMap pin_order NetRef)
    (nets : List FlatNet) → ((q : ℕ × ℕ) → get nets_of q ≡ None) → AreUndriven names nets
    → Partly names pins 0 nets_of nets
start names pins nets_of nets empty undriven = record {
  of = λ cell pin net has. absurd (none-some net (sym (empty (cell, pin)) ∙ has));
  all = λ each k pin lt at. absurd (omega (arith, lt));
  names_are = ap (map (λ (net : FlatNet). net.name)) undriven ∙ same names;
  drivers = λ m net driver at is. absurd (never m net driver at is);
  driven = λ m k net pin lt at pin_at on yes. absurd (omega (arith, lt));
}
  where
    bare : ℕ → FlatNet
    bare name = record { name = name; driver = None }

    same : (xs : List ℕ) → map (λ (net : FlatNet). net.name) (map bare xs) ≡ xs
    same [] = refl
    same (x ∷ xs) = ap (λ ys. x ∷ ys) (same xs)

    never : (m : ℕ) (net : FlatNet) (driver : CellPin) → slice_get nets m ≡ Some net
        → net.driver ≡ Some driver → ⊥
    never m net driver at is = by (slice_get names m)
        (sym (slice_get-map bare names m) ∙ ap (λ l. slice_get l m) (sym undriven) ∙ at)
      where
        by : (o : Option ℕ) → option_map bare o ≡ Some net → ⊥
        by None h = none-some net h
        by (Some x) h = none-some driver
            (ap (λ (f : FlatNet). f.driver) (same_Some (bare x) net h) ∙ is)

pub whole : (names : List ℕ) (pins : List FlatPin) (n : ℕ) (wiring : Wiring)
    → length pins ≤ n → Partly names pins n wiring.pins wiring.nets.items
    → IsWired names pins wiring
whole names pins n wiring end was = record {
  of = λ cell pin net has. let w = was.of cell pin net has in
      (w.0, w.1, w.3, w.4, w.5, w.6);
  all = λ each k pin at. was.all each k pin (inside k pin at) at;
  nets = record {
    names_are = was.names_are;
    drivers = was.drivers;
    driven = λ m k net pin net_at pin_at on drives_it.
        was.driven m k net pin (inside k pin pin_at) net_at pin_at on drives_it;
  };
}
  where
    inside : (k : ℕ) (pin : FlatPin) → slice_get pins k ≡ Some pin → k < n
    inside k pin at = omega (arith, end, slice_get_within pins k pin at)

-- there are as many nets as names
pub many_nets : (names : List ℕ) (pins : List FlatPin) (n : ℕ)
    (nets_of : FinMap pin_order NetRef) (nets : List FlatNet)
    → Partly names pins n nets_of nets → length names ≡ length nets
many_nets names pins n nets_of nets was = ap length (sym was.names_are)
    ∙ length-map nets (λ (net : FlatNet). net.name)
