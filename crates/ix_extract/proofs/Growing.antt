-- Maps of pins, as they grow.
use Rattle.std.proofs.Common.{◌≡◌, ◌≢◌, ◌⊎◌, ◌<◌, ◌≤◌, ◌+◌, ◌∙◌, refl, ap, sym, subst, ℕ, arith}
use Rattle.std.proofs.Common.{inl, inr, slice_get, length, Some, None, option_map}
use Rattle.std.proofs.Common.{option_and_then, Bool, true, false, true≢false}
use Rattle.std.specs.Prelude.{nat_eq, Result, Ok, Err, OnOk}
use Rattle.std.specs.FinMap.{FinMap, get, empty, get-empty}
use Rattle.std.specs.List.{find, list_any}
use Rattle.std.proofs.lemmas.Bool.{cases_lt, eqb-true, eqb-false, eq-eqb}
use Rattle.std.proofs.lemmas.Option.{none-some, same_Some, slice_get_within}
use Rattle.ix_num.specs.declared.resource.NetRef.{NetRef}
use Rattle.ix_num.specs.declared.resource.Res.TheVariants.{Wire}
use Rattle.ix_rec.specs.Maps.{pin_order}
use Rattle.ix_rec.specs.declared.device.DeviceRec.{DeviceRec}
use Rattle.ix_rec.specs.declared.device.LutCell.{LutCell}
use Rattle.ix_rec.specs.declared.phys.CellPlacement.{CellPlacement}
use Rattle.ix_rec.specs.declared.phys.Phys.{Phys}
use Rattle.ix_device.specs.Lookups.{site_named, type_of_site, in_type, wire_in}
use Rattle.ix_device.proofs.Walks.{any_at}
use Rattle.ix_legal.specs.Holders.{Holds}
use Rattle.ix_legal.specs.Sites.{type_at, in_site, lut_cell_of, pins_at}
use Rattle.ix_ends.proofs.Items.{mapped, chained}
use Rattle.ix_placed_luts.specs.Tied.{HaveOneHolder}
use Rattle.ix_extract.specs.Extracted.{IsPinOn, bel_pin_of, is_lut_input, pin_by_placement}
use Rattle.ix_extract.specs.Extracted.{wire_of_pin}
use Rattle.ix_extract.specs.Taken.{AddsPins, AreOn, ArePins, IsInputAmong, IsListed, IsPlacedAt}
use Rattle.ix_extract.specs.Taken.{TellsHolder}
use Rattle.ix_extract.proofs.Finding.{any_place, by_device, by_no_device, find_place, goes_by}
use Rattle.ix_extract.proofs.Finding.{in_site_is, listed_found, Pins}

abbrev Nets : Type 0
Nets = FinMap pin_order NetRef

abbrev Key : Type 0
Key = ℕ × ℕ

abbrev key : ℕ → ℕ → Key
key cell pin = (cell, pin)

-- equal keys, or not
same_key : (a b c d : ℕ) → ((a ≡ c) × (b ≡ d)) ⊎ (key a b ≢ key c d)
same_key a b c d = by (nat_eq a c) (nat_eq b d) refl refl
  where
    by : (p q : Bool) → nat_eq a c ≡ p → nat_eq b d ≡ q
        → ((a ≡ c) × (b ≡ d)) ⊎ (key a b ≢ key c d)
    by true true x y = inl (eqb-true a c x, eqb-true b d y)
    by true false x y = inr (λ e. eqb-false b d y (ap (λ (p : Key). p.1) e))
    by false q x y = inr (λ e. eqb-false a c x (ap (λ (p : Key). p.0) e))

module _ (rec : DeviceRec) (phys : Phys) where
  -- a pin is on one net
  pub pin_is_one : HaveOneHolder rec phys.nets → (cell pin : ℕ) (one other : NetRef)
      → IsPinOn rec phys cell pin one → IsPinOn rec phys cell pin other → one ≡ other
  pin_is_one one_holder cell pin one other a b =
      let placement : b.placement ≡ a.placement =
      same_Some b.placement a.placement (sym b.placement_is ∙ a.placement_is) in
      let site : b.site ≡ a.site = same_Some b.site a.site (sym b.site_is
      ∙ ap (λ (p : CellPlacement). site_named rec p.site) placement ∙ a.site_is) in
      let wire : b.wire ≡ a.wire = same_Some b.wire a.wire (sym b.wire_is
      ∙ ap (λ (p : CellPlacement). wire_of_pin rec p pin) placement ∙ a.wire_is) in
      one_holder a.site a.wire one other a.holds
      (subst (λ s. Holds rec phys.nets (Wire s a.wire) other) site
      (subst (λ w. Holds rec phys.nets (Wire b.site w) other) wire b.holds))

  -- one pin more
  pub adds_one : HaveOneHolder rec phys.nets → (cell name : ℕ) (net : NetRef)
      → IsPinOn rec phys cell name net → (before after : Nets)
      → get after (cell, name) ≡ Some net
      → ((q : ℕ × ℕ) → q ≢ (cell, name) → get after q ≡ get before q) → AreOn rec phys before
      → AddsPins rec phys cell (λ p. p ≡ name) before after
  adds_one one_holder cell name net on before after here others are = record {
    are_on = λ c p n has. truly c p n has (same_key c p cell name);
    kept = λ c p n has. keeps c p n has (same_key c p cell name);
    added = λ p n same is. at c_of p n refl same is;
  }
    where
      c_of : ℕ
      c_of = cell

      -- what is found under the key
      found : (c p : ℕ) → c ≡ cell → p ≡ name → get after (c, p) ≡ Some net
      found c p c_is p_is = ap (λ q. get after (q, p)) c_is ∙ ap (λ q. get after (cell, q)) p_is
          ∙ here

      moved : (c p : ℕ) (n : NetRef) → c ≡ cell → p ≡ name → IsPinOn rec phys c p n
          → IsPinOn rec phys cell name n
      moved c p n c_is p_is is = subst (λ q. IsPinOn rec phys cell q n) p_is
          (subst (λ q. IsPinOn rec phys q p n) c_is is)

      back : (c p : ℕ) (n : NetRef) → c ≡ cell → p ≡ name → IsPinOn rec phys cell name n
          → IsPinOn rec phys c p n
      back c p n c_is p_is is = subst (λ q. IsPinOn rec phys q p n) (sym c_is)
          (subst (λ q. IsPinOn rec phys cell q n) (sym p_is) is)

      truly : (c p : ℕ) (n : NetRef) → get after (c, p) ≡ Some n
          → ((c ≡ cell) × (p ≡ name)) ⊎ (key c p ≢ key cell name) → IsPinOn rec phys c p n
      truly c p n has (inl same) = back c p n same.0 same.1
          (subst (IsPinOn rec phys cell name)
          (same_Some net n (sym (found c p same.0 same.1) ∙ has)) on)
      truly c p n has (inr apart) = are c p n (sym (others (c, p) apart) ∙ has)

      at : (c p : ℕ) (n : NetRef) → c ≡ cell → p ≡ name → IsPinOn rec phys c p n
          → get after (c, p) ≡ Some n
      at c p n c_is p_is is = found c p c_is p_is ∙ ap Some (pin_is_one one_holder cell name net n
          on (moved c p n c_is p_is is))

      keeps : (c p : ℕ) (n : NetRef) → get before (c, p) ≡ Some n
          → ((c ≡ cell) × (p ≡ name)) ⊎ (key c p ≢ key cell name) → get after (c, p) ≡ Some n
      keeps c p n has (inl same) = at c p n same.0 same.1 (are c p n has)
      keeps c p n has (inr apart) = others (c, p) apart ∙ has

  -- none, where what is wanted is on no net
  pub adds_none : (cell : ℕ) (Wanted : ℕ → Type 0) (pins : Nets) → AreOn rec phys pins
      → ((pin : ℕ) (net : NetRef) → Wanted pin → IsPinOn rec phys cell pin net → ⊥)
      → AddsPins rec phys cell Wanted pins pins
  adds_none cell Wanted pins are none = record {
    are_on = are;
    kept = λ c p n has. has;
    added = λ p n wanted is. absurd (none p n wanted is);
  }

  -- some and then others
  pub adds_both : (cell : ℕ) (First Second Wanted : ℕ → Type 0) (a b c : Nets)
      → AddsPins rec phys cell First a b → AddsPins rec phys cell Second b c
      → ((pin : ℕ) (net : NetRef) → Wanted pin → IsPinOn rec phys cell pin net
      → First pin ⊎ Second pin) → AddsPins rec phys cell Wanted a c
  adds_both cell First Second Wanted a b c first second split = record {
    are_on = second.are_on;
    kept = λ q p n has. second.kept q p n (first.kept q p n has);
    added = λ p n wanted is. by p n is (split p n wanted is);
  }
    where
      by : (p : ℕ) (n : NetRef) → IsPinOn rec phys cell p n → First p ⊎ Second p
          → get c (cell, p) ≡ Some n
      by p n is (inl one) = second.kept cell p n (first.added p n one is)
      by p n is (inr other) = second.added p n other is

  pub adds_so : (cell : ℕ) (First Wanted : ℕ → Type 0) (a b : Nets)
      → AddsPins rec phys cell First a b
      → ((pin : ℕ) (net : NetRef) → Wanted pin → IsPinOn rec phys cell pin net → First pin)
      → AddsPins rec phys cell Wanted a b
  adds_so cell First Wanted a b first so = record {
    are_on = first.are_on;
    kept = first.kept;
    added = λ p n wanted is. first.added p n (so p n wanted is) is;
  }

  -- The pins of a placed cell.
  module _ (cell : ℕ) (placement : CellPlacement) (site t : ℕ)
      (at : IsPlacedAt rec phys cell placement site t) where
    pub type_there : type_at rec placement.site ≡ Some t
    type_there = ap (option_and_then (type_of_site rec)) at.site_is ∙ at.type_is

    -- a pin on a wire that a net holds
    pub is_on : (name pin wire : ℕ) (net : NetRef) → bel_pin_of rec placement name ≡ Some pin
        → in_type (wire_in pin) rec t ≡ Some wire → Holds rec phys.nets (Wire site wire) net
        → IsPinOn rec phys cell name net
    is_on name pin wire net pin_is wire_is holds = record {
      placement = placement;
      placement_is = at.placement_is;
      site = site;
      site_is = at.site_is;
      wire = wire;
      wire_is = ap (option_and_then (λ p. in_site rec placement.site (wire_in p))) pin_is
          ∙ in_site_is rec placement.site t type_there (wire_in pin) ∙ wire_is;
      holds = holds;
    }

    -- and what is told of one that is on a net
    pub on_wire : (name : ℕ) (net : NetRef) → IsPinOn rec phys cell name net
        → (wire : ℕ) × (wire_of_pin rec placement name ≡ Some wire)
        × Holds rec phys.nets (Wire site wire) net
    on_wire name net is =
        let same : is.placement ≡ placement =
        same_Some is.placement placement (sym is.placement_is ∙ at.placement_is) in
        let site_same : is.site ≡ site = same_Some is.site site (sym is.site_is
        ∙ ap (λ (p : CellPlacement). site_named rec p.site) same ∙ at.site_is) in (
          is.wire,
          sym (ap (λ (p : CellPlacement). wire_of_pin rec p name) same) ∙ is.wire_is,
          subst (λ s. Holds rec phys.nets (Wire s is.wire) net) site_same is.holds,
        )

    pub on_pin : (name : ℕ) (net : NetRef) → IsPinOn rec phys cell name net
        → (pin : ℕ) × (bel_pin_of rec placement name ≡ Some pin)
    on_pin name net is =
        let w = on_wire name net is in
        let p = chained (λ p. in_site rec placement.site (wire_in p))
        (bel_pin_of rec placement name) w.0 w.1 in
        (p.0, p.1)

    pub no_pin : (name : ℕ) (net : NetRef) → bel_pin_of rec placement name ≡ None
        → IsPinOn rec phys cell name net → ⊥
    no_pin name net none is = let p = on_pin name net is in none-some p.0 (sym none ∙ p.1)

    -- of a BEL pin that is known
    module _ (name pin : ℕ) (pin_is : bel_pin_of rec placement name ≡ Some pin) where
      wire_told : (net : NetRef) → IsPinOn rec phys cell name net
          → (wire : ℕ) × (in_type (wire_in pin) rec t ≡ Some wire)
          × Holds rec phys.nets (Wire site wire) net
      wire_told net is = let w = on_wire name net is in (
        w.0,
        sym (ap (option_and_then (λ p. in_site rec placement.site (wire_in p))) pin_is
            ∙ in_site_is rec placement.site t type_there (wire_in pin)) ∙ w.1,
        w.2,
      )

      pub no_wire : in_type (wire_in pin) rec t ≡ None → (net : NetRef)
          → IsPinOn rec phys cell name net → ⊥
      no_wire none net is = let w = wire_told net is in none-some w.0 (sym none ∙ w.1)

      pub no_holder : (wire : ℕ) → in_type (wire_in pin) rec t ≡ Some wire
          → TellsHolder rec phys.nets site wire None → (net : NetRef)
          → IsPinOn rec phys cell name net → ⊥
      no_holder wire wire_is told net is =
          let w = wire_told net is in
          let same : w.0 ≡ wire = same_Some w.0 wire (sym w.1 ∙ wire_is) in
          none-some net ((told net).1 (subst (λ v. Holds rec phys.nets (Wire site v) net) same w.2))

    abbrev as_input : ℕ → Bool
    as_input name = is_lut_input (lut_cell_of rec placement.ty) name

    -- by the device's pin map
    module _ (pins : Pins)
        (are : pins_at rec placement.ty placement.site placement.bel ≡ Some pins) where
      pub listed_pin : (i : ℕ) (e : ℕ × ℕ) → slice_get pins i ≡ Some e → as_input e.0 ≡ false
          → bel_pin_of rec placement e.0 ≡ Some e.1
      listed_pin i e stands other = by_device rec placement e.0 pins are other
          ∙ ap (option_map (λ (x : ℕ × ℕ). x.1))
          (listed_found rec placement.site t type_there placement.ty placement.bel pins are i e
          stands)

      -- each pin on a net that is no input is listed
      pub is_listed : (count : ℕ) → length pins ≤ count → (name : ℕ) (net : NetRef)
          → as_input name ≡ false → IsPinOn rec phys cell name net
          → IsListed rec placement pins count name
      is_listed count end name net other is =
          let p = on_pin name net is in
          let e = mapped (λ (x : ℕ × ℕ). x.1) (find (λ x. nat_eq x.0 name) pins) p.0
          (sym (by_device rec placement name pins are other) ∙ p.1) in
          let i = find_place (λ x. nat_eq x.0 name) pins e.0 e.1 in (
            other,
            i.0,
            e.0,
            (let less = slice_get_within pins i.0 e.0 i.1 in omega (arith, less, end)),
            i.1,
            eqb-true e.0.0 name i.2,
          )

      -- one pin of the list more
      pub listed_next : (j : ℕ) (e : ℕ × ℕ) (a b c : Nets) → slice_get pins j ≡ Some e
          → AddsPins rec phys cell (IsListed rec placement pins j) a b
          → AddsPins rec phys cell (λ p. p ≡ e.0) b c
          → AddsPins rec phys cell (IsListed rec placement pins (j + 1)) a c
      listed_next j e a b c stands before one = adds_both cell (IsListed rec placement pins j)
          (λ p. p ≡ e.0) (IsListed rec placement pins (j + 1)) a b c before one
          (λ p net is on. split p is (cases_lt is.1 j))
        where
          split : (p : ℕ) (is : IsListed rec placement pins (j + 1) p) → (is.1 < j) ⊎ (j ≤ is.1)
              → IsListed rec placement pins j p ⊎ (p ≡ e.0)
          split p is (inl less) = inl (is.0, is.1, is.2, less, is.4, is.5)
          split p is (inr le) =
              let lt = is.3 in
              let same : is.1 ≡ j = omega (arith, lt, le) in
              inr (sym is.5 ∙ ap (λ (x : ℕ × ℕ). x.0) (same_Some is.2 e (sym is.4
              ∙ ap (slice_get pins) same ∙ stands)))

      -- or an input, which isn't taken from it
      pub listed_passed : (j : ℕ) (e : ℕ × ℕ) (a b : Nets) → slice_get pins j ≡ Some e
          → as_input e.0 ≡ true → AddsPins rec phys cell (IsListed rec placement pins j) a b
          → AddsPins rec phys cell (IsListed rec placement pins (j + 1)) a b
      listed_passed j e a b stands input before = adds_so cell (IsListed rec placement pins j)
          (IsListed rec placement pins (j + 1)) a b before
          (λ p net is on. by p is (cases_lt is.1 j))
        where
          by : (p : ℕ) (is : IsListed rec placement pins (j + 1) p) → (is.1 < j) ⊎ (j ≤ is.1)
              → IsListed rec placement pins j p
          by p is (inl less) = (is.0, is.1, is.2, less, is.4, is.5)
          by p is (inr le) =
              let lt = is.3 in
              let same : is.1 ≡ j = omega (arith, lt, le) in
              let here : e.0 ≡ p = ap (λ (x : ℕ × ℕ). x.0) (same_Some e is.2 (sym stands
              ∙ ap (slice_get pins) (sym same) ∙ is.4)) ∙ is.5 in
              absurd (true≢false (sym input ∙ ap as_input here ∙ is.0))

      pub all_listed : (count : ℕ) → length pins ≤ count → (a b : Nets)
          → AddsPins rec phys cell (IsListed rec placement pins count) a b
          → AddsPins rec phys cell (λ p. as_input p ≡ false) a b
      all_listed count end a b all = adds_so cell (IsListed rec placement pins count)
          (λ p. as_input p ≡ false) a b all (λ p net other is. is_listed count end p net other is)

    -- no BEL there, or one that doesn't admit the cell
    pub none_listed : pins_at rec placement.ty placement.site placement.bel ≡ None → (a : Nets)
        → AreOn rec phys a → AddsPins rec phys cell (λ p. as_input p ≡ false) a a
    none_listed none a are = adds_none cell (λ p. as_input p ≡ false) a are
        (λ p net other is. no_pin p net (by_no_device rec placement p none other) is)

    -- an input that isn't mapped
    pub none_mapped : (name : ℕ) → as_input name ≡ true → pin_by_placement rec placement name ≡ None
        → (a : Nets) → AreOn rec phys a → AddsPins rec phys cell (λ p. p ≡ name) a a
    none_mapped name input none a are = adds_none cell (λ p. p ≡ name) a are
        (λ p net same is. no_pin name net (goes_by rec placement name true input ∙ none)
        (subst (λ q. IsPinOn rec phys cell q net) same is))

    -- the pin of one that is
    pub mapped_is : (name pin : ℕ) → as_input name ≡ true
        → pin_by_placement rec placement name ≡ Some pin → bel_pin_of rec placement name ≡ Some pin
    mapped_is name pin input is = goes_by rec placement name true input ∙ is

    -- Inputs of a LUT.
    module _ (lut : LutCell) (lut_is : lut_cell_of rec placement.ty ≡ Some lut) where
      input_so : (name : ℕ) → as_input name ≡ list_any (nat_eq name) lut.input_pins
      input_so name = ap (λ o. is_lut_input o name) lut_is

      pub stands_as_input : (j name : ℕ) → slice_get lut.input_pins j ≡ Some name
          → as_input name ≡ true
      stands_as_input j name stands = input_so name
          ∙ any_at (nat_eq name) lut.input_pins j name stands (eq-eqb name name refl)

      pub input_next : (j name : ℕ) (a b c : Nets) → slice_get lut.input_pins j ≡ Some name
          → AddsPins rec phys cell (IsInputAmong lut.input_pins j) a b
          → AddsPins rec phys cell (λ p. p ≡ name) b c
          → AddsPins rec phys cell (IsInputAmong lut.input_pins (j + 1)) a c
      input_next j name a b c stands before one = adds_both cell (IsInputAmong lut.input_pins j)
          (λ p. p ≡ name) (IsInputAmong lut.input_pins (j + 1)) a b c before one
          (λ p net is on. split p is (cases_lt is.0 j))
        where
          split : (p : ℕ) (is : IsInputAmong lut.input_pins (j + 1) p) → (is.0 < j) ⊎ (j ≤ is.0)
              → IsInputAmong lut.input_pins j p ⊎ (p ≡ name)
          split p is (inl less) = inl (is.0, less, is.2)
          split p is (inr le) =
              let lt = is.1 in
              let same : is.0 ≡ j = omega (arith, lt, le) in
              inr (same_Some p name (sym is.2 ∙ ap (slice_get lut.input_pins) same ∙ stands))

      pub all_inputs : (count : ℕ) → length lut.input_pins ≤ count → (a b : Nets)
          → AddsPins rec phys cell (IsInputAmong lut.input_pins count) a b
          → AddsPins rec phys cell (λ p. list_any (nat_eq p) lut.input_pins ≡ true) a b
      all_inputs count end a b all = adds_so cell (IsInputAmong lut.input_pins count)
          (λ p. list_any (nat_eq p) lut.input_pins ≡ true) a b all
          (λ p net has is. let i = any_place p lut.input_pins has in (
            i.0,
            (let less = slice_get_within lut.input_pins i.0 p i.1 in omega (arith, less, end)),
            i.1,
          ))

      -- all pins of a LUT
      pub lut_whole : (a b c : Nets)
          → AddsPins rec phys cell (λ p. list_any (nat_eq p) lut.input_pins ≡ true) a b
          → AddsPins rec phys cell (λ p. as_input p ≡ false) b c
          → AddsPins rec phys cell (λ p. Unit {0}) a c
      lut_whole a b c inputs others = adds_both cell
          (λ p. list_any (nat_eq p) lut.input_pins ≡ true) (λ p. as_input p ≡ false)
          (λ p. Unit {0}) a b c inputs others (λ p net u is. by p (as_input p) refl)
        where
          by : (p : ℕ) (b : Bool) → as_input p ≡ b
              → (list_any (nat_eq p) lut.input_pins ≡ true) ⊎ (as_input p ≡ false)
          by p true is = inl (sym (input_so p) ∙ is)
          by p false is = inr is

    -- and of a plain cell
    pub plain_whole : lut_cell_of rec placement.ty ≡ None → (a b : Nets)
        → AddsPins rec phys cell (λ p. as_input p ≡ false) a b
        → AddsPins rec phys cell (λ p. Unit {0}) a b
    plain_whole none a b all = adds_so cell (λ p. as_input p ≡ false) (λ p. Unit {0}) a b all
        (λ p net u is. ap (λ o. is_lut_input o p) none)

  -- A cell on no site.
  pub no_site : (cell : ℕ) (placement : CellPlacement)
      → slice_get phys.placements cell ≡ Some placement → site_named rec placement.site ≡ None
      → (a : Nets) → AreOn rec phys a → AddsPins rec phys cell (λ p. Unit {0}) a a
  no_site cell placement stands none a are = adds_none cell (λ p. Unit {0}) a are
      (λ p net u is. none-some is.site (sym none
      ∙ ap (λ (q : CellPlacement). site_named rec q.site)
      (same_Some placement is.placement (sym stands ∙ is.placement_is)) ∙ is.site_is))

  -- The pins of all cells.
  pub no_pins : (pins : Nets) → pins ≡ empty → ArePins rec phys 0 pins
  no_pins pins is = record {
    are_on = λ cell pin net has. absurd (none-some net (sym (ap (λ m. get m (cell, pin)) is
        ∙ get-empty pin_order (cell, pin)) ∙ has));
    all = λ cell pin net lt on. absurd (omega (arith, lt));
  }

  pub pins_next : (cell : ℕ) (a b : Nets) → ArePins rec phys cell a
      → AddsPins rec phys cell (λ p. Unit {0}) a b → ArePins rec phys (cell + 1) b
  pins_next cell a b are more = record {
    are_on = more.are_on;
    all = λ c pin net lt on. by c pin net on lt (cases_lt c cell);
  }
    where
      by : (c pin : ℕ) (net : NetRef) → IsPinOn rec phys c pin net → c < cell + 1
          → (c < cell) ⊎ (cell ≤ c) → get b (c, pin) ≡ Some net
      by c pin net on lt (inl less) = more.kept c pin net (are.all c pin net less on)
      by c pin net on lt (inr le) =
          let same : c ≡ cell = omega (arith, lt, le) in
          ap (λ q. get b (q, pin)) same
          ∙ more.added pin net tt (subst (λ q. IsPinOn rec phys q pin net) same on)

-- what follows where a call ends well
pub on_ok : {X E P Q : Type 0} (r : Result X E) → (P → Q) → OnOk r P → OnOk r Q
on_ok (Ok x) f p = f p
on_ok (Err e) f p = tt
