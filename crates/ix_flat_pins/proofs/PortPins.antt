-- Pins of port cells.
use Rattle.std.proofs.Common.{◌≡◌, ◌<◌, ◌+◌, ap, refl, sym, subst, ◌∙◌, ℕ, List, true, false, Option, Some, None, arith, inl, inr, take, count_by}
use Rattle.std.specs.Prelude.{◌↔◌, slice_get, IsTrue}
use Rattle.std.proofs.lemmas.Bool.{cases_lt}
use Rattle.ix_rec.specs.declared.device.Direction.{Direction}
use Rattle.ix_rec.specs.declared.device.Direction.TheVariants.{Input, Output, Inout}
use Rattle.ix_rec.specs.declared.netlist.NetlistRec.{NetlistRec}
use Rattle.ix_rec.specs.declared.netlist.Port.{Port}
use Rattle.ix_hierarchy.specs.Nets.{Occurrence}
use Rattle.ix_hierarchy.specs.Pins.{Pin, TopPin, IsOn, IsOnNet, IsTopBit, IsTopPin}
use Rattle.ix_joined.specs.declared.joined.Joined.{Joined}
use Rattle.ix_joined.specs.declared.top_bit.TopBit.{TopBit}
use Rattle.ix_joined.specs.Joining.{ArePlaces, IsBitOf, IsFirstNet, IsPinOf, Known, TopPlace, top_places}
use Rattle.ix_joined.specs.Roles.{role_towards}
use Rattle.ix_flat_lists.specs.declared.port_names.PortNames.{PortNames}
use Rattle.ix_wiring.specs.declared.flat_pin.FlatPin.{FlatPin}
use Rattle.ix_flat_pins.specs.Items.{Adds, IsJust, IsPinOfPort, Parts, is_driver, is_typed}
use Rattle.ix_flat_pins.proofs.Adding.{adds_as, adds_more, adds_none}

some_in : {X : Type 0} (x y : X) → Some x ≡ Some y → x ≡ y
some_in x y e = cc

none_some : {X : Type 0} (x : X) → None ≡ Some x → ⊥
none_some x e = cc

no_true : false ≡ true → ⊥
no_true e = cc

pub adds_off : (known : Known) (design : NetlistRec) (parts : Parts) (R : Pin → ℕ → Type 0) (items : List FlatPin)
    → ((pin : Pin) (cell : ℕ) (at : Occurrence) → R pin cell → IsOnNet design pin at → ⊥)
    → Adds known design parts R items items
adds_off known design parts R items none =
    adds_as known design parts (λ pin cell. ⊥) R items items (λ pin cell h. absurd h)
    (λ pin cell at r on. none pin cell at r on)
    (adds_none known design parts (λ pin cell. ⊥) items (λ pin cell h. h))

pub off_net : (known : Known) (design : NetlistRec) (joined : Joined) (at : TopPlace) (bit : TopBit) (o : Option ℕ)
    → IsBitOf design joined.instances.items known.paths joined.firsts.items at bit → bit.net ≡ o → o ≡ None
    → (there : Occurrence) → IsOn design (TopPin at.place at.index) there → ⊥
off_net known design joined at bit o is e none there on =
    (subst (λ (x : Option ℕ). IsFirstNet design joined.instances.items known.paths joined.firsts.items (TopPin at.place at.index) x) (e ∙ none) is.net_is) there on

pub on_net : (known : Known) (design : NetlistRec) (joined : Joined) (at : TopPlace) (bit : TopBit) (net : ℕ)
    → IsBitOf design joined.instances.items known.paths joined.firsts.items at bit → bit.net ≡ Some net
    → IsPinOf design joined.instances.items known.paths joined.firsts.items (TopPin at.place at.index) net
on_net known design joined at bit net is e =
    subst (λ (x : Option ℕ). IsFirstNet design joined.instances.items known.paths joined.firsts.items (TopPin at.place at.index) x) e is.net_is

same_port : (design : NetlistRec) (place index number other : ℕ) (a b : Port) → IsTopBit design place index number a
    → IsTopBit design place index other b → a ≡ b
same_port design place index number other a b x y =
    let numbers : number ≡ other = some_in number other (sym x.which ∙ y.which) in
    some_in a b (sym x.port_is ∙ ap (slice_get design.port_list) numbers ∙ y.port_is)

dir_drives : (design : NetlistRec) (place index number : ℕ) (port : Port) → IsTopBit design place index number port
    → (d : Direction) → port.dir ≡ d → IsTrue (is_driver (role_towards d)) ↔ IsTopPin design Input place index
dir_drives design place index number port bit Input e =
    ((λ h. record { number = number; port = port; bit = bit; towards = e }), (λ p. refl))
dir_drives design place index number port bit Output e =
    ((λ h. absurd (no_true h)), (λ p. absurd (other (sym (ap (λ (x : Port). x.dir) (same_port design place index p.number number p.port port p.bit bit) ∙ e) ∙ p.towards))))
  where
    other : Output ≡ Input → ⊥
    other e = cc
dir_drives design place index number port bit Inout e =
    ((λ h. absurd (no_true h)), (λ p. absurd (other (sym (ap (λ (x : Port). x.dir) (same_port design place index p.number number p.port port p.bit bit) ∙ e) ∙ p.towards))))
  where
    other : Inout ≡ Input → ⊥
    other e = cc

pub top_drives : (design : NetlistRec) (k : ℕ) (at : TopPlace) (dir : Direction) → ArePlaces design (top_places design)
    → slice_get (top_places design) k ≡ Some at → dir ≡ at.dir
    → IsTrue (is_driver (role_towards dir)) ↔ IsTopPin design Input at.place at.index
top_drives design k at dir are is e =
    let p = are.each k at is in
    dir_drives design at.place at.index at.number p.0 p.1 dir (p.2 ∙ sym e)

pub ports_more : (known : Known) (design : NetlistRec) (parts : Parts) (types : PortNames) (bits : List TopBit) (k cell : ℕ)
    (bit : TopBit) (place : TopPlace) (old mid new : List FlatPin) → slice_get bits k ≡ Some bit
    → is_typed types bit ≡ true → slice_get (top_places design) k ≡ Some place
    → cell ≡ count_by (is_typed types) (take k bits)
    → Adds known design parts (IsPinOfPort design types bits k) old mid
    → Adds known design parts (IsJust (TopPin place.place place.index) cell) mid new
    → Adds known design parts (IsPinOfPort design types bits (k + 1)) old new
ports_more known design parts types bits k cell bit place old mid new bit_is typed place_is cell_is so_far more =
    adds_more known design parts (IsPinOfPort design types bits k) (IsJust (TopPin place.place place.index) cell)
    (IsPinOfPort design types bits (k + 1)) old mid new
    (λ pin c r. elim (cases_lt r.k k) [
      | inl less ↦ inl (record {
        k = r.k;
        low = less;
        bit = r.bit;
        bit_is = r.bit_is;
        typed = r.typed;
        place = r.place;
        place_is = r.place_is;
        pin_is = r.pin_is;
        cell_is = r.cell_is;
      })
      | inr ge ↦
          let here : r.k ≡ k = omega (arith, r.low) in
          let same : r.place ≡ place = some_in r.place place (sym r.place_is ∙ ap (slice_get (top_places design)) here ∙ place_is) in
          inr (
            r.pin_is ∙ ap (λ (p : TopPlace). TopPin p.place p.index) same,
            r.cell_is ∙ ap (λ (n : ℕ). count_by (is_typed types) (take n bits)) here ∙ sym cell_is,
          )
    ])
    (λ pin c r. record {
      k = r.k;
      low = omega (arith, r.low);
      bit = r.bit;
      bit_is = r.bit_is;
      typed = r.typed;
      place = r.place;
      place_is = r.place_is;
      pin_is = r.pin_is;
      cell_is = r.cell_is;
    })
    (λ pin c j. record {
      k = k;
      low = omega arith;
      bit = bit;
      bit_is = bit_is;
      typed = typed;
      place = place;
      place_is = place_is;
      pin_is = j.0;
      cell_is = j.1 ∙ cell_is;
    })
    so_far more

pub ports_same : (known : Known) (design : NetlistRec) (parts : Parts) (types : PortNames) (bits : List TopBit) (k : ℕ)
    (bit : TopBit) (old new : List FlatPin) → slice_get bits k ≡ Some bit → is_typed types bit ≡ false
    → Adds known design parts (IsPinOfPort design types bits k) old new
    → Adds known design parts (IsPinOfPort design types bits (k + 1)) old new
ports_same known design parts types bits k bit old new bit_is untyped so_far =
    adds_as known design parts (IsPinOfPort design types bits k) (IsPinOfPort design types bits (k + 1)) old new
    (λ pin c r. record {
      k = r.k;
      low = omega (arith, r.low);
      bit = r.bit;
      bit_is = r.bit_is;
      typed = r.typed;
      place = r.place;
      place_is = r.place_is;
      pin_is = r.pin_is;
      cell_is = r.cell_is;
    })
    (λ pin c at r on. elim (cases_lt r.k k) [
      | inl less ↦ record {
        k = r.k;
        low = less;
        bit = r.bit;
        bit_is = r.bit_is;
        typed = r.typed;
        place = r.place;
        place_is = r.place_is;
        pin_is = r.pin_is;
        cell_is = r.cell_is;
      }
      | inr ge ↦
          let here : r.k ≡ k = omega (arith, r.low) in
          let same : r.bit ≡ bit = some_in r.bit bit (sym r.bit_is ∙ ap (slice_get bits) here ∙ bit_is) in
          absurd (no_true (sym untyped ∙ ap (is_typed types) (sym same) ∙ r.typed))
    ])
    so_far

pub ports_none : (known : Known) (design : NetlistRec) (parts : Parts) (types : PortNames) (bits : List TopBit) (items : List FlatPin)
    → Adds known design parts (IsPinOfPort design types bits 0) items items
ports_none known design parts types bits items =
    adds_none known design parts (IsPinOfPort design types bits 0) items (λ pin c r. none r.low)
  where
    none : {k : ℕ} → k < 0 → ⊥
    none h = omega arith

pub none_from : (o : Option ℕ) → ((x : ℕ) → o ≡ Some x → ⊥) → o ≡ None
none_from None f = refl
none_from (Some x) f = absurd (f x refl)
