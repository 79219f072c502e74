-- The numbers of a design that a netlist realizes are in range.
use Rattle.std.proofs.Common.{◌≡◌, ◌<◌, ◌∙◌, refl, ap, sym, subst, ℕ, zero, suc, arith, inl, inr}
use Rattle.std.proofs.Common.{List, [], ◌∷◌, length, take, slice_get, Option, Some, None}
use Rattle.std.proofs.Common.{option_map, Bool, true, false, if◌then◌else◌, IfSome, true≢false}
use Rattle.std.specs.Prelude.{nat_eq, Result, Ok, Err, IfOk}
use Rattle.std.specs.List.{All, filter, find}
use Rattle.std.proofs.lemmas.Bool.{eqb-true}
use Rattle.std.proofs.lemmas.List.{length-map}
use Rattle.std.proofs.lemmas.Option.{none-some, same_Some, slice_get_within, slice_get-map}
use Rattle.std.proofs.lemmas.Option.{get_or_from_slice_get}
use Rattle.ix_message.specs.Shape.{Text}
use Rattle.ix_num.specs.declared.resource.NetRef.{NetRef}
use Rattle.ix_num.specs.declared.resource.Res.TheVariants.{Wire}
use Rattle.ix_phys_write.specs.Record.{IsPhysNamed, IsMappingNamed, IsPlacementNamed, IsNetNamed}
use Rattle.ix_rec.specs.Maps.{pin_order, pin_order_total}
use Rattle.ix_rec.specs.declared.device.DeviceRec.{DeviceRec}
use Rattle.ix_rec.specs.declared.flow.Flat.{Flat}
use Rattle.ix_rec.specs.declared.flow.FlatCell.{FlatCell}
use Rattle.ix_rec.specs.declared.flow.FlatNet.{FlatNet}
use Rattle.ix_rec.specs.declared.phys.CellPlacement.{CellPlacement}
use Rattle.ix_rec.specs.declared.phys.NetType.{NetType}
use Rattle.ix_rec.specs.declared.phys.NetType.TheVariants.{Signal, Gnd, Vcc}
use Rattle.ix_rec.specs.declared.phys.Phys.{Phys}
use Rattle.ix_rec.specs.declared.phys.PhysNet.{PhysNet}
use Rattle.ix_rec.specs.declared.phys.PinMapping.{PinMapping}
use Rattle.ix_device.specs.Lookups.{sites_of, wire_in}
use Rattle.ix_device.proofs.OptionLemmas.{position-at}
use Rattle.ix_device_read.specs.Named.{DeviceNamed}
use Rattle.ix_flat.specs.Range.{IsCellOf, IsNetOf, IsDriverOf, IsDriverNamed, IsInRange, IsNamed}
use Rattle.ix_legal.specs.Holders.{Holds, as_holder, is_of_type, nets_of_type}
use Rattle.ix_legal.specs.Sites.{in_site, lut_cell_of, pins_at, bel_pin_at}
use Rattle.ix_ends.proofs.Items.{mapped, chained}
use Rattle.ix_extract.specs.Extracted.{IsExtracted, IsPinOn, TellsDesign, bel_pin_of, by_map}
use Rattle.ix_extract.specs.Extracted.{cell_of, is_lut_input, net_of}
use Rattle.ix_extract.proofs.Entries.{every_entry}
use Rattle.ix_extract.proofs.Finding.{Pins, find_place, goes_by, is_admitted, pins_named}

-- Items that pass a test.
module _ {A : Type 0} (p : A → Bool) where
  -- fewer of them stand before one of them than in all
  pub fewer_before : (xs : List A) (n : ℕ) (x : A) → slice_get xs n ≡ Some x → p x ≡ true
      → length (filter p (take n xs)) < length (filter p xs)
  fewer_before [] n x at passes = absurd (none-some x at)
  fewer_before (y ∷ ys) zero x at passes = by (p y) (ap p (same_Some y x at) ∙ passes)
    where
      by : (b : Bool) → b ≡ true → 0 < length (if b then y ∷ filter p ys else filter p ys)
      by true h = omega arith
      by false h = absurd (true≢false (sym h))
  fewer_before (y ∷ ys) (suc n) x at passes = by (p y) (fewer_before ys n x at passes)
    where
      by : (b : Bool) → length (filter p (take n ys)) < length (filter p ys)
          → length (if b then y ∷ filter p (take n ys) else filter p (take n ys))
          < length (if b then y ∷ filter p ys else filter p ys)
      by true h = omega (arith, h)
      by false h = h

  -- and each is an item of the list
  pub passing_item : (xs : List A) (n : ℕ) (x : A) → slice_get (filter p xs) n ≡ Some x
      → (i : ℕ) × (slice_get xs i ≡ Some x)
  passing_item [] n x at = absurd (none-some x at)
  passing_item (y ∷ ys) n x at = by (p y) n at (passing_item ys)
    where
      by : (b : Bool) (n : ℕ) → slice_get (if b then y ∷ filter p ys else filter p ys) n ≡ Some x
          → ((n : ℕ) (x : A) → slice_get (filter p ys) n ≡ Some x
          → (i : ℕ) × (slice_get ys i ≡ Some x))
          → (i : ℕ) × (slice_get (y ∷ ys) i ≡ Some x)
      by true zero h rest = (0, h)
      by true (suc n) h rest = let r = rest n x h in (suc r.0, r.1)
      by false n h rest = let r = rest n x h in (suc r.0, r.1)

-- an item of a list of which all are so
all_at : {A : Type 0} (P : A → Type 0) (xs : List A) (i : ℕ) (x : A) → All P xs
    → slice_get xs i ≡ Some x → P x
all_at P xs i x all at = subst P (get_or_from_slice_get xs i x x at)
    (all i x (slice_get_within xs i x at))

module _ (names : List Text) (rec : DeviceRec) (phys : Phys) (flat : Flat)
    (is : IsExtracted names rec phys flat) where
  cell_inside : (cell : ℕ) (placement : CellPlacement)
      → slice_get phys.placements cell ≡ Some placement → IsCellOf flat cell
  cell_inside cell placement at =
      let less = slice_get_within phys.placements cell placement at in
      let all : length flat.cells ≡ length phys.placements = ap length is.cells
      ∙ length-map phys.placements cell_of in
      omega (arith, less, all)

  net_inside : (cell pin : ℕ) (net : NetRef) → IsPinOn rec phys cell pin net → IsNetOf flat net
  net_inside cell pin net on = by on.holds
    where
      of_type : (n : ℕ) (its : PhysNet) → slice_get phys.nets n ≡ Some its → (ty : NetType)
          → its.ty ≡ ty → IsNetOf flat (as_holder phys.nets n ty)
      of_type n its at Gnd of = tt
      of_type n its at Vcc of = tt
      of_type n its at Signal of =
          let less = fewer_before (λ (m : PhysNet). is_of_type Signal m.ty) phys.nets n its at
          (ap (is_of_type Signal) of) in
          let all : length flat.nets ≡ length (nets_of_type Signal phys.nets) =
          ap length is.nets ∙ length-map (nets_of_type Signal phys.nets) net_of in
          omega (arith, less, all)

      by : Holds rec phys.nets (Wire on.site on.wire) net → IsNetOf flat net
      by (inl h) = subst (IsNetOf flat) h.holder_is (of_type h.number h.net h.net_is h.net.ty refl)
      by (inr h) = absurd (none-some net h)

  -- a net of the design is one of the netlist's
  its_net : (n : ℕ) (net : FlatNet) → slice_get flat.nets n ≡ Some net
      → (i : ℕ) × (its : PhysNet) × (slice_get phys.nets i ≡ Some its) × (net_of its ≡ net)
  its_net n net at =
      let its = mapped net_of (slice_get (nets_of_type Signal phys.nets) n) net
      (sym (slice_get-map net_of (nets_of_type Signal phys.nets) n)
      ∙ ap (λ (l : List FlatNet). slice_get l n) (sym is.nets) ∙ at) in
      let i = passing_item (λ (m : PhysNet). is_of_type Signal m.ty) phys.nets n its.0 its.1 in
      (i.0, its.0, i.1, its.2)

  its_cell : (q : ℕ) (cell : FlatCell) → slice_get flat.cells q ≡ Some cell
      → (its : CellPlacement) × (slice_get phys.placements q ≡ Some its) × (cell_of its ≡ cell)
  its_cell q cell at = mapped cell_of (slice_get phys.placements q) cell
      (sym (slice_get-map cell_of phys.placements q)
      ∙ ap (λ (l : List FlatCell). slice_get l q) (sym is.cells) ∙ at)

  pub in_range : IsInRange rec flat
  in_range = record {
    numbers = record {
      ports = (let none = is.ports in omega (arith, none));
      drivers = λ n net at. let its = its_net n net at in
          subst (λ (m : FlatNet). IsDriverOf flat m.driver) its.3 tt;
      pins = every_entry pin_order pin_order_total
          (λ entry. IsCellOf flat entry.0.0 × IsNetOf flat entry.1) flat.pins
          (λ k net has. let on = (is.pins k.0 k.1 net).0 has in
          (cell_inside k.0 on.placement on.placement_is, net_inside k.0 k.1 net on));
      tables = λ cell table has. let on = (is.tables cell table).0 has in
          cell_inside cell on.placement on.placement_is;
      fixed = λ cell site has. let on = (is.fixed cell site).0 has in
          cell_inside cell on.placement on.placement_is;
    };
    sites = λ cell site has.
        let on = (is.fixed cell site).0 has in
        let at = position-at (λ s. nat_eq s.1.name on.placement.site) (sites_of rec) site on.site_is
        in slice_get_within (sites_of rec) site at.0 at.1;
  }

  -- Names.
  module _ (phys_named : IsPhysNamed names phys) (device_named : DeviceNamed (length names) rec)
    where
      placement_named : (q : ℕ) (its : CellPlacement) → slice_get phys.placements q ≡ Some its
          → IsPlacementNamed names its
      placement_named q its at =
          all_at (IsPlacementNamed names) phys.placements q its phys_named.placements at

      pin_named : (cell pin : ℕ) (net : NetRef) → IsPinOn rec phys cell pin net
          → pin < length names
      pin_named cell pin net on =
          let p = chained (λ p. in_site rec on.placement.site (wire_in p))
          (bel_pin_of rec on.placement pin) on.wire on.wire_is in
          by p.0 (is_lut_input (lut_cell_of rec on.placement.ty) pin)
          (sym (goes_by rec on.placement pin (is_lut_input (lut_cell_of rec on.placement.ty) pin)
          refl) ∙ p.1)
        where
          by : (p : ℕ) (b : Bool) → by_map b rec on.placement pin ≡ Some p → pin < length names
          by p true h =
              let e = chained (λ (e : PinMapping). bel_pin_at rec on.placement.site e.bel e.bel_pin)
              (find (λ e. nat_eq e.cell_pin pin) on.placement.pin_map) p h in
              let i = find_place (λ (e : PinMapping). nat_eq e.cell_pin pin) on.placement.pin_map
              e.0 e.1 in
              subst (λ k. k < length names) (eqb-true e.0.cell_pin pin i.2)
              (all_at (IsMappingNamed names) on.placement.pin_map i.0 e.0
              (placement_named cell on.placement on.placement_is).pin_map i.1).cell_pin
          by p false h =
              let pins = chained (λ (l : Pins). option_map (λ e. e.1)
              (find (λ e. nat_eq e.0 pin) l))
              (pins_at rec on.placement.ty on.placement.site on.placement.bel) p h in
              let e = mapped (λ (e : ℕ × ℕ). e.1) (find (λ e. nat_eq e.0 pin) pins.0) p pins.2 in
              let i = find_place (λ (e : ℕ × ℕ). nat_eq e.0 pin) pins.0 e.0 e.1 in
              let a = is_admitted rec on.placement.ty on.placement.site on.placement.bel pins.0
              pins.1 in
              subst (λ k. k < length names) (eqb-true e.0.0 pin i.2)
              (pins_named (length names) rec on.placement.ty a.b a.ty device_named pins.0 a.pins_are
              i.0 e.0 i.1)

      pub is_named : IsNamed (length names) flat
      is_named = record {
        cells = λ q cell at. let its = its_cell q cell at in
            subst (λ (c : FlatCell). c.name < length names) its.2
            (placement_named q its.0 its.1).cell_name;
        types = λ q cell at. let its = its_cell q cell at in
            subst (λ (c : FlatCell). c.ty < length names) its.2
            (placement_named q its.0 its.1).ty;
        nets = λ n net at. let its = its_net n net at in
            subst (λ (m : FlatNet). m.name < length names) its.3
            (all_at (IsNetNamed names) phys.nets its.0 its.1 phys_named.nets its.2).name;
        pins = every_entry pin_order pin_order_total (λ entry. entry.0.1 < length names) flat.pins
            (λ k net has. pin_named k.0 k.1 net ((is.pins k.0 k.1 net).0 has));
        drivers = λ n net at. let its = its_net n net at in
            subst (λ (m : FlatNet). IsDriverNamed (length names) m.driver) its.3 tt;
      }

-- of what is told
pub told_in_range : {E : Type 0} (names : List Text) (rec : DeviceRec) (phys : Phys)
    (r : Result (Option Flat) E) → IfOk r (TellsDesign names rec phys)
    → IfOk r (λ told. IfSome told (IsInRange rec))
told_in_range names rec phys (Err e) told = tt
told_in_range names rec phys (Ok None) told = tt
told_in_range names rec phys (Ok (Some flat)) told = in_range names rec phys flat told

pub told_named : {E : Type 0} (names : List Text) (rec : DeviceRec) (phys : Phys)
    → IsPhysNamed names phys → DeviceNamed (length names) rec → (r : Result (Option Flat) E)
    → IfOk r (TellsDesign names rec phys)
    → IfOk r (λ told. IfSome told (IsNamed (length names)))
told_named names rec phys named device (Err e) told = tt
told_named names rec phys named device (Ok None) told = tt
told_named names rec phys named device (Ok (Some flat)) told =
    is_named names rec phys flat told named device
