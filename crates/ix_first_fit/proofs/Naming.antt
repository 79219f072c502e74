-- The names in a netlist are those of the device and of the cells.
use Rattle.std.proofs.Common.{◌≡◌, refl, ap, sym, subst, ◌∙◌, ℕ, ◌+◌, ◌<◌, List, [], ◌∷◌, ◌++◌, map, length, slice_get, Option, Some, None, Bool, true, false, ◌&&◌, cond, nat_eq, option_map, option_and_then, arith}
use Rattle.std.specs.List.{AllByRecursion, All, find}
use Rattle.std.proofs.lemmas.List.Elements.{All-from_recursion}
use Rattle.std.proofs.lemmas.List.Sorted.{All-permutation}
use Rattle.std.proofs.lemmas.Option.{same_Some, none-some, slice_get_within, slice_get-get_or, slice_get-map, get_or_from_slice_get, cond_some}
use Rattle.ix_message.specs.Shape.{Text}
use Rattle.ix_rec.specs.declared.device.DeviceRec.{DeviceRec}
use Rattle.ix_rec.specs.declared.device.SiteType.{SiteType}
use Rattle.ix_rec.specs.declared.device.Bel.{Bel}
use Rattle.ix_rec.specs.declared.device.BelPin.{BelPin}
use Rattle.ix_rec.specs.declared.device.Tile.{Tile}
use Rattle.ix_rec.specs.declared.device.Site.{Site}
use Rattle.ix_rec.specs.declared.device.CellBelMapping.{CellBelMapping}
use Rattle.ix_rec.specs.declared.device.CommonCellBelPinMaps.{CommonCellBelPinMaps}
use Rattle.ix_rec.specs.declared.device.CellBelPinEntry.{CellBelPinEntry}
use Rattle.ix_rec.specs.declared.phys.PinMapping.{PinMapping}
use Rattle.ix_rec.specs.declared.phys.CellPlacement.{CellPlacement}
use Rattle.ix_rec.specs.declared.phys.SiteInstance.{SiteInstance}
use Rattle.ix_rec.specs.declared.phys.Phys.{Phys}
use Rattle.ix_rec.specs.declared.flow.FlatCell.{FlatCell}
use Rattle.ix_device.specs.Lookups.{sites_from, sites_of, name_of_site, type_of_site}
use Rattle.ix_device.specs.Admission.{pins_in, admitted, first_map, lists_bel, is_logic, fits_bel, takes_lut, numbered_pins}
use Rattle.ix_device_read.specs.Named.{DeviceNamed, SiteTypeNamed, BelNamed, BelPinNamed, TileNamed, SiteNamed, CellBelMappingNamed, CommonCellBelPinMapsNamed, CellBelPinEntryNamed}
use Rattle.ix_phys_write.specs.Record.{IsMappingNamed, IsPlacementNamed, IsInstanceNamed, IsNetNamed, IsPropertyNamed, IsPhysNamed}
use Rattle.ix_first_fit.specs.declared.cell.Spot.{Spot}
use Rattle.ix_first_fit.specs.Spots.{type_at, pins_at}
use Rattle.ix_first_fit.specs.Netlist.{bel_name, pin_told, pin_in, pin_wanted, IsPinMap, IsPlacement, used_sites, instance_told, instance_wanted}
use Rattle.ix_first_fit.specs.Answers.{IsFitted}
use Rattle.ix_first_fit.specs.Named.{CellNamed}
use Rattle.ix_first_fit.proofs.Walks.{at_place}
use Rattle.ix_first_fit.proofs.Netlists.{item_at}

all_at : {A : Type 0} (P : A → Type 0) (xs : List A) → ((k : ℕ) (x : A) → slice_get xs k ≡ Some x → P x) → All P xs
all_at P xs h k d lt = h k _ (slice_get-get_or xs k d lt)

at_index : {A : Type 0} (P : A → Type 0) (xs : List A) (k : ℕ) (x : A) → All P xs → slice_get xs k ≡ Some x → P x
at_index P xs k x all at = subst P (get_or_from_slice_get xs k x x at) (all k x (slice_get_within xs k x at))

found_keeps : {A : Type 0} (P : A → Type 0) (test : A → Bool) (xs : List A) (x : A) → AllByRecursion P xs → find test xs ≡ Some x → P x
found_keeps P test [] x all h = absurd (none-some x h)
found_keeps P test (y ∷ ys) x all h = by (test y) h (found_keeps P test ys x all.1)
  where
    by : (b : Bool) → cond b (Some y) (find test ys) ≡ Some x → (find test ys ≡ Some x → P x) → P x
    by true e later = subst P (same_Some y x e) all.0
    by false e later = later e

all_append : {A : Type 0} (P : A → Type 0) (xs ys : List A) → AllByRecursion P xs → AllByRecursion P ys → AllByRecursion P (xs ++ ys)
all_append P [] ys a b = b
all_append P (x ∷ xs) ys a b = (a.0, all_append P xs ys a.1 b)

-- the two lists say the same at each place
same_at : {A B C : Type 0} (f : A → C) (g : B → C) (xs : List A) (ys : List B) (k : ℕ) (x : A) → map f xs ≡ map g ys → slice_get xs k ≡ Some x → (y : B) × (slice_get ys k ≡ Some y) × (f x ≡ g y)
same_at {A} {B} {C} f g xs ys k x h at = by (slice_get ys k) refl (sym (ap (option_map f) at) ∙ sym (slice_get-map f xs k) ∙ ap (λ l. slice_get l k) h ∙ slice_get-map g ys k)
  where
    by : (o : Option B) → slice_get ys k ≡ o → Some (f x) ≡ option_map g o → (y : B) × (slice_get ys k ≡ Some y) × (f x ≡ g y)
    by None e s = absurd (none-some (f x) (sym s))
    by (Some y) e s = (y, e, same_Some (f x) (g y) s)

sites_mapped : (n tile : ℕ) (sites : List Site) → AllByRecursion (SiteNamed n) sites → AllByRecursion (λ (s : ℕ × Site). s.1.name < n) (map (λ s. (tile, s)) sites)
sites_mapped n tile [] all = tt
sites_mapped n tile (s ∷ ss) all = (all.0.name, sites_mapped n tile ss all.1)

sites_named : (n first : ℕ) (tiles : List Tile) → AllByRecursion (TileNamed n) tiles → AllByRecursion (λ (s : ℕ × Site). s.1.name < n) (sites_from first tiles)
unfolding sites_from
sites_named n first [] all = tt
sites_named n first (t ∷ ts) all = all_append (λ (s : ℕ × Site). s.1.name < n) (map (λ s. (first, s)) t.sites) (sites_from (first + 1) ts) (sites_mapped n first t.sites all.0.sites) (sites_named n (first + 1) ts all.1)

site_below : (n : ℕ) (rec : DeviceRec) (site name : ℕ) → DeviceNamed n rec → name_of_site rec site ≡ Some name → name < n
site_below n rec site name named h = by (slice_get (sites_of rec) site) refl h
  where
    by : (o : Option (ℕ × Site)) → slice_get (sites_of rec) site ≡ o → option_map (λ s. s.1.name) o ≡ Some name → name < n
    by None e g = absurd (none-some name g)
    by (Some s) e g = subst (λ x. x < n) (same_Some s.1.name name g) (at_place (λ (s : ℕ × Site). s.1.name < n) (sites_of rec) site s (sites_named n 0 rec.tile_list named.tile_list) e)

type_named : (n : ℕ) (rec : DeviceRec) (site : ℕ) (u : SiteType) → DeviceNamed n rec → type_at rec site ≡ Some u → SiteTypeNamed n u
unfolding type_at
type_named n rec site u named h = by (type_of_site rec site) h
  where
    by : (o : Option ℕ) → option_and_then (λ t. slice_get rec.site_type_list t) o ≡ Some u → SiteTypeNamed n u
    by None g = absurd (none-some u g)
    by (Some t) g = at_place (SiteTypeNamed n) rec.site_type_list t u named.site_type_list g

bel_below : (n : ℕ) (rec : DeviceRec) (p : Spot) (name : ℕ) → DeviceNamed n rec → bel_name rec p ≡ Some name → name < n
bel_below n rec p name named h = by (type_at rec p.site) refl h
  where
    in_type : (u : SiteType) → SiteTypeNamed n u → (o : Option Bel) → slice_get u.bels p.bel ≡ o → option_map (λ b. b.name) o ≡ Some name → name < n
    in_type u is None e g = absurd (none-some name g)
    in_type u is (Some b) e g = subst (λ x. x < n) (same_Some b.name name g) (at_place (BelNamed n) u.bels p.bel b is.bels e).name

    by : (o : Option SiteType) → type_at rec p.site ≡ o → option_and_then (λ t. option_map (λ b. b.name) (slice_get t.bels p.bel)) o ≡ Some name → name < n
    by None e g = absurd (none-some name g)
    by (Some u) e g = in_type u (type_named n rec p.site u named e) (slice_get u.bels p.bel) refl g

entries_named : (n : ℕ) (t : SiteType) (bel : ℕ) (pins : List CellBelPinEntry) → AllByRecursion (CellBelPinEntryNamed n) pins → AllByRecursion (λ (pin : ℕ × ℕ). pin.0 < n) (numbered_pins t bel pins)
entries_named n t bel [] all = tt
entries_named n t bel (e ∷ es) all = (all.0.cell_pin, entries_named n t bel es all.1)

map_named : (n : ℕ) (rec : DeviceRec) (ty : ℕ) (t : SiteType) (bel : ℕ) (m : CommonCellBelPinMaps) → DeviceNamed n rec → first_map rec ty t bel ≡ Some m → CommonCellBelPinMapsNamed n m
map_named n rec ty t bel m named h = by (find (λ m. nat_eq m.cell ty) rec.cell_bel_map) refl h
  where
    by : (o : Option CellBelMapping) → find (λ m. nat_eq m.cell ty) rec.cell_bel_map ≡ o → option_and_then (λ m. find (lists_bel t bel) m.common_pins) o ≡ Some m → CommonCellBelPinMapsNamed n m
    by None e g = absurd (none-some m g)
    by (Some c) e g = found_keeps (CommonCellBelPinMapsNamed n) (lists_bel t bel) c.common_pins m (found_keeps (CellBelMappingNamed n) (λ m. nat_eq m.cell ty) rec.cell_bel_map c named.cell_bel_map e).common_pins g

given_named : (n : ℕ) (rec : DeviceRec) (ty bel : ℕ) (t : SiteType) (given : List (ℕ × ℕ)) → DeviceNamed n rec → pins_in rec ty bel t ≡ Some given → AllByRecursion (λ (pin : ℕ × ℕ). pin.0 < n) given
unfolding pins_in
given_named n rec ty bel t given named h = by (slice_get t.bels bel) h
  where
    in_map : (b : Bel) (o : Option CommonCellBelPinMaps) → first_map rec ty t b.name ≡ o
        → option_and_then (λ m. cond (is_logic b.category && fits_bel t b.name m.pins && takes_lut rec ty t bel) (Some (numbered_pins t b.name m.pins)) None) o ≡ Some given → AllByRecursion (λ (pin : ℕ × ℕ). pin.0 < n) given
    in_map b None e g = absurd (none-some given g)
    in_map b (Some m) e g =
        subst (AllByRecursion (λ (pin : ℕ × ℕ). pin.0 < n)) (cond_some (is_logic b.category && fits_bel t b.name m.pins && takes_lut rec ty t bel) (numbered_pins t b.name m.pins) given g).1
        (entries_named n t b.name m.pins (map_named n rec ty t b.name m named e).pins)

    by : (o : Option Bel) → option_and_then (admitted rec ty t bel) o ≡ Some given → AllByRecursion (λ (pin : ℕ × ℕ). pin.0 < n) given
    by None g = absurd (none-some given g)
    by (Some b) g = in_map b (first_map rec ty t b.name) refl g

pins_named : (n : ℕ) (rec : DeviceRec) (ty : ℕ) (p : Spot) (given : List (ℕ × ℕ)) → DeviceNamed n rec → pins_at rec ty p ≡ Some given → AllByRecursion (λ (pin : ℕ × ℕ). pin.0 < n) given
unfolding pins_at
pins_named n rec ty p given named h = by (type_at rec p.site) h
  where
    by : (o : Option SiteType) → option_and_then (λ t. pins_in rec ty p.bel t) o ≡ Some given → AllByRecursion (λ (pin : ℕ × ℕ). pin.0 < n) given
    by None g = absurd (none-some given g)
    by (Some t) g = given_named n rec ty p.bel t given named g

-- a wanted pin has the cell pin's name, the BEL's, and a BEL pin's
wanted_named : (n : ℕ) (rec : DeviceRec) (site bel : ℕ) (pin : ℕ × ℕ) (x : ℕ × ℕ × ℕ) → DeviceNamed n rec → pin_wanted rec site bel pin ≡ Some x → (x.0 ≡ pin.0) × (x.1 ≡ bel) × (x.2 < n)
wanted_named n rec site bel pin x named h = by (type_at rec site) refl h
  where
    in_type : (u : SiteType) → SiteTypeNamed n u → (o : Option BelPin) → slice_get u.bel_pins pin.1 ≡ o → option_map (λ q. (pin.0, bel, q.name)) o ≡ Some x → (x.0 ≡ pin.0) × (x.1 ≡ bel) × (x.2 < n)
    in_type u is None e g = absurd (none-some x g)
    in_type u is (Some q) e g =
        let same : ◌≡◌ {A = ℕ × ℕ × ℕ} (pin.0, bel, q.name) x = same_Some (pin.0, bel, q.name) x g in
        (sym (ap (λ y. y.0) same), sym (ap (λ y. y.1) same), subst (λ y. y < n) (ap (λ y. y.2) same) (at_place (BelPinNamed n) u.bel_pins pin.1 q is.bel_pins e).name)

    by : (o : Option SiteType) → type_at rec site ≡ o → option_and_then (λ t. pin_in t bel pin) o ≡ Some x → (x.0 ≡ pin.0) × (x.1 ≡ bel) × (x.2 < n)
    by None e g = absurd (none-some x g)
    by (Some u) e g = in_type u (type_named n rec site u named e) (slice_get u.bel_pins pin.1) refl g

pin_map_named : (names : List Text) (rec : DeviceRec) (ty : ℕ) (p : Spot) (bel : ℕ) (pins : List PinMapping) → DeviceNamed (length names) rec → bel < length names → IsPinMap rec ty p bel pins → All (IsMappingNamed names) pins
pin_map_named names rec ty p bel pins named below is = all_at (IsMappingNamed names) pins by
  where
    sorted_named : All (λ (pin : ℕ × ℕ). pin.0 < length names) is.sorted
    sorted_named = All-permutation (λ (pin : ℕ × ℕ). pin.0 < length names) is.given is.sorted is.same (All-from_recursion (λ (pin : ℕ × ℕ). pin.0 < length names) is.given (pins_named (length names) rec ty p is.given named is.given_is))

    by : (k : ℕ) (m : PinMapping) → slice_get pins k ≡ Some m → IsMappingNamed names m
    by k m at =
        let found = same_at pin_told (λ pin. pin_wanted rec p.site bel pin) pins is.sorted k m is.told at in
        let is_named = wanted_named (length names) rec p.site bel found.0 (m.cell_pin, m.bel, m.bel_pin) named (sym found.2) in record {
          cell_pin = subst (λ x. x < length names) (sym is_named.0) (at_index (λ (pin : ℕ × ℕ). pin.0 < length names) is.sorted k found.0 sorted_named found.1);
          bel = subst (λ x. x < length names) (sym is_named.1) below;
          bel_pin = is_named.2;
        }

placement_named : (names : List Text) (rec : DeviceRec) (c : FlatCell) (p : Spot) (m : CellPlacement) → DeviceNamed (length names) rec → CellNamed (length names) c → IsPlacement rec c p m → IsPlacementNamed names m
placement_named names rec c p m named cell is = record {
  cell_name = subst (λ x. x < length names) (sym is.cell_name) cell.name;
  ty = subst (λ x. x < length names) (sym is.ty) cell.ty;
  site = site_below (length names) rec p.site m.site named is.site;
  bel = bel_below (length names) rec p m.bel named is.bel;
  pin_map = pin_map_named names rec c.ty p m.bel m.pin_map named (bel_below (length names) rec p m.bel named is.bel) is.pins;
}

instance_named : (names : List Text) (rec : DeviceRec) (s : ℕ) (i : SiteInstance) → DeviceNamed (length names) rec → instance_told i ≡ instance_wanted rec s → IsInstanceNamed names i
instance_named names rec s i named h = by (name_of_site rec s) refl (type_at rec s) refl (sym h)
  where
    by : (o : Option ℕ) → name_of_site rec s ≡ o → (q : Option SiteType) → type_at rec s ≡ q → option_and_then {U = ℕ × ℕ} (λ name. option_map (λ t. (name, t.name)) q) o ≡ Some (i.site, i.ty) → IsInstanceNamed names i
    by None e q f g = absurd (none-some (i.site, i.ty) g)
    by (Some name) e None f g = absurd (none-some (i.site, i.ty) g)
    by (Some name) e (Some u) f g =
        let same : ◌≡◌ {A = ℕ × ℕ} (name, u.name) (i.site, i.ty) = same_Some (name, u.name) (i.site, i.ty) g in record {
          site = subst (λ x. x < length names) (ap (λ y. y.0) same) (site_below (length names) rec s name named e);
          ty = subst (λ x. x < length names) (ap (λ y. y.1) same) (type_named (length names) rec s u named f).name;
        }

pub fitted_named : (names : List Text) (rec : DeviceRec) (cells : List FlatCell) (phys : Phys) → DeviceNamed (length names) rec → AllByRecursion (CellNamed (length names)) cells → IsFitted rec cells phys → IsPhysNamed names phys
fitted_named names rec cells phys named all is = record {
  part = subst (λ x. x < length names) (sym is.netlist.part) named.name;
  placements = all_at (IsPlacementNamed names) phys.placements placed;
  nets = subst (All (IsNetNamed names)) (sym is.netlist.nets) (all_at (IsNetNamed names) [] (λ k x at. absurd (none-some x at)));
  site_insts = all_at (IsInstanceNamed names) phys.site_insts used;
  properties = subst (All (IsPropertyNamed names)) (sym is.netlist.properties) (all_at (IsPropertyNamed names) [] (λ k x at. absurd (none-some x at)));
}
  where
    placed : (k : ℕ) (m : CellPlacement) → slice_get phys.placements k ≡ Some m → IsPlacementNamed names m
    placed k m at =
        let lt = slice_get_within phys.placements k m at in
        let count = is.count in
        let counted = is.netlist.placements.count in
        let p = item_at is.places k (omega arith) in
        let c = item_at cells k (omega arith) in
        placement_named names rec c.0 p.0 m named (at_place (CellNamed (length names)) cells k c.0 all c.1) (is.netlist.placements.each k c.0 p.0 m c.1 p.1 at)

    used : (k : ℕ) (i : SiteInstance) → slice_get phys.site_insts k ≡ Some i → IsInstanceNamed names i
    used k i at =
        let found = same_at instance_told (λ site. instance_wanted rec site) phys.site_insts (used_sites is.places) k i is.netlist.site_insts at in
        instance_named names rec found.0 i named found.2
