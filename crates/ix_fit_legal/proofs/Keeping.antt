-- A netlist of first fit keeps the rules.
use Rattle.std.proofs.Common.{◌≡◌, ◌<◌, ◌≤◌, ◌+◌, ◌++◌, ◌∙◌, refl, ap, sym, subst, ℕ, zero, suc, arith}
use Rattle.std.proofs.Common.{Bool, true, false, not, ◌||◌, nat_eq}
use Rattle.std.proofs.Common.{List, [], ◌∷◌, map, take, length, slice_get, Option, Some, None}
use Rattle.std.proofs.Common.{option_map, option_and_then, is_some, IfSome, cond}
use Rattle.std.specs.List.{AllByRecursion, list_any}
use Rattle.std.proofs.lemmas.Bool.{eqb-true, eq-eqb}
use Rattle.std.proofs.lemmas.List.{length-append, length-map}
use Rattle.std.proofs.lemmas.Map.Keys.{any_passes_from_place}
use Rattle.std.proofs.lemmas.Option.{none-some, same_Some, slice_get-map, slice_get_within}
use Rattle.std.proofs.lemmas.Option.{slice_get_read}
use Rattle.ix_message.specs.Shape.{Text}
use Rattle.ix_strings.specs.Names.{AllDiffer}
use Rattle.ix_phys_write.specs.Record.{IsPhysNamed}
use Rattle.ix_rec.specs.Forest.{IsPreorder}
use Rattle.ix_rec.specs.declared.device.DeviceRec.{DeviceRec}
use Rattle.ix_rec.specs.declared.device.SiteType.{SiteType}
use Rattle.ix_rec.specs.declared.phys.CellPlacement.{CellPlacement}
use Rattle.ix_rec.specs.declared.phys.PinMapping.{PinMapping}
use Rattle.ix_rec.specs.declared.phys.SiteInstance.{SiteInstance}
use Rattle.ix_rec.specs.declared.phys.PhysNet.{PhysNet}
use Rattle.ix_rec.specs.declared.phys.Phys.{Phys}
use Rattle.ix_rec.specs.declared.flow.FlatCell.{FlatCell}
use Rattle.ix_device_rules.specs.Rules.{is_new}
use Rattle.ix_device.specs.Lookups.{site_named, name_of_site, type_of_site, site_type_number}
use Rattle.ix_first_fit.specs.declared.cell.Spot.{Spot}
use Rattle.ix_first_fit.specs.Spots as fit
use Rattle.ix_first_fit.specs.Netlist.{used_sites, used_after, with_site, instance_told}
use Rattle.ix_first_fit.specs.Netlist.{instance_wanted}
use Rattle.ix_first_fit.specs.Laws.{IsOnPlace, HasOwnPlaces}
use Rattle.ix_first_fit.specs.Answers.{IsFitted}
use Rattle.ix_legal.specs.declared.level.Level.TheVariants.{Routed}
use Rattle.ix_legal.specs.Sites.{bel_at, bel_pin_at, lut_cell_of}
use Rattle.ix_legal.specs.declared.spot.Spot.TheVariants.{InstanceAt, PlacementAt, NetAt}
use Rattle.ix_legal.specs.declared.spot.Spot.TheVariants.{SegmentAt, PropertyAt, ElementAt}
use Rattle.ix_legal.specs.Spots.{AskedOf, Everywhere, OfNets, OfSegments}
use Rattle.ix_legal.specs.Names.{IsNamed, InstanceIsNamed, PlacementIsNamed, NetIsNamed}
use Rattle.ix_legal.specs.Names.{SegmentHasEnds, KeyIsNamed}
use Rattle.ix_legal.specs.Placements.{IsPlaced, InstanceFits, PlacementFits, MapsPins, PinMapFits}
use Rattle.ix_legal.specs.Placements.{PinsFit, IsOfDevice, is_on, has_instance}
use Rattle.ix_legal.specs.Trees.{LeavesParent, HasSource, RootFits, EntersAlone}
use Rattle.ix_legal.specs.Segments.{NetNumber, SegmentNumber, segment_at}
use Rattle.ix_legal.specs.Sharing.{SharesNothing, SiteInUse}
use Rattle.ix_legal.specs.Sharing.{InSourceTree}
use Rattle.ix_legal.specs.LutTables.{IsTabled, TableFits}
use Rattle.ix_legal.specs.Legal.{Legal, IsSmall, IsShort, most_entries}
use Rattle.ix_fit_legal.specs.Laws.{ArePlain}
use Rattle.ix_fit_legal.proofs.Fresh.{and_left, and_right, place_of_any, position_at}
use Rattle.ix_fit_legal.proofs.ValidNames.{site_found, type_found}
use Rattle.ix_fit_legal.proofs.Leading.{and_then_some, map_some, same_at, each_by_recursion, Leads}
use Rattle.ix_fit_legal.proofs.Leading.{leads, bel_at_is, type_listed, pins_are, is_entry}

-- Lists, place by place.

asks_each : {A : Type 0} (xs : List A) (i : ℕ) (P : A → Type 0)
    → ((x : A) → slice_get xs i ≡ Some x → P x) → AskedOf xs i P
asks_each {A} xs i P each = by (slice_get xs i) refl
  where
    by : (o : Option A) → slice_get xs i ≡ o → IfSome o P
    by None e = tt
    by (Some x) e = each x e

asks_none : {A : Type 0} (xs : List A) (i : ℕ) (P : A → Type 0) → xs ≡ [] → AskedOf xs i P
asks_none xs i P none = asks_each xs i P
    (λ x at. absurd (none-some x (ap (λ l. slice_get l i) (sym none) ∙ at)))

item_at : {A : Type 0} (xs : List A) (k : ℕ) → k < length xs
    → (x : A) × (slice_get xs k ≡ Some x)
item_at [] k lt = absurd (omega arith)
item_at (x ∷ xs) zero lt = (x, refl)
item_at (x ∷ xs) (suc k) lt = item_at xs k (omega arith)

-- a test that fails at each place before this one
none_before : {A : Type 0} (test : A → Bool) (xs : List A) (i : ℕ)
    → ((j : ℕ) (x : A) → j < i → slice_get xs j ≡ Some x → test x ≡ true → ⊥)
    → list_any test (take i xs) ≡ false
none_before test xs zero fails = refl
none_before test [] (suc i) fails = refl
none_before test (x ∷ xs) (suc i) fails = by (test x) refl
    (none_before test xs i (λ j y lt at. fails (suc j) y (omega (arith, lt)) at))
  where
    by : (b : Bool) → test x ≡ b → list_any test (take i xs) ≡ false
        → (b || list_any test (take i xs)) ≡ false
    by true h rest = absurd (fails 0 x (omega arith) refl h)
    by false h rest = rest

any_map : {A : Type 0} (f : A → ℕ) (n : ℕ) (xs : List A)
    → list_any (nat_eq n) (map f xs) ≡ list_any (λ x. nat_eq n (f x)) xs
any_map f n [] = refl
any_map f n (x ∷ xs) = ap (λ b. nat_eq n (f x) || b) (any_map f n xs)

-- a number that none before this place has
new_there : {A : Type 0} (f : A → ℕ) (xs : List A) (i n : ℕ)
    → ((j : ℕ) (x : A) → j < i → slice_get xs j ≡ Some x → f x ≡ n → ⊥)
    → is_new (map f (take i xs)) n ≡ true
new_there f xs i n fails = ap not (any_map f n (take i xs)
    ∙ none_before (λ x. nat_eq n (f x)) xs i
    (λ j x lt at h. fails j x lt at (sym (eqb-true n (f x) h))))

one_more : (sites : List ℕ) (site : ℕ) (b : Bool)
    → length (cond b sites (sites ++ site ∷ [])) ≤ length sites + 1
one_more sites site true = omega arith
one_more sites site false =
    let more : length (sites ++ site ∷ []) ≡ length sites + 1 = length-append sites (site ∷ []) in
    omega (arith, more)

-- no more sites are used than there are places
few_used : (sites : List ℕ) (places : List Spot)
    → length (used_after sites places) ≤ length sites + length places
unfolding used_after
few_used sites [] = omega arith
few_used sites (p ∷ ps) =
    let rest : length (used_after (with_site sites p.site) ps)
    ≤ length (with_site sites p.site) + length ps = few_used (with_site sites p.site) ps in
    let more : length (with_site sites p.site) ≤ length sites + 1 =
    one_more sites p.site (list_any (λ t. nat_eq p.site t) sites) in
    omega (arith, rest, more)

-- The same site type of a site, by the two ways in which it is told.
fit_type : (rec : DeviceRec) (site : ℕ) (t : SiteType) → fit.type_at rec site ≡ Some t
    → (k : ℕ) × (type_of_site rec site ≡ Some k) × (slice_get rec.site_type_list k ≡ Some t)
unfolding fit.type_at
fit_type rec site t h =
    and_then_some (λ k. slice_get rec.site_type_list k) (type_of_site rec site) t h

module _ (names : List Text) (rec : DeviceRec) (cells : List FlatCell) (phys : Phys)
    (plain : ArePlain rec cells) (is : IsFitted rec cells phys)
    (own : HasOwnPlaces rec cells phys) where
  -- Placements.

  -- the cell and the place of a placement
  record Placed (i : ℕ) (m : CellPlacement) : Type 0 where
    cell : FlatCell
    cell_is : slice_get cells i ≡ Some cell
    place : Spot
    place_is : slice_get own.places i ≡ Some place
    on : IsOnPlace rec cell place m

  placed : (i : ℕ) (m : CellPlacement) → slice_get phys.placements i ≡ Some m → Placed i m
  placed i m at =
      let within : i < length phys.placements = slice_get_within phys.placements i m at in
      let count : length phys.placements ≡ length cells = own.placements_count in
      let places : length own.places ≡ length cells = own.places_count in
      let c = item_at cells i (omega (arith, within, count)) in
      let p = item_at own.places i (omega (arith, within, count, places)) in record {
        cell = c.0;
        cell_is = c.1;
        place = p.0;
        place_is = p.1;
        on = own.each i c.0 p.0 m c.1 p.1 at;
      }

  led : (i : ℕ) (m : CellPlacement) (of : Placed i m) → Leads rec m of.place
  led i m of = leads rec plain.valid of.cell of.place m of.on

  -- two with one cell name are one
  cell_once : (i j : ℕ) (m n : CellPlacement) → slice_get phys.placements i ≡ Some m
      → slice_get phys.placements j ≡ Some n → n.cell_name ≡ m.cell_name → j ≡ i
  cell_once i j m n at_m at_n same =
      let one = placed i m at_m in
      let other = placed j n at_n in
      plain.names_differ j i one.cell.name
      (slice_get-map (λ (c : FlatCell). c.name) cells j
      ∙ (ap (option_map (λ (c : FlatCell). c.name)) other.cell_is
      ∙ ap (λ (x : ℕ). Some x) (sym other.on.cell_name ∙ (same ∙ one.on.cell_name))))
      (slice_get-map (λ (c : FlatCell). c.name) cells i
      ∙ ap (option_map (λ (c : FlatCell). c.name)) one.cell_is)

  -- two on one BEL are one
  bel_once : (i j : ℕ) (m n : CellPlacement) → slice_get phys.placements i ≡ Some m
      → slice_get phys.placements j ≡ Some n → n.site ≡ m.site → n.bel ≡ m.bel → j ≡ i
  bel_once i j m n at_m at_n site bel =
      let one = placed i m at_m in
      let other = placed j n at_n in
      let to_one = led i m one in
      let to_other = led j n other in
      let sites : other.place.site ≡ one.place.site = same_Some other.place.site one.place.site
      (sym to_other.site_is ∙ (ap (site_named rec) site ∙ to_one.site_is)) in
      let bels : other.place.bel ≡ one.place.bel = same_Some other.place.bel one.place.bel
      (sym (bel_at_is rec n other.place to_other)
      ∙ (ap (λ s. bel_at rec s n.bel) site
      ∙ (ap (λ b. bel_at rec m.site b) bel ∙ bel_at_is rec m one.place to_one))) in
      let places : other.place ≡ one.place = same_place other.place one.place sites bels in
      own.apart j i one.place (other.place_is ∙ ap (λ (p : Spot). Some p) places) one.place_is
    where
      same_place : (p q : Spot) → p.site ≡ q.site → p.bel ≡ q.bel → p ≡ q
      same_place p q sites bels =
          ap (λ s. fit.spot s p.bel) sites ∙ ap (λ b. fit.spot q.site b) bels

  -- Site instances.

  record Instance (i : ℕ) (instance : SiteInstance) : Type 0 where
    site : ℕ
    used : slice_get (used_sites own.places) i ≡ Some site
    site_is : site_named rec instance.site ≡ Some site
    number : ℕ
    type_is : type_of_site rec site ≡ Some number
    named : site_type_number rec instance.ty ≡ Some number

  -- the names of an instance, as they are wanted
  record Wanted (site : ℕ) (instance : SiteInstance) : Type 0 where
    name_is : name_of_site rec site ≡ Some instance.site
    site_type : SiteType
    type_is : fit.type_at rec site ≡ Some site_type
    ty_is : site_type.name ≡ instance.ty

  wanted : (site : ℕ) (instance : SiteInstance)
      → instance_wanted rec site ≡ Some (instance.site, instance.ty) → Wanted site instance
  wanted site instance h =
      let named = and_then_some (λ name. option_map (λ (t : SiteType). (name, t.name))
      (fit.type_at rec site)) (name_of_site rec site) (instance.site, instance.ty) h in
      let typed = map_some (λ (t : SiteType). (named.0, t.name)) (fit.type_at rec site)
      (instance.site, instance.ty) named.2 in record {
        name_is = named.1 ∙ ap (λ (x : ℕ × ℕ). Some x.0) typed.2;
        site_type = typed.0;
        type_is = typed.1;
        ty_is = ap (λ (x : ℕ × ℕ). x.1) typed.2;
      }

  instance_at : (i : ℕ) (instance : SiteInstance) → slice_get phys.site_insts i ≡ Some instance
      → Instance i instance
  instance_at i instance at =
      let there = same_at instance_told (instance_wanted rec) phys.site_insts
      (used_sites own.places) i instance own.instances at in
      let told_by = wanted there.0 instance (sym there.2) in
      let typed = fit_type rec there.0 told_by.site_type told_by.type_is in record {
        site = there.0;
        used = there.1;
        site_is = site_found rec plain.valid there.0 instance.site told_by.name_is;
        number = typed.0;
        type_is = typed.1;
        named = ap (site_type_number rec) (sym told_by.ty_is)
            ∙ type_found rec plain.valid typed.0 told_by.site_type typed.2;
      }

  -- two of one site are one
  site_once : (i j : ℕ) (a b : SiteInstance) → slice_get phys.site_insts i ≡ Some a
      → slice_get phys.site_insts j ≡ Some b → b.site ≡ a.site → j ≡ i
  site_once i j a b at_a at_b same =
      let one = instance_at i a at_a in
      let other = instance_at j b at_b in
      let sites : other.site ≡ one.site = same_Some other.site one.site
      (sym other.site_is ∙ (ap (site_named rec) same ∙ one.site_is)) in
      own.sites_differ j i one.site (other.used ∙ ap (λ (s : ℕ). Some s) sites) one.used

  -- the site of a placement has one
  in_use : (i : ℕ) (m : CellPlacement) → slice_get phys.placements i ≡ Some m
      → has_instance phys m.site ≡ true
  in_use i m at =
      let of = placed i m at in
      let found = place_of_any (λ s. nat_eq of.place.site s) (used_sites own.places)
      (own.all_used i of.place of.place_is) in
      let there = position_at (λ s. nat_eq of.place.site s) (used_sites own.places) found.0
      found.1 in
      let told = same_at (instance_wanted rec) instance_told (used_sites own.places)
      phys.site_insts found.0 there.0 (sym own.instances) there.1 in
      let told_by = wanted there.0 told.0 told.2 in
      let site : of.place.site ≡ there.0 = eqb-true of.place.site there.0 there.2 in
      let same : told.0.site ≡ m.site = same_Some told.0.site m.site
      (sym told_by.name_is ∙ (ap (name_of_site rec) (sym site) ∙ of.on.site)) in
      any_passes_from_place (λ (x : SiteInstance). nat_eq x.site m.site) phys.site_insts found.0
      told.0 told.1 (eq-eqb told.0.site m.site same)

  -- L1

  instance_named : (i : ℕ) (instance : SiteInstance) → slice_get phys.site_insts i ≡ Some instance
      → InstanceIsNamed rec instance
  instance_named i instance at = let of = instance_at i instance at in record {
    site = ap is_some of.site_is;
    site_type = ap is_some of.named;
  }

  placement_named : (i : ℕ) (m : CellPlacement) → slice_get phys.placements i ≡ Some m
      → PlacementIsNamed rec m
  placement_named i m at = let of = placed i m at in let to = led i m of in record {
    cell_type = type_listed rec of.cell of.place m of.on to;
    site = ap is_some to.site_is;
    bel = ap is_some (bel_at_is rec m of.place to);
    pins = each_by_recursion (λ (e : PinMapping). is_some (bel_pin_at rec m.site e.bel e.bel_pin)
        ≡ true) m.pin_map
        (λ k e e_at. ap is_some (is_entry rec of.cell of.place m of.on to k e e_at).of_device.pin_is);
  }

  l1 : Everywhere (IsNamed names rec phys)
  l1 (InstanceAt i) = asks_each phys.site_insts i (InstanceIsNamed rec) (instance_named i)
  l1 (PlacementAt i) = asks_each phys.placements i (PlacementIsNamed rec) (placement_named i)
  l1 (NetAt n) = asks_none phys.nets n (NetIsNamed phys n) is.netlist.nets
  l1 (SegmentAt n k) =
      asks_none phys.nets n (λ (net : PhysNet). SegmentHasEnds rec net k) is.netlist.nets
  l1 (PropertyAt i) =
      asks_none phys.properties i (KeyIsNamed names rec phys i) is.netlist.properties
  l1 (ElementAt i element) = tt

  -- L2

  instance_fits : (i : ℕ) (instance : SiteInstance) → slice_get phys.site_insts i ≡ Some instance
      → InstanceFits rec (take i phys.site_insts) instance
  instance_fits i instance at = let of = instance_at i instance at in record {
    alone = new_there (λ (x : SiteInstance). x.site) phys.site_insts i instance.site
        (λ j other lt other_at same. let once : j ≡ i = site_once i j instance other at other_at
        same in omega (arith, lt, once));
    own_type = of.named ∙ sym (ap (option_and_then (type_of_site rec)) of.site_is ∙ of.type_is);
  }

  placement_fits : (i : ℕ) (m : CellPlacement) → slice_get phys.placements i ≡ Some m
      → PlacementFits rec phys (take i phys.placements) m
  placement_fits i m at = let of = placed i m at in let to = led i m of in record {
    cell_alone = new_there (λ (x : CellPlacement). x.cell_name) phys.placements i m.cell_name
        (λ j other lt other_at same. let once : j ≡ i = cell_once i j m other at other_at same in
        omega (arith, lt, once));
    bel_alone = none_before (is_on m.site m.bel) phys.placements i
        (λ j other lt other_at on. let once : j ≡ i = bel_once i j m other at other_at
        (eqb-true other.site m.site
        (and_left (nat_eq other.site m.site) (nat_eq other.bel m.bel) on))
        (eqb-true other.bel m.bel
        (and_right (nat_eq other.site m.site) (nat_eq other.bel m.bel) on)) in
        omega (arith, lt, once));
    admits = ap is_some (pins_are rec of.cell of.place m of.on to);
    in_use = in_use i m at;
  }

  l2 : Everywhere (IsPlaced rec phys)
  l2 (InstanceAt i) =
      asks_each phys.site_insts i (InstanceFits rec (take i phys.site_insts)) (instance_fits i)
  l2 (PlacementAt i) = asks_each phys.placements i
      (PlacementFits rec phys (take i phys.placements)) (placement_fits i)
  l2 (NetAt n) = tt
  l2 (SegmentAt n k) = tt
  l2 (PropertyAt i) = tt
  l2 (ElementAt i element) = tt

  -- L3

  not_lut : (i : ℕ) (m : CellPlacement) → slice_get phys.placements i ≡ Some m
      → lut_cell_of rec m.ty ≡ None
  not_lut i m at = let of = placed i m at in
      ap (lut_cell_of rec) of.on.ty ∙ plain.no_lut i of.cell of.cell_is

  map_fits : (i : ℕ) (m : CellPlacement) → slice_get phys.placements i ≡ Some m → PinMapFits rec m
  map_fits i m at = let of = placed i m at in let to = led i m of in record {
    own_bel = each_by_recursion (λ (e : PinMapping). e.bel ≡ m.bel) m.pin_map
        (λ k e e_at. (is_entry rec of.cell of.place m of.on to k e e_at).own_bel);
    pins = subst (PinsFit rec m) (sym (not_lut i m at))
        (each_by_recursion (IsOfDevice rec m) m.pin_map
        (λ k e e_at. (is_entry rec of.cell of.place m of.on to k e e_at).of_device));
  }

  l3 : Everywhere (MapsPins rec phys)
  l3 (InstanceAt i) = tt
  l3 (PlacementAt i) = asks_each phys.placements i (PinMapFits rec) (map_fits i)
  l3 (NetAt n) = tt
  l3 (SegmentAt n k) = tt
  l3 (PropertyAt i) = tt
  l3 (ElementAt i element) = tt

  -- L4 to L8 and L10 ask of nets alone, and there are none.
  no_nets : (Asked : NetNumber → PhysNet → Type 0)
      (AskedAt : NetNumber → PhysNet → SegmentNumber → Type 0)
      → Everywhere (OfNets phys Asked AskedAt)
  no_nets Asked AskedAt (InstanceAt i) = tt
  no_nets Asked AskedAt (PlacementAt i) = tt
  no_nets Asked AskedAt (NetAt n) = asks_none phys.nets n (Asked n) is.netlist.nets
  no_nets Asked AskedAt (SegmentAt n k) =
      asks_none phys.nets n (λ net. AskedAt n net k) is.netlist.nets
  no_nets Asked AskedAt (PropertyAt i) = tt
  no_nets Asked AskedAt (ElementAt i element) = tt

  no_segments : (AskedAt : NetNumber → PhysNet → SegmentNumber → Type 0)
      → Everywhere (OfSegments phys AskedAt)
  no_segments AskedAt = no_nets (λ n net. Unit {0}) AskedAt

  -- L9: no LUT is placed in an element.
  l9 : Everywhere (IsTabled names rec phys)
  l9 (InstanceAt i) = tt
  l9 (PlacementAt i) = tt
  l9 (NetAt n) = tt
  l9 (SegmentAt n k) = tt
  l9 (PropertyAt i) = tt
  l9 (ElementAt i element) = asks_each phys.site_insts i (TableFits names rec phys element)
      (λ instance at place m lut has. let stands = has.is_in.placed in
      let m_at : slice_get phys.placements stands.0 ≡ Some m = slice_get_read phys.placements
      (length phys.placements) stands.0 m refl stands.1 (sym stands.2) in
      absurd (none-some lut (sym (not_lut stands.0 m m_at) ∙ has.lut_is)))

  -- how long its lists are
  small : length cells ≤ most_entries → IsSmall phys
  small few =
      let placements : length phys.placements ≡ length cells = own.placements_count in
      let places : length own.places ≡ length cells = own.places_count in
      let told : length (map instance_told phys.site_insts) ≡ length (map (instance_wanted rec) (used_sites own.places)) = ap length own.instances in
      let instances : length phys.site_insts ≡ length (used_sites own.places) =
      sym (length-map phys.site_insts instance_told)
      ∙ (told ∙ length-map (used_sites own.places) (instance_wanted rec)) in
      let used : length (used_sites own.places) ≤ 0 + length own.places = few_used [] own.places in
      let nets : length phys.nets ≡ 0 = ap length is.netlist.nets in
      let properties : length phys.properties ≡ 0 = ap length is.netlist.properties in
      record {
        placements = omega (arith, few, placements);
        nets = omega (arith, nets);
        site_insts = omega (arith, few, instances, used, places);
        properties = omega (arith, properties);
        segments = subst (AllByRecursion (λ (net : PhysNet). IsShort net.sources × IsShort net.stubs))
            (sym is.netlist.nets) tt;
      }

  pub legal : length cells ≤ most_entries → AllDiffer names → IsPhysNamed names phys
      → Legal Routed names rec phys
  legal few differ named = record {
    sound = record {
      small = small few;
      differ = differ;
      named = named;
      preorder = subst
          (AllByRecursion (λ (net : PhysNet). IsPreorder net.sources × IsPreorder net.stubs))
          (sym is.netlist.nets) tt;
    };
    l1 = l1;
    l2 = l2;
    l3 = l3;
    l4 = no_segments (λ n net k. LeavesParent rec net k);
    l5 = no_nets (λ n net. HasSource net.ty net) (λ n net k. RootFits rec phys net k);
    l6 = no_segments (λ n net k. EntersAlone rec net k);
    l7 = no_segments (SharesNothing Routed rec phys);
    l8 = no_segments (λ n net k. IfSome (segment_at net k) (λ s. SiteInUse s.kind phys s));
    l9 = l9;
    l10 = no_segments (λ n net k. InSourceTree net k);
  }
