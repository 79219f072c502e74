-- Elements by their numbers.
use Rattle.std.proofs.Common.{◌≡◌, ◌<◌, ◌+◌, ◌∙◌, refl, ap, sym, subst, ℕ, List, map, take}
use Rattle.std.proofs.Common.{length, get_or, arith, inl, inr, true}
use Rattle.std.specs.Prelude.{slice_get, nat_eq, Some, None, is_some, Option, option_map}
use Rattle.std.specs.Prelude.{option_and_then, unwrap_or}
use Rattle.std.specs.List.{position}
use Rattle.std.proofs.lemmas.Bool.{cases_lt, cases_eq, true≢false}
use Rattle.std.proofs.lemmas.Option.{same_Some, slice_get_within, slice_get_read}
use Rattle.ix_rec.specs.declared.device.DeviceRec.{DeviceRec}
use Rattle.ix_rec.specs.declared.device.LutElement.{LutElement}
use Rattle.ix_rec.specs.declared.phys.CellPlacement.{CellPlacement}
use Rattle.ix_rec.specs.declared.phys.Phys.{Phys}
use Rattle.ix_rec.specs.declared.phys.SiteInstance.{SiteInstance}
use Rattle.ix_device_rules.specs.Rules.{is_new, element_has}
use Rattle.ix_device.specs.Lookups.{site_named, type_of_site, in_type, bel_in}
use Rattle.ix_device.specs.Elements.{elements_of, element_of_bel, place_in, place_in_element}
use Rattle.ix_device.proofs.OptionLemmas.{list_any-position}
use Rattle.ix_ends.proofs.Items.{chained, mapped}
use Rattle.ix_legal.specs.Breaks.{asked_at}
use Rattle.ix_legal.specs.Placements.{InstanceFits, PlacementFits, IsPlaced, has_instance}
use Rattle.ix_legal.specs.Sites.{type_at, elements_at, element_at}
use Rattle.ix_legal.specs.Spots.{Everywhere}
use Rattle.ix_legal.specs.declared.spot.Spot.TheVariants.{InstanceAt, PlacementAt}
use Rattle.ix_table_keys.specs.Places.{site_of}
use Rattle.ix_table_keys.proofs.Found.{found_by_name, one_of_name, read_by_name}
use Rattle.ix_first.specs.First.{value_of}
use Rattle.ix_element_numbers.specs.Numbers.{AreNumbers, IsNumber, IsInElement, elements_before}
use Rattle.ix_element_numbers.specs.Numbers.{elements_of_instance}
use Rattle.ix_element_numbers.proofs.Based.{elements_after}
use Rattle.ix_element_numbers.specs.declared.numbers.ElementNumbers.{ElementNumbers}

-- a place in one of these elements is in one of them
in_one : (elements : List LutElement) (name element place : ℕ)
    → place_in name elements ≡ Some (element, place) → element < length elements
in_one elements name element place is =
    let k = chained (λ k. option_map (λ j. (k, j)) (option_and_then (place_in_element name)
    (slice_get elements k))) (position (element_has name) elements) (element, place) is in
    let j = mapped (λ j. (k.0, j)) (option_and_then (place_in_element name)
    (slice_get elements k.0)) (element, place) k.2 in
    let e = chained (place_in_element name) (slice_get elements k.0) j.0 j.1 in
    first k.0 j.0 e.0 e.1 j.2
  where
    first : (k j : ℕ) (e : LutElement) → slice_get elements k ≡ Some e
        → ◌≡◌ {A = ℕ × ℕ} (k, j) (element, place) → element < length elements
    first k j e at same = subst (λ i. i < length elements) (ap (λ p. p.0) same)
        (slice_get_within elements k e at)

-- a BEL's element is one of those of its site
element_there : (rec : DeviceRec) (site bel element place : ℕ)
    → element_at rec site bel ≡ Some (element, place)
    → (elements : List LutElement) × (elements_at rec site ≡ Some elements)
    × (element < length elements)
element_there rec site bel element place is =
    let t = chained (λ t. option_and_then (λ ty. option_and_then (λ b. element_of_bel rec b ty)
    (bel_in bel ty)) (slice_get rec.site_type_list t)) (type_at rec site) (element, place) is in
    let ty = chained (λ ty. option_and_then (λ b. element_of_bel rec b ty) (bel_in bel ty))
    (slice_get rec.site_type_list t.0) (element, place) t.2 in
    let b = chained (λ b. element_of_bel rec b ty.0) (bel_in bel ty.0) (element, place) ty.2 in
    let x = chained (λ x. place_in x.name (elements_of rec ty.0)) (slice_get ty.0.bels b.0)
    (element, place) b.2 in (
      elements_of rec ty.0,
      ap (λ o. option_map (elements_of rec) (option_and_then (slice_get rec.site_type_list) o)) t.1
          ∙ ap (option_map (elements_of rec)) ty.1,
      in_one (elements_of rec ty.0) x.0.name element place x.2,
    )

-- a BEL's element, by numbers
pub element_found : (rec : DeviceRec) (site bel s t b : ℕ) (p : ℕ × ℕ)
    → site_named rec site ≡ Some s → type_of_site rec s ≡ Some t
    → in_type (bel_in bel) rec t ≡ Some b → in_type (element_of_bel rec b) rec t ≡ Some p
    → element_at rec site bel ≡ Some p
element_found rec site bel s t b p site_is type_is bel_is is =
    let ty = chained (bel_in bel) (slice_get rec.site_type_list t) b bel_is in
    ap (λ o. option_and_then (λ u. option_and_then (λ v. option_and_then (λ c.
    element_of_bel rec c v) (bel_in bel v)) (slice_get rec.site_type_list u)) (option_and_then
    (type_of_site rec) o)) site_is
    ∙ ap (λ o. option_and_then (λ u. option_and_then (λ v. option_and_then (λ c.
    element_of_bel rec c v) (bel_in bel v)) (slice_get rec.site_type_list u)) o) type_is
    ∙ ap (option_and_then (λ v. option_and_then (λ c. element_of_bel rec c v) (bel_in bel v))) ty.1
    ∙ ap (option_and_then (λ c. element_of_bel rec c ty.0)) ty.2
    ∙ sym (ap (option_and_then (element_of_bel rec b)) ty.1) ∙ is

module _ (rec : DeviceRec) (phys : Phys) where
  -- a number is of one element
  pub one_element : (i j site other element more number : ℕ)
      → IsNumber rec phys i site element number → IsNumber rec phys j other more number
      → (i ≡ j) × (element ≡ more) × (site ≡ other)
  one_element i j site other element more number one two = elim (cases_lt i j) [
    | inl less ↦ absurd (apart i j site other element more one two less)
    | inr le ↦ elim (cases_eq i j) [
      | inl same ↦
          let one_is = one.number_is in
          let two_is = two.number_is in
          let before = ap (elements_before rec phys.site_insts) same in (
            same,
            (let so : element ≡ more = omega (arith, before, one_is, two_is) in so),
            sym one.site_is ∙ ap site_of (same_Some one.instance two.instance (sym one.instance_is
                ∙ ap (slice_get phys.site_insts) same ∙ two.instance_is)) ∙ two.site_is,
          )
      | inr differ ↦ absurd (apart j i other site more element two one
          (let less : j < i = omega (arith, le, differ) in less))
    ]
  ]
    where
      apart : (i j site other element more : ℕ) → IsNumber rec phys i site element number
          → IsNumber rec phys j other more number → i < j → ⊥
      apart i j site other element more one two less =
          let under = elements_after rec phys.site_insts i j one.instance one.instance_is less in
          let its = one.within in
          let one_is = one.number_is in
          let two_is = two.number_is in omega (arith, under, its, one_is, two_is)

  -- it is below the number of all elements
  pub number_within : (i site element number : ℕ) → IsNumber rec phys i site element number
      → number < elements_before rec phys.site_insts (length phys.site_insts)
  number_within i site element number is =
      let under = elements_after rec phys.site_insts i (length phys.site_insts) is.instance
      is.instance_is (slice_get_within phys.site_insts i is.instance is.instance_is) in
      let within = is.within in
      let number_is = is.number_is in omega (arith, under, within, number_is)

module _ (rec : DeviceRec) (phys : Phys) (placed : Everywhere (IsPlaced rec phys)) where
  -- a site has one instance
  pub one_instance : (i j : ℕ) (one other : SiteInstance) → slice_get phys.site_insts i ≡ Some one
      → slice_get phys.site_insts j ≡ Some other → one.site ≡ other.site → i ≡ j
  one_instance i j one other at_i at_j same = one_of_name site_of phys.site_insts i j one other
      at_i at_j (alone i one at_i) (alone j other at_j) same
    where
      alone : (k : ℕ) (x : SiteInstance) → slice_get phys.site_insts k ≡ Some x
          → is_new (map site_of (take k phys.site_insts)) (site_of x) ≡ true
      alone k x at =
          let fits : InstanceFits rec (take k phys.site_insts) x = asked_at phys.site_insts k
          (InstanceFits rec (take k phys.site_insts)) x at (placed (InstanceAt k)) in fits.alone

  -- and a site with a cell has one
  pub has_one : (k : ℕ) (placement : CellPlacement) → slice_get phys.placements k ≡ Some placement
      → has_instance phys placement.site ≡ true
  has_one k placement at =
      let fits : PlacementFits rec phys (take k phys.placements) placement
      = asked_at phys.placements k (PlacementFits rec phys (take k phys.placements)) placement at
      (placed (PlacementAt k)) in fits.in_use

  -- an element has one number
  pub one_number : (i j site element number other : ℕ)
      → IsNumber rec phys i site element number → IsNumber rec phys j site element other
      → (i ≡ j) × (number ≡ other)
  one_number i j site element number other one two =
      let same = one_instance i j one.instance two.instance one.instance_is two.instance_is
      (one.site_is ∙ sym two.site_is) in (
        same,
        one.number_is ∙ ap (λ k. elements_before rec phys.site_insts k + element) same
            ∙ sym two.number_is,
      )

  module _ (seen : ElementNumbers) (are : AreNumbers rec phys seen) (k : ℕ)
      (placement : CellPlacement) (at : slice_get phys.placements k ≡ Some placement) (id : ℕ)
      (id_is : id ≡ placement.site)
    where
      -- the instance of its site
      told_instance : (told : Option ℕ) → value_of seen.instances id ≡ Some told
          → position (λ y. nat_eq (site_of y) placement.site) phys.site_insts ≡ told
      told_instance told is = read_by_name site_of phys.site_insts are.names placement.site id
          seen.instances told are.by_name (are.sites k placement at) id_is is

      -- there is one
      pub instance_there : value_of seen.instances id ≡ Some None → ⊥
      instance_there none = true≢false (sym (has_one k placement at)
          ∙ list_any-position (λ y. nat_eq (site_of y) placement.site) phys.site_insts
          ∙ ap is_some (told_instance None none))

      -- and its first number is read so
      pub base_read : (instance base : ℕ) → value_of seen.instances id ≡ Some (Some instance)
          → base ≡ get_or seen.bases.items instance base
          → base ≡ elements_before rec phys.site_insts instance
      base_read instance base found is =
          let its = found_by_name site_of phys.site_insts placement.site instance
          (told_instance (Some instance) found) in
          let within = slice_get_within phys.site_insts instance its.0 its.1 in
          let all = are.bases.all in
          are.bases.each instance base (slice_get_read seen.bases.items (length seen.bases.items)
          instance base refl (omega (arith, within, all)) is)

      pub numbered : (instance base element place : ℕ)
          → value_of seen.instances id ≡ Some (Some instance)
          → base ≡ elements_before rec phys.site_insts instance
          → element_at rec placement.site placement.bel ≡ Some (element, place)
          → IsNumber rec phys instance placement.site element (base + element)
      numbered instance base element place found base_is is_in =
          let its = found_by_name site_of phys.site_insts placement.site instance
          (told_instance (Some instance) found) in
          let e = element_there rec placement.site placement.bel element place is_in in
          let many : length e.0 ≡ elements_of_instance rec its.0
          = sym (ap (λ o. unwrap_or (option_map length o) 0)
          (ap (elements_at rec) its.2 ∙ e.1)) in
          let within = e.2 in
          record {
            instance = its.0;
            instance_is = its.1;
            site_is = its.2;
            within = omega (arith, within, many);
            number_is = ap (λ b. b + element) base_is;
          }

      -- the element of a BEL, by numbers as they are found
      pub in_element : (s t b instance base : ℕ) (p : ℕ × ℕ)
          → Some s ≡ site_named rec placement.site → type_of_site rec s ≡ Some t
          → Some b ≡ in_type (bel_in placement.bel) rec t
          → Some p ≡ in_type (element_of_bel rec b) rec t
          → value_of seen.instances id ≡ Some (Some instance)
          → base ≡ get_or seen.bases.items instance base
          → IsInElement rec phys k
          (record { instance = instance; element = p.0; number = base + p.0 })
      in_element s t b instance base p site_is type_is bel_is is found read =
          let is_in = element_found rec placement.site placement.bel s t b p (sym site_is) type_is
          (sym bel_is) (sym is) in
          record {
            placement = placement;
            placement_is = at;
            number = numbered instance base p.0 p.1 found
                (base_read instance base found read) is_in;
            place = p.1;
            is_in = is_in;
          }

      -- its number is below the number of all
      pub in_count : (s t b instance base : ℕ) (p : ℕ × ℕ)
          → Some s ≡ site_named rec placement.site → type_of_site rec s ≡ Some t
          → Some b ≡ in_type (bel_in placement.bel) rec t
          → Some p ≡ in_type (element_of_bel rec b) rec t
          → value_of seen.instances id ≡ Some (Some instance)
          → base ≡ get_or seen.bases.items instance base → base + p.0 < seen.count
      in_count s t b instance base p site_is type_is bel_is is found read =
          let its = in_element s t b instance base p site_is type_is bel_is is found read in
          let within = number_within rec phys instance its.placement.site p.0 (base + p.0)
          its.number in
          let all = are.bases.count_is in omega (arith, within, all)
