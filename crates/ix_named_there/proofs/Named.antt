-- What the key of a table names.
use Rattle.std.proofs.Common.{◌≡◌, ◌≢◌, ◌<◌, ◌^◌, ◌∙◌, ap, sym, refl, ℕ, List, ◌∷◌}
use Rattle.std.proofs.Common.{◌++◌, length, arith, true}
use Rattle.std.specs.Prelude.{Option, Some, None, slice_get, option_map, option_and_then, nat_eq}
use Rattle.std.specs.Prelude.{Contains}
use Rattle.std.specs.Fmt.{decimal}
use Rattle.std.proofs.lemmas.Bool.{eqb-true, eq-eqb}
use Rattle.std.proofs.lemmas.Fmt.{decimal_injective}
use Rattle.std.proofs.lemmas.List.Folds.{Any-from_list_any, list_any_at}
use Rattle.std.proofs.lemmas.Option.{none-some, same_Some, slice_get_within, get_or_from_slice_get}
use Rattle.ix_message.specs.Shape.{Text}
use Rattle.ix_num.specs.Numbers.{NameNumber, SiteTypeNumber}
use Rattle.ix_strings.specs.Names.{AllDiffer}
use Rattle.ix_rec.specs.declared.device.DeviceRec.{DeviceRec}
use Rattle.ix_rec.specs.declared.device.LutElement.{LutElement}
use Rattle.ix_rec.specs.declared.device.SiteType.{SiteType}
use Rattle.ix_rec.specs.declared.phys.Phys.{Phys}
use Rattle.ix_device.specs.Elements.{elements_of}
use Rattle.ix_legal.specs.Sites.{type_at, elements_at}
use Rattle.ix_walk.specs.Marks.{Marks, has_mark, AreNamesOf}
use Rattle.ix_walk.specs.Listed.{named_among}
use Rattle.ix_named_there.specs.Keys.{HasNoSlash, NamesElement, slash}
use Rattle.ix_named_there.specs.Parts.{site_of}
use Rattle.ix_named_there.proofs.Slashes.{same_split, decimal_no_slash}

module _ (names : List Text) (rec : DeviceRec) (phys : Phys) (text site digits : Text)
    (split : (text ≡ site ++ slash ∷ digits) × HasNoSlash digits) where
  parts : (element : NamesElement names rec phys text)
      → (site ≡ element.site_text) × (digits ≡ decimal element.element)
  parts element = same_split site digits element.site_text (decimal element.element) split.1
      (decimal_no_slash element.element) (sym split.0 ∙ element.rest_is)

  -- the site's text is a name
  pub site_is_name : NamesElement names rec phys text → Contains names site
  site_is_name element =
      let at : slice_get names element.instance.site ≡ Some site
      = element.site_is ∙ ap Some (sym (parts element).0) in (
        element.instance.site,
        slice_get_within names element.instance.site site at,
        get_or_from_slice_get names element.instance.site site site at,
      )

  module _ (id : NameNumber) (id_is : slice_get names id ≡ Some site) (differ : AllDiffer names)
    where
      -- it is the instance's
      pub same_site : (element : NamesElement names rec phys text) → element.instance.site ≡ id
      same_site element = differ element.instance.site id site
          (element.site_is ∙ ap Some (sym (parts element).0)) id_is

      pub site_is_marked : (sites : Marks) → AreNamesOf site_of phys.site_insts sites
          → NamesElement names rec phys text → has_mark sites id ≡ true
      site_is_marked sites marked element =
          ap (has_mark sites) (sym (same_site element)) ∙ marked element.instance.site
          ∙ named_among site_of phys.site_insts element.instance.site
          ∙ list_any_at (λ i. nat_eq (site_of i) element.instance.site) phys.site_insts
          element.stands.0 element.instance element.stands.1
          (eq-eqb _ element.instance.site (ap site_of element.stands.2))

      pub site_has_type : NamesElement names rec phys text → type_at rec id ≢ None
      site_has_type element none = none-some element.elements
          (sym (ap (λ t. option_map (elements_of rec)
          (option_and_then (slice_get rec.site_type_list) t))
          (ap (type_at rec) (same_site element) ∙ none)) ∙ element.of_site)

      module _ (t : SiteTypeNumber) (count : ℕ) (type_is : type_at rec id ≡ Some t)
          (count_is : option_map (λ ty. length (elements_of rec ty))
          (slice_get rec.site_type_list t) ≡ Some count) (few : count < 2 ^ 32) where
        -- the elements of the site's type
        record Counted : Type 0 where
          pub elements : List LutElement
          pub of_site : elements_at rec id ≡ Some elements
          pub many : length elements ≡ count

        counted : Counted
        counted = by (slice_get rec.site_type_list t) refl count_is
          where
            by : (o : Option SiteType) → slice_get rec.site_type_list t ≡ o
                → option_map (λ ty. length (elements_of rec ty)) o ≡ Some count → Counted
            by None is h = absurd (none-some count h)
            by (Some ty) is h = record {
              elements = elements_of rec ty;
              of_site = ap (λ o. option_map (elements_of rec)
                  (option_and_then (slice_get rec.site_type_list) o)) type_is
                  ∙ ap (option_map (elements_of rec)) is;
              many = same_Some _ count h;
            }

        pub element_below : (element : NamesElement names rec phys text) → element.element < count
        element_below element =
            let same : counted.elements ≡ element.elements = same_Some _ _ (sym counted.of_site
            ∙ ap (elements_at rec) (sym (same_site element)) ∙ element.of_site) in
            omega (arith, element.in_site, ap length same, counted.many)

        -- another number isn't the element's
        pub same_number : (n : ℕ) → n < 2 ^ 32 → digits ≡ decimal n
            → NamesElement names rec phys text → n < count
        same_number n small digits_are element =
            let same : n ≡ element.element = decimal_injective n element.element
            (omega (arith, small))
            (omega (arith, few, element_below element))
            (sym digits_are ∙ (parts element).1) in
            omega (arith, same, element_below element)

        pub no_number : ((n : ℕ) → n < 2 ^ 32 → digits ≢ decimal n)
            → NamesElement names rec phys text → ⊥
        no_number none element = none element.element (omega (arith, few, element_below element))
            (parts element).1

        pub is_element : (sites : Marks) (n : ℕ) → AreNamesOf site_of phys.site_insts sites
            → has_mark sites id ≡ true → digits ≡ decimal n → n < count
            → NamesElement names rec phys text
        is_element sites n marked has digits_are below =
            let found = Any-from_list_any (λ i. nat_eq (site_of i) id) phys.site_insts
            (sym (named_among site_of phys.site_insts id) ∙ sym (marked id) ∙ has) in
            let same : found.1.site ≡ id = eqb-true found.1.site id found.4 in
            record {
              instance = found.1;
              stands = (found.0, found.2, found.3);
              site_text = site;
              site_is = ap (slice_get names) same ∙ id_is;
              element = n;
              rest_is = split.0 ∙ ap (λ d. site ++ slash ∷ d) digits_are;
              elements = counted.elements;
              of_site = ap (elements_at rec) same ∙ counted.of_site;
              in_site = omega (arith, below, counted.many);
            }
