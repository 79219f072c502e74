-- Rows of elements, entry by entry.
use Rattle.std.proofs.Common.{◌≡◌, ◌≢◌, ◌<◌, ◌+◌, ◌∙◌, refl, ap, sym, ℕ, zero, suc, List, [], ◌∷◌, ◌++◌, length}
use Rattle.std.proofs.Common.{map, take, set, slice_get, Some, None, Bool, true, false}
use Rattle.std.proofs.Common.{nat_eq, if◌then◌else◌, option_map, option_and_then, unwrap_or}
use Rattle.std.proofs.Common.{length-set, append_assoc, inl, inr}
use Rattle.std.proofs.Math.Seq.{take-length}
use Rattle.std.proofs.lemmas.Bool.{cases_eq, eq-eqb, ne_eqb}
use Rattle.std.proofs.lemmas.List.{append-nil, map-append}
use Rattle.std.proofs.lemmas.Option.{none-some, same_Some, slice_get_within}
use Rattle.ix_rec.specs.declared.device.DeviceRec.{DeviceRec}
use Rattle.ix_rec.specs.declared.device.SiteType.{SiteType}
use Rattle.ix_rec.specs.declared.device.SiteTypeLutElements.{SiteTypeLutElements}
use Rattle.ix_device_rules.specs.Rules.{first_broken, elements_for}
use Rattle.ix_device.specs.Lookups.{site_type_number}
use Rattle.ix_device.proofs.Listings.{owner_named, unowned}
use Rattle.ix_device.proofs.NumberedLemmas.{there_is}
use Rattle.ix_device.proofs.OptionLemmas.{position-at}
use Rattle.ix_device.proofs.PlaceLemmas.{elements_next}
use Rattle.ix_device.proofs.Valid.{types_differ}
use Rattle.ix_device.proofs.Walks.{take_next}
use Rattle.ix_lut_places.specs.declared.filling.ElementPlace.{ElementPlace}
use Rattle.ix_lut_places.specs.Places.{lut_at, AreElements}
use Rattle.ix_lut_places.specs.Filled.{luts_of, HaveElements}

set_here : {A : Type 0} (xs : List A) (i : ℕ) (x y : A) → slice_get xs i ≡ Some y
    → slice_get (set xs i x) i ≡ Some x
set_here [] i x y h = absurd (none-some y h)
set_here (z ∷ zs) zero x y h = refl
set_here (z ∷ zs) (suc i) x y h = set_here zs i x y h

set_elsewhere : {A : Type 0} (xs : List A) (i j : ℕ) (x : A) → j ≢ i
    → slice_get (set xs i x) j ≡ slice_get xs j
set_elsewhere [] i j x apart = refl
set_elsewhere (z ∷ zs) zero zero x apart = absurd (apart refl)
set_elsewhere (z ∷ zs) zero (suc j) x apart = refl
set_elsewhere (z ∷ zs) (suc i) zero x apart = refl
set_elsewhere (z ∷ zs) (suc i) (suc j) x apart =
    set_elsewhere zs i j x (λ same. apart (ap suc same))

luts_are : (rec : DeviceRec) (entry : ℕ) (e : SiteTypeLutElements)
    → slice_get rec.lut_definitions.lut_elements entry ≡ Some e → luts_of rec entry ≡ e.luts
luts_are rec entry e is = ap (λ o. unwrap_or (option_map (λ x. x.luts) o) []) is

-- one element more of an entry
pub one_more_lut : (rec : DeviceRec) (entry k : ℕ) (e : SiteTypeLutElements)
    (old row now : List ElementPlace) (p : ElementPlace)
    → slice_get rec.lut_definitions.lut_elements entry ≡ Some e → k < length e.luts
    → p.entry ≡ entry → p.lut ≡ k → now ≡ row ++ p ∷ []
    → map (lut_at rec) row ≡ map (lut_at rec) old ++ map Some (take k (luts_of rec entry))
    → map (lut_at rec) now ≡ map (lut_at rec) old ++ map Some (take (k + 1) (luts_of rec entry))
one_more_lut rec entry k e old row now p is within at_entry at_lut pushed before =
    let luts = luts_of rec entry in
    let one = there_is e.luts k within in
    let there : slice_get luts k ≡ Some one.0 =
    ap (λ l. slice_get l k) (luts_are rec entry e is) ∙ one.1 in
    let stands : lut_at rec p ≡ Some one.0 =
    ap (λ n. option_and_then (λ x. slice_get x.luts p.lut)
    (slice_get rec.lut_definitions.lut_elements n)) at_entry
    ∙ ap (option_and_then (λ x. slice_get x.luts p.lut)) is ∙ ap (slice_get e.luts) at_lut
    ∙ one.1 in
    ap (map (lut_at rec)) pushed ∙ map-append (lut_at rec) row (p ∷ [])
    ∙ ap (λ xs. xs ++ lut_at rec p ∷ []) before
    ∙ append_assoc (map (lut_at rec) old) (map Some (take k luts)) (lut_at rec p ∷ [])
    ∙ ap (λ o. map (lut_at rec) old ++ (map Some (take k luts) ++ o ∷ [])) stands
    ∙ ap (λ xs. map (lut_at rec) old ++ xs) (sym (map-append Some (take k luts) (one.0 ∷ []))
    ∙ ap (map Some) (sym (take_next luts k one.0 there)))

-- all of them
pub whole_entry : (rec : DeviceRec) (entry k : ℕ) (e : SiteTypeLutElements)
    (old row : List ElementPlace)
    → slice_get rec.lut_definitions.lut_elements entry ≡ Some e → k ≡ length e.luts
    → map (lut_at rec) row ≡ map (lut_at rec) old ++ map Some (take k (luts_of rec entry))
    → map (lut_at rec) row ≡ map (lut_at rec) old ++ map Some (luts_of rec entry)
whole_entry rec entry k e old row is end before =
    before ∙ ap (λ l. map (lut_at rec) old ++ map Some l) (ap (λ n. take n (luts_of rec entry))
    (end ∙ ap length (sym (luts_are rec entry e is))) ∙ take-length (luts_of rec entry))

module _ (rec : DeviceRec) (count : ℕ) (e : SiteTypeLutElements)
    (is : slice_get rec.lut_definitions.lut_elements count ≡ Some e)
    (valid : first_broken rec ≡ None) (rows : List (List ElementPlace))
    (have : HaveElements rec count rows) where
  -- the elements of a site type among those of one entry more
  next : (b : Bool) (ty : SiteType) → nat_eq e.site ty.name ≡ b
      → map Some (elements_for ty.name (take count rec.lut_definitions.lut_elements))
      ++ map Some (if b then e.luts else [])
      ≡ map Some (elements_for ty.name (take (count + 1) rec.lut_definitions.lut_elements))
  next b ty same =
      let entries = rec.lut_definitions.lut_elements in
      let before = elements_for ty.name (take count entries) in
      sym (map-append Some before (if b then e.luts else []))
      ∙ ap (λ t. map Some (before ++ (if t then e.luts else []))) (sym same)
      ∙ ap (map Some) (sym (elements_next entries count e is ty.name))

  others : (ty : SiteType) (row : List ElementPlace) → nat_eq e.site ty.name ≡ false
      → map (lut_at rec) row
      ≡ map Some (elements_for ty.name (take count rec.lut_definitions.lut_elements))
      → map (lut_at rec) row
      ≡ map Some (elements_for ty.name (take (count + 1) rec.lut_definitions.lut_elements))
  others ty row not before = before ∙ sym (append-nil _) ∙ next false ty not

  -- an entry of a site type that is there
  pub one_more_entry : (t : ℕ) (row now : List ElementPlace)
      → site_type_number rec e.site ≡ Some t → slice_get rows t ≡ Some row
      → map (lut_at rec) now ≡ map (lut_at rec) row ++ map Some (luts_of rec count)
      → HaveElements rec (count + 1) (set rows t now)
  one_more_entry t row now found here grown = record {
    types = length-set rows t now ∙ have.types;
    each = λ u ty r at_u at_r. elim (cases_eq u t) [
      | inl same ↦
          let owns : nat_eq e.site ty.name ≡ true =
          sym (owner_named rec.site_type_list e.site t u ty (types_differ rec valid) found at_u)
          ∙ eq-eqb t u (sym same) in
          let put : r ≡ now = same_Some r now (sym at_r ∙ ap (slice_get (set rows t now)) same
          ∙ set_here rows t now row here) in
          ap (map (lut_at rec)) put ∙ grown
          ∙ ap (λ l. map (lut_at rec) row ++ map Some l) (luts_are rec count e is)
          ∙ ap (λ xs. xs ++ map Some e.luts)
          (have.each u ty row at_u (ap (slice_get rows) same ∙ here))
          ∙ next true ty owns
      | inr apart ↦
          let not : nat_eq e.site ty.name ≡ false =
          sym (owner_named rec.site_type_list e.site t u ty (types_differ rec valid) found at_u)
          ∙ ne_eqb t u (λ same. apart (sym same)) in
          others ty r not (have.each u ty r at_u
          (sym (set_elsewhere rows t u now apart) ∙ at_r))
    ];
  }

  -- of one that isn't
  pub entry_passed : site_type_number rec e.site ≡ None → HaveElements rec (count + 1) rows
  entry_passed none = record {
    types = have.types;
    each = λ u ty r at_u at_r.
        others ty r (unowned rec.site_type_list e.site u ty none at_u) (have.each u ty r at_u at_r);
  }

-- all entries
pub all_entries : (rec : DeviceRec) (count : ℕ) (rows : List (List ElementPlace))
    → count ≡ length rec.lut_definitions.lut_elements → HaveElements rec count rows
    → AreElements rec rows
all_entries rec count rows end have = record {
  types = have.types;
  each = λ t ty row at_t at_row. have.each t ty row at_t at_row
      ∙ ap (λ es. map Some (elements_for ty.name es))
      (ap (λ n. take n rec.lut_definitions.lut_elements) end
      ∙ take-length rec.lut_definitions.lut_elements);
}

-- rows before the first entry

pub one_more_row : (rows now : List (List ElementPlace)) → now ≡ rows ++ [] ∷ []
    → ((t : ℕ) (row : List ElementPlace) → slice_get rows t ≡ Some row → row ≡ [])
    → (t : ℕ) (row : List ElementPlace) → slice_get now t ≡ Some row → row ≡ []
one_more_row rows now pushed empty t row is =
    push rows empty t row (ap (λ l. slice_get l t) (sym pushed) ∙ is)
  where
    push : (xs : List (List ElementPlace))
        → ((t : ℕ) (row : List ElementPlace) → slice_get xs t ≡ Some row → row ≡ [])
        → (t : ℕ) (row : List ElementPlace) → slice_get (xs ++ [] ∷ []) t ≡ Some row → row ≡ []
    push [] each zero row h = sym (same_Some [] row h)
    push [] each (suc t) row h = absurd (none-some row h)
    push (x ∷ xs) each zero row h = each zero row h
    push (x ∷ xs) each (suc t) row h = push xs (λ u. each (suc u)) t row h

pub no_entries : (rec : DeviceRec) (rows : List (List ElementPlace))
    → length rows ≡ length rec.site_type_list
    → ((t : ℕ) (row : List ElementPlace) → slice_get rows t ≡ Some row → row ≡ [])
    → HaveElements rec 0 rows
no_entries rec rows many empty = record {
  types = many;
  each = λ t ty row at_t at_row. ap (map (lut_at rec)) (empty t row at_row)
      ∙ sym (ap (λ es. map Some (elements_for ty.name es))
      (take_none rec.lut_definitions.lut_elements));
}
  where
    take_none : (xs : List SiteTypeLutElements) → take 0 xs ≡ []
    take_none [] = refl
    take_none (x ∷ xs) = refl

-- a site type that is found by name is there
pub type_within : (rec : DeviceRec) (name t : ℕ) → site_type_number rec name ≡ Some t
    → t < length rec.site_type_list
type_within rec name t found =
    let at = position-at (λ u. nat_eq u.name name) rec.site_type_list t found in
    slice_get_within rec.site_type_list t at.0 at.1
