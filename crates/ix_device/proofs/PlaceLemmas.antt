-- The places of LUT BELs, element by element.
use Rattle.std.proofs.Common.{◌≡◌, refl, ap, sym, ◌∙◌, ℕ, zero, suc, ◌+◌, ◌&&◌, Bool, true, false, true≢false, cond, nat_eq, if◌then◌else◌, List, [], ◌∷◌, ◌++◌, append_assoc, length, take, slice_get, Option, Some, None, is_some, option_map, option_and_then}
use Rattle.std.specs.Option.{option_or}
use Rattle.std.specs.List.{position, find}
use Rattle.std.proofs.Math.Seq.{take-length}
use Rattle.std.proofs.lemmas.Bool.{eq-eqb, eqb-true}
use Rattle.std.proofs.lemmas.Grind.{flat_map-append}
use Rattle.std.proofs.lemmas.List.{append-nil, length-append}
use Rattle.std.proofs.lemmas.Option.{none-some}
use Rattle.ix_rec.specs.declared.device.LutElement.{LutElement}
use Rattle.ix_rec.specs.declared.device.SiteTypeLutElements.{SiteTypeLutElements}
use Rattle.ix_keys.specs.Keys.{key}
use Rattle.ix_first.specs.First.{value_at, or_later}
use Rattle.ix_first.specs.declared.by_key.FirstByKey.{FirstByKey}
use Rattle.ix_device_rules.specs.Rules.{element_has, elements_for}
use Rattle.ix_device.specs.declared.element_places.ElementPlace.{ElementPlace}
use Rattle.ix_device.specs.Elements.{place_in, place_in_element}
use Rattle.ix_device.specs.Places.{place_told, element_at, ArePlaces}
use Rattle.ix_device.proofs.FirstPlaces.{position-push}
use Rattle.ix_device.proofs.Walks.{take_next, length_take}
use Rattle.ix_device.proofs.OptionLemmas.{option_or-none, option_map-or, option_map-map, list_any-position, position-at, find-push}

-- one BEL more of an element was put
pub one_more_bel : {A : Type 0} (old : Option A) (a b : Bool) (f : ℕ → A) (found : Option ℕ) (j : ℕ)
    → or_later (option_or old (if a then option_map f found else None)) (a && b) (f j) ≡ option_or old (if a then option_map f (or_later found b j) else None)
one_more_bel (Some x) a b f found j = refl
one_more_bel None false b f found j = refl
one_more_bel None true b f (Some k) j = refl
one_more_bel None true true f None j = refl
one_more_bel None true false f None j = refl

slice_get-push_before : {A : Type 0} (xs : List A) (y : A) (k : ℕ) (x : A) → slice_get xs k ≡ Some x → slice_get (xs ++ y ∷ []) k ≡ Some x
slice_get-push_before [] y k x h = absurd (none-some x h)
slice_get-push_before (z ∷ zs) y zero x h = h
slice_get-push_before (z ∷ zs) y (suc k) x h = slice_get-push_before zs y k x h

slice_get-push_last : {A : Type 0} (xs : List A) (y : A) → slice_get (xs ++ y ∷ []) (length xs) ≡ Some y
slice_get-push_last [] y = refl
slice_get-push_last (x ∷ xs) y = slice_get-push_last xs y

module _ (bel : ℕ) where
  -- the place of the BEL in the k-th of these
  in_one : List LutElement → ℕ → Option (ℕ × ℕ)
  in_one es k = option_map (λ j. (k, j)) (option_and_then (place_in_element bel) (slice_get es k))

  has-place : (e : LutElement) → element_has bel e ≡ is_some (place_in_element bel e)
  has-place e = list_any-position (λ b. nat_eq b.name bel) e.bels

  pub place_in-push : (es : List LutElement) (l : LutElement) → place_in bel (es ++ l ∷ []) ≡ option_or (place_in bel es) (option_map (λ j. (length es, j)) (place_in_element bel l))
  unfolding in_one
  place_in-push es l = ap (option_and_then (in_one (es ++ l ∷ []))) (position-push (element_has bel) es l) ∙ by (position (element_has bel) es) refl
    where
      last : (o : Option ℕ) → place_in_element bel l ≡ o → option_and_then (in_one (es ++ l ∷ [])) (or_later None (is_some o) (length es)) ≡ option_map (λ j. (length es, j)) o
      last None e = refl
      last (Some j) e = ap (λ s. option_map (λ j. (length es, j)) (option_and_then (place_in_element bel) s)) (slice_get-push_last es l) ∙ ap (option_map (λ j. (length es, j))) e

      there : (k : ℕ) (x : LutElement) (rest : Option (ℕ × ℕ)) (o : Option ℕ) → place_in_element bel x ≡ o → is_some o ≡ true → slice_get es k ≡ Some x → in_one (es ++ l ∷ []) k ≡ option_or (in_one es k) rest
      there k x rest None e has at = absurd (true≢false (sym has))
      there k x rest (Some j) e has at =
          ap (λ s. option_map (λ j. (k, j)) (option_and_then (place_in_element bel) s)) (slice_get-push_before es l k x at)
          ∙ ap (option_map (λ j. (k, j))) e
          ∙ sym (ap (λ s. option_or (option_map (λ j. (k, j)) (option_and_then (place_in_element bel) s)) rest) at ∙ ap (λ o. option_or (option_map (λ j. (k, j)) o) rest) e)

      by : (o : Option ℕ) → position (element_has bel) es ≡ o
          → option_and_then (in_one (es ++ l ∷ [])) (or_later o (element_has bel l) (length es)) ≡ option_or (option_and_then (in_one es) o) (option_map (λ j. (length es, j)) (place_in_element bel l))
      by None e = ap (λ b. option_and_then (in_one (es ++ l ∷ [])) (or_later None b (length es))) (has-place l) ∙ last (place_in_element bel l) refl
      by (Some k) e =
          let at = position-at (element_has bel) es k e in
          there k at.0 (option_map (λ j. (length es, j)) (place_in_element bel l)) (place_in_element bel at.0) refl (sym (has-place at.0) ∙ at.2) at.1

-- one element more was put
module _ (entries : List SiteTypeLutElements) (elements : ℕ → List LutElement) (old new : FirstByKey ElementPlace) (site : ℕ) (at : ElementPlace) (l : LutElement) (are : ArePlaces entries elements old) (number : at.element ≡ length (elements site)) (there : element_at entries at ≡ Some l) where
  placed : ℕ → ElementPlace
  placed j = record at { place = j }

  told : (ty bel : ℕ) (b : Bool) → nat_eq site ty ≡ b
      → option_map place_told (option_or (value_at old (key ty 0 bel)) (if b then option_map placed (place_in_element bel l) else None)) ≡ place_in bel (elements ty ++ (if b then l ∷ [] else []))
  unfolding placed
  told ty bel true same =
      option_map-or place_told (value_at old (key ty 0 bel)) (option_map placed (place_in_element bel l))
      ∙ ap (λ o. option_or o (option_map place_told (option_map placed (place_in_element bel l)))) (are.places ty bel)
      ∙ ap (option_or (place_in bel (elements ty))) (option_map-map placed place_told (place_in_element bel l))
      ∙ ap (λ n. option_or (place_in bel (elements ty)) (option_map (λ j. (n, j)) (place_in_element bel l))) (number ∙ ap (λ s. length (elements s)) (eqb-true site ty same))
      ∙ sym (place_in-push bel (elements ty) l)
  told ty bel false same = ap (option_map place_told) (option_or-none (value_at old (key ty 0 bel))) ∙ are.places ty bel ∙ ap (place_in bel) (sym (append-nil (elements ty)))

  found : (bel : ℕ) (o : Option ℕ) → option_map (λ j. element_at entries (placed j)) o ≡ option_map Some (cond (is_some o) (Some l) None)
  unfolding placed
  found bel None = refl
  found bel (Some j) = ap Some there

  leads : (ty bel : ℕ) (b : Bool)
      → option_map (element_at entries) (option_or (value_at old (key ty 0 bel)) (if b then option_map placed (place_in_element bel l) else None)) ≡ option_map Some (find (element_has bel) (elements ty ++ (if b then l ∷ [] else [])))
  leads ty bel true =
      option_map-or (element_at entries) (value_at old (key ty 0 bel)) (option_map placed (place_in_element bel l))
      ∙ ap (λ o. option_or o (option_map (element_at entries) (option_map placed (place_in_element bel l)))) (are.luts ty bel)
      ∙ ap (option_or (option_map Some (find (element_has bel) (elements ty)))) (option_map-map placed (element_at entries) (place_in_element bel l) ∙ found bel (place_in_element bel l) ∙ ap (λ b. option_map Some (cond b (Some l) None)) (sym (has-place bel l)))
      ∙ sym (option_map-or Some (find (element_has bel) (elements ty)) (cond (element_has bel l) (Some l) None))
      ∙ ap (option_map Some) (sym (find-push (element_has bel) (elements ty) l))
  leads ty bel false = ap (option_map (element_at entries)) (option_or-none (value_at old (key ty 0 bel))) ∙ are.luts ty bel ∙ ap (λ es. option_map Some (find (element_has bel) es)) (sym (append-nil (elements ty)))

  pub one_more_element : (elements' : ℕ → List LutElement) → ((ty : ℕ) → elements ty ++ (if nat_eq site ty then l ∷ [] else []) ≡ elements' ty)
      → ((ty bel : ℕ) → value_at new (key ty 0 bel) ≡ option_or (value_at old (key ty 0 bel)) (if nat_eq site ty then option_map (λ j. record at { place = j }) (place_in_element bel l) else None))
      → ArePlaces entries elements' new
  unfolding placed
  one_more_element elements' same puts = record {
    places = λ ty bel. ap (option_map place_told) (puts ty bel) ∙ told ty bel (nat_eq site ty) refl ∙ ap (place_in bel) (same ty);
    luts = λ ty bel. ap (option_map (element_at entries)) (puts ty bel) ∙ leads ty bel (nat_eq site ty) ∙ ap (λ es. option_map Some (find (element_has bel) es)) (same ty);
  }

-- what holds of elements holds of the same elements
pub same_elements : (entries : List SiteTypeLutElements) (elements elements' : ℕ → List LutElement) (table : FirstByKey ElementPlace) → ((ty : ℕ) → elements ty ≡ elements' ty) → ArePlaces entries elements table → ArePlaces entries elements' table
same_elements entries elements elements' table same are = record {
  places = λ ty bel. are.places ty bel ∙ ap (place_in bel) (same ty);
  luts = λ ty bel. are.luts ty bel ∙ ap (λ es. option_map Some (find (element_has bel) es)) (same ty);
}

module _ (entries : List SiteTypeLutElements) (i : ℕ) (e : SiteTypeLutElements) (at_i : slice_get entries i ≡ Some e) where
  -- the elements of the first entries, and the first of the next entry
  abbrev pub so_far : ℕ → ℕ → List LutElement
  so_far k ty = elements_for ty (take i entries) ++ (if nat_eq e.site ty then take k e.luts else [])

  pub elements_next : (ty : ℕ) → elements_for ty (take (i + 1) entries) ≡ elements_for ty (take i entries) ++ (if nat_eq e.site ty then e.luts else [])
  elements_next ty =
      ap (elements_for ty) (take_next entries i e at_i)
      ∙ flat_map-append (λ x. if nat_eq x.site ty then x.luts else []) (take i entries) (e ∷ [])
      ∙ ap (λ l. elements_for ty (take i entries) ++ l) (append-nil (if nat_eq e.site ty then e.luts else []))

  -- one element more of the next entry was put
  pub one_more_lut : (k first number lut element : ℕ) (l : LutElement) (old new : FirstByKey ElementPlace)
      → slice_get e.luts k ≡ Some l → first ≡ length (elements_for e.site (take i entries)) → number ≡ i → lut ≡ k → element ≡ first + lut
      → ArePlaces entries (so_far k) old
      → ((ty bel : ℕ) → value_at new (key ty 0 bel) ≡ option_or (value_at old (key ty 0 bel)) (if nat_eq e.site ty then option_map (λ j. record { element = element; place = j; entry = number; lut = lut }) (place_in_element bel l) else None))
      → ArePlaces entries (so_far (k + 1)) new
  one_more_lut k first number lut element l old new at_k counted at_number at_lut at_element are puts =
      one_more_element entries (so_far k) old new e.site (record { element = element; place = 0; entry = number; lut = lut }) l are numbered there (so_far (k + 1)) same puts
    where
      numbered : element ≡ length (so_far k e.site)
      numbered =
          at_element ∙ ap (λ n. n + lut) counted ∙ ap (λ n. length (elements_for e.site (take i entries)) + n) (at_lut ∙ sym (length_take e.luts k l at_k))
          ∙ sym (length-append (elements_for e.site (take i entries)) (take k e.luts))
          ∙ ap (λ b. length (elements_for e.site (take i entries) ++ (if b then take k e.luts else []))) (sym (eq-eqb e.site e.site refl))

      there : element_at entries (record { element = element; place = 0; entry = number; lut = lut }) ≡ Some l
      there = ap (λ s. option_and_then (λ x. slice_get x.luts lut) s) (ap (slice_get entries) at_number ∙ at_i) ∙ ap (slice_get e.luts) at_lut ∙ at_k

      grown : (b : Bool) (before : List LutElement) → (before ++ (if b then take k e.luts else [])) ++ (if b then l ∷ [] else []) ≡ before ++ (if b then take (k + 1) e.luts else [])
      grown true before = append_assoc before (take k e.luts) (l ∷ []) ∙ ap (λ xs. before ++ xs) (sym (take_next e.luts k l at_k))
      grown false before = append-nil (before ++ [])

      same : (ty : ℕ) → so_far k ty ++ (if nat_eq e.site ty then l ∷ [] else []) ≡ so_far (k + 1) ty
      same ty = grown (nat_eq e.site ty) (elements_for ty (take i entries))

  -- all elements of the next entry were put
  pub whole_entry : (k : ℕ) (table : FirstByKey ElementPlace) → k ≡ length e.luts → ArePlaces entries (so_far k) table → ArePlaces entries (λ ty. elements_for ty (take (i + 1) entries)) table
  whole_entry k table end are = same_elements entries (so_far k) (λ ty. elements_for ty (take (i + 1) entries)) table same are
    where
      same : (ty : ℕ) → so_far k ty ≡ elements_for ty (take (i + 1) entries)
      same ty = ap (λ xs. elements_for ty (take i entries) ++ (if nat_eq e.site ty then xs else [])) (ap (λ n. take n e.luts) end ∙ take-length e.luts) ∙ sym (elements_next ty)

  -- the next entry's elements were counted
  pub one_more_count : (next : ℕ) (old new : ℕ → ℕ) → ((ty : ℕ) → old ty ≡ length (elements_for ty (take i entries))) → next ≡ old e.site + length e.luts
      → ((ty : ℕ) → new ty ≡ (if nat_eq e.site ty then next else old ty)) → (ty : ℕ) → new ty ≡ length (elements_for ty (take (i + 1) entries))
  one_more_count next old new counted at_next step ty = step ty ∙ by (nat_eq e.site ty) refl ∙ ap length (sym (elements_next ty))
    where
      by : (b : Bool) → nat_eq e.site ty ≡ b → (if b then next else old ty) ≡ length (elements_for ty (take i entries) ++ (if b then e.luts else []))
      by true same =
          at_next ∙ ap (λ n. n + length e.luts) (ap old (eqb-true e.site ty same) ∙ counted ty) ∙ sym (length-append (elements_for ty (take i entries)) e.luts)
      by false same = counted ty ∙ ap length (sym (append-nil (elements_for ty (take i entries))))
