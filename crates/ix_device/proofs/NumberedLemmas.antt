-- The numbers of LUT elements, element by element.
use Rattle.std.proofs.Common.{◌≡◌, refl, ap, sym, subst, ◌∙◌, ℕ, zero, suc, ◌+◌, ◌<◌, arith, ◌&&◌, Bool, true, false, nat_eq, if◌then◌else◌, List, [], ◌∷◌, ◌++◌, append_assoc, length, take, slice_get, Option, Some, None, option_map, option_and_then}
use Rattle.std.proofs.Math.Bool.{and-true}
use Rattle.std.proofs.Math.Seq.{take-length}
use Rattle.std.proofs.lemmas.Bool.{eqb-true, eqb-false, eq-eqb, ne_eqb}
use Rattle.std.proofs.lemmas.List.{append-nil, length-append}
use Rattle.ix_rec.specs.declared.device.LutElement.{LutElement}
use Rattle.ix_rec.specs.declared.device.SiteTypeLutElements.{SiteTypeLutElements}
use Rattle.ix_keys.specs.Keys.{key}
use Rattle.ix_first.specs.First.{value_at, or_later}
use Rattle.ix_first.specs.declared.by_key.FirstByKey.{FirstByKey}
use Rattle.ix_device_rules.specs.Rules.{elements_for}
use Rattle.ix_device.specs.declared.numbered.LutPlace.{LutPlace}
use Rattle.ix_device.specs.Numbered.{lut_at, HasElements}
use Rattle.ix_device.proofs.PlaceLemmas.{so_far, elements_next}
use Rattle.ix_device.proofs.Walks.{take_next, length_take}

eq_next : (m k : ℕ) → nat_eq (suc m) (suc k) ≡ nat_eq m k
eq_next m k = by (nat_eq m k) refl
  where
    by : (b : Bool) → nat_eq m k ≡ b → nat_eq (suc m) (suc k) ≡ b
    by true h = eq-eqb (suc m) (suc k) (ap suc (eqb-true m k h))
    by false h = ne_eqb (suc m) (suc k) (λ e. eqb-false m k h (let same : m ≡ k = omega (arith, e) in same))

-- one item more, at the end
get_push : {A : Type 0} (xs : List A) (y : A) (k : ℕ) → slice_get (xs ++ y ∷ []) k ≡ or_later (slice_get xs k) (nat_eq (length xs) k) y
get_push [] y zero = refl
get_push [] y (suc k) = ap (λ t. or_later None t y) (sym (ne_eqb 0 (suc k) (λ e. omega (arith, e))))
get_push (x ∷ xs) y zero = refl
get_push (x ∷ xs) y (suc k) = get_push xs y k ∙ ap (λ t. or_later (slice_get xs k) t y) (sym (eq_next (length xs) k))

pub there_is : {A : Type 0} (xs : List A) (k : ℕ) → k < length xs → (x : A) × (slice_get xs k ≡ Some x)
there_is [] k within = absurd (let no : k < 0 = within in omega (arith, no))
there_is (x ∷ xs) zero within = (x, refl)
there_is (x ∷ xs) (suc k) within = there_is xs k (omega (arith, within))

map_later : {A B : Type 0} (f : A → B) (o : Option A) (b : Bool) (v : A) → option_map f (or_later o b v) ≡ or_later (option_map f o) b (f v)
map_later f (Some x) b v = refl
map_later f None true v = refl
map_later f None false v = refl

later_false : {A : Type 0} (o : Option A) (v : A) → or_later o false v ≡ o
later_false (Some w) v = refl
later_false None v = refl

module _ (entries : List SiteTypeLutElements) (i : ℕ) (e : SiteTypeLutElements) (at_i : slice_get entries i ≡ Some e) where
  -- one element more of the next entry was put
  pub one_more_element : (k first element : ℕ) (p : LutPlace) (l : LutElement) (old new : FirstByKey LutPlace)
      → slice_get e.luts k ≡ Some l → first ≡ length (elements_for e.site (take i entries)) → p.entry ≡ i → p.lut ≡ k → element ≡ first + p.lut
      → HasElements entries (so_far entries i e at_i k) old
      → ((ty q : ℕ) → value_at new (key ty q 0) ≡ or_later (value_at old (key ty q 0)) (nat_eq e.site ty && (nat_eq element q && true)) p)
      → HasElements entries (so_far entries i e at_i (k + 1)) new
  one_more_element k first element p l old new at_k counted at_entry at_lut at_element are puts ty q = ap (option_map (lut_at entries)) (puts ty q) ∙ by (nat_eq e.site ty) refl (are ty q)
    where
      there : lut_at entries p ≡ Some l
      there = ap (option_and_then (λ x. slice_get x.luts p.lut)) (ap (slice_get entries) at_entry ∙ at_i) ∙ ap (slice_get e.luts) at_lut ∙ at_k

      numbered : e.site ≡ ty → element ≡ length (elements_for ty (take i entries) ++ take k e.luts)
      numbered same =
          at_element ∙ ap (λ n. n + p.lut) (counted ∙ ap (λ s. length (elements_for s (take i entries))) same)
          ∙ ap (λ n. length (elements_for ty (take i entries)) + n) (at_lut ∙ sym (length_take e.luts k l at_k))
          ∙ sym (length-append (elements_for ty (take i entries)) (take k e.luts))

      grown : (elements_for ty (take i entries) ++ take k e.luts) ++ l ∷ [] ≡ elements_for ty (take i entries) ++ take (k + 1) e.luts
      grown = append_assoc (elements_for ty (take i entries)) (take k e.luts) (l ∷ []) ∙ ap (λ xs. elements_for ty (take i entries) ++ xs) (sym (take_next e.luts k l at_k))

      by : (b : Bool) → nat_eq e.site ty ≡ b → option_map (lut_at entries) (value_at old (key ty q 0)) ≡ option_map Some (slice_get (elements_for ty (take i entries) ++ (if b then take k e.luts else [])) q)
          → option_map (lut_at entries) (or_later (value_at old (key ty q 0)) (b && (nat_eq element q && true)) p) ≡ option_map Some (slice_get (elements_for ty (take i entries) ++ (if b then take (k + 1) e.luts else [])) q)
      by false same before = ap (option_map (lut_at entries)) (later_false (value_at old (key ty q 0)) p) ∙ before
      by true same before =
          map_later (lut_at entries) (value_at old (key ty q 0)) (nat_eq element q && true) p
          ∙ ap (λ v. or_later (option_map (lut_at entries) (value_at old (key ty q 0))) (nat_eq element q && true) v) there
          ∙ ap (λ o. or_later o (nat_eq element q && true) (Some l)) before
          ∙ ap (λ b. or_later (option_map Some (slice_get (elements_for ty (take i entries) ++ take k e.luts) q)) b (Some l)) (and-true (nat_eq element q))
          ∙ ap (λ n. or_later (option_map Some (slice_get (elements_for ty (take i entries) ++ take k e.luts) q)) (nat_eq n q) (Some l)) (numbered (eqb-true e.site ty same))
          ∙ sym (map_later Some (slice_get (elements_for ty (take i entries) ++ take k e.luts) q) (nat_eq (length (elements_for ty (take i entries) ++ take k e.luts)) q) l)
          ∙ ap (option_map Some) (sym (get_push (elements_for ty (take i entries) ++ take k e.luts) l q) ∙ ap (λ xs. slice_get xs q) grown)

  -- all elements of the next entry were put
  pub all_elements : (k : ℕ) (table : FirstByKey LutPlace) → k ≡ length e.luts → HasElements entries (so_far entries i e at_i k) table → HasElements entries (λ ty. elements_for ty (take (i + 1) entries)) table
  all_elements k table end are ty q =
      are ty q
      ∙ ap (λ xs. option_map Some (slice_get xs q)) (ap (λ xs. elements_for ty (take i entries) ++ (if nat_eq e.site ty then xs else [])) (ap (λ n. take n e.luts) end ∙ take-length e.luts) ∙ sym (elements_next entries i e at_i ty))
