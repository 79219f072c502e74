-- The first numbers of the elements of one instance more.
use Rattle.std.proofs.Common.{◌≡◌, ◌<◌, ◌≤◌, ◌+◌, ◌^◌, ◌∙◌, refl, ap, sym, ℕ, suc, arith, inl, inr}
use Rattle.std.proofs.Common.{List, [], ◌∷◌, ◌++◌, length, take}
use Rattle.std.specs.Prelude.{slice_get, Some, zero}
use Rattle.std.specs.List.{sum_by}
use Rattle.std.proofs.lemmas.List.{length-append}
use Rattle.std.proofs.lemmas.List.Sums.{sum_by-cons, sum_by_more}
use Rattle.std.proofs.lemmas.Option.{none-some, same_Some, slice_get_within, get_or_from_slice_get}
use Rattle.ix_rec.specs.declared.device.DeviceRec.{DeviceRec}
use Rattle.ix_rec.specs.declared.phys.SiteInstance.{SiteInstance}
use Rattle.ix_device.proofs.TypeLemmas.{slice_get-push}
use Rattle.ix_element_numbers.specs.Numbers.{AreBases, elements_of_instance, elements_before}

-- what an item counts is within what is counted of the first items after it
counted_before : {A : Type 0} (f : A → ℕ) (xs : List A) (i j : ℕ) (x : A)
    → slice_get xs i ≡ Some x → i < j → sum_by f (take i xs) + f x ≤ sum_by f (take j xs)
counted_before f [] i j x at lt = absurd (none-some x at)
counted_before f (y ∷ ys) i zero x at lt = absurd (omega (arith, lt))
counted_before f (y ∷ ys) zero (suc j) x at lt =
    let same : f y ≡ f x = ap f (same_Some y x at) in
    let more = sum_by-cons f y (take j ys) in omega (arith, same, more)
counted_before f (y ∷ ys) (suc i) (suc j) x at lt =
    let rest = counted_before f ys i j x at (omega (arith, lt)) in
    let one = sum_by-cons f y (take i ys) in
    let two = sum_by-cons f y (take j ys) in omega (arith, rest, one, two)

module _ (rec : DeviceRec) (instances : List SiteInstance) where
  -- the elements of a later instance come after those of an earlier one
  pub elements_after : (i j : ℕ) (instance : SiteInstance)
      → slice_get instances i ≡ Some instance → i < j
      → elements_before rec instances i + elements_of_instance rec instance
      ≤ elements_before rec instances j
  elements_after i j instance at lt =
      counted_before (elements_of_instance rec) instances i j instance at lt

  -- with one instance more
  one_more_before : (i : ℕ) (instance : SiteInstance) → slice_get instances i ≡ Some instance
      → elements_before rec instances (i + 1)
      ≡ elements_before rec instances i + elements_of_instance rec instance
  one_more_before i instance at =
      sum_by_more (elements_of_instance rec) instances i instance
      (slice_get_within instances i instance at)
      ∙ ap (λ x. elements_before rec instances i + elements_of_instance rec x)
      (get_or_from_slice_get instances i instance instance at)

  pub no_bases : AreBases rec instances 0 [] 0
  no_bases = record {
    all = refl;
    each = λ i base at. absurd (none-some base at);
    count_is = refl;
    few = omega arith;
  }

  pub one_more_base : (done : ℕ) (bases : List ℕ) (count : ℕ)
      → AreBases rec instances done bases count → (now : List ℕ) → now ≡ bases ++ count ∷ []
      → (instance : SiteInstance) → slice_get instances done ≡ Some instance
      → (n : ℕ) → n ≡ elements_of_instance rec instance → n < 2 ^ 32
      → AreBases rec instances (done + 1) now (count + n)
  one_more_base done bases count were now now_is instance at n n_is small = record {
    all = ap length now_is ∙ length-append bases (count ∷ []) ∙ ap (λ m. m + 1) were.all;
    each = λ i base is.
        elim (slice_get-push bases count i base (ap (λ xs. slice_get xs i) (sym now_is) ∙ is)) [
          | inl before ↦ were.each i base before
          | inr last ↦ sym last.1 ∙ were.count_is
              ∙ ap (elements_before rec instances) (sym (last.0 ∙ were.all))
        ];
    count_is = ap (λ m. m + n) were.count_is
        ∙ ap (λ m. elements_before rec instances done + m) n_is
        ∙ sym (one_more_before done instance at);
    few = let under = were.few in omega (arith, under, small);
  }
