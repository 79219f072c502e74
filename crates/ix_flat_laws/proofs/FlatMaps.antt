-- Lists made of a list for each item.
use Rattle.std.proofs.Common.{◌≡◌, ◌⊎◌, ◌<◌, ◌≤◌, ◌+◌, ◌-◌, ◌∙◌, ap, sym, refl, ℕ, zero, suc, List}
use Rattle.std.proofs.Common.{[], ◌∷◌, ◌++◌, length, take, slice_get, Some, inl, inr, arith}
use Rattle.std.specs.List.{flat_map, sum_by}
use Rattle.std.proofs.lemmas.Bool.{cases_lt}
use Rattle.std.proofs.lemmas.List.Sums.{sum_by-cons}
use Rattle.std.proofs.lemmas.Option.{same_Some, none-some, slice_get_within}

-- an item of the list of one of the items
pub record IsIn {A B : Type 0} (f : A → List B) (xs : List A) (number : ℕ) (item : B) : Type 0 where
  pub place : ℕ
  pub outer : A
  pub at : slice_get xs place ≡ Some outer
  pub index : ℕ
  pub inner : slice_get (f outer) index ≡ Some item
  pub number_is : number ≡ sum_by (λ x. length (f x)) (take place xs) + index

pub get_left : {A : Type 0} (xs ys : List A) (k : ℕ) → k < length xs
    → slice_get (xs ++ ys) k ≡ slice_get xs k
get_left [] ys k lt = absurd (omega (arith, lt))
get_left (x ∷ xs) ys zero lt = refl
get_left (x ∷ xs) ys (suc k) lt = get_left xs ys k (omega (arith, lt))

pub get_right : {A : Type 0} (xs ys : List A) (k : ℕ)
    → slice_get (xs ++ ys) (length xs + k) ≡ slice_get ys k
get_right [] ys k = ap (slice_get ys) (let e : 0 + k ≡ k = omega arith in e)
get_right (x ∷ xs) ys k = let e : suc (length xs) + k ≡ suc (length xs + k) = omega arith in
    ap (slice_get (x ∷ xs ++ ys)) e ∙ get_right xs ys k

pub found_in : {A B : Type 0} (f : A → List B) (xs : List A) (number : ℕ) (item : B)
    → slice_get (flat_map f xs) number ≡ Some item → IsIn f xs number item
found_in f [] number item at = absurd (none-some item at)
found_in {A} {B} f (x ∷ xs) number item at = by (cases_lt number (length (f x)))
    (λ k is. found_in f xs k item is)
  where
    deeper : (k : ℕ) → number ≡ length (f x) + k → IsIn f xs k item → IsIn f (x ∷ xs) number item
    deeper k is h = record {
      place = suc h.place;
      outer = h.outer;
      at = h.at;
      index = h.index;
      inner = h.inner;
      number_is =
          let e : sum_by (λ y. length (f y)) (take (suc h.place) (x ∷ xs))
          ≡ length (f x) + sum_by (λ y. length (f y)) (take h.place xs)
          = sum_by-cons (λ y. length (f y)) x (take h.place xs) in
          let n : k ≡ sum_by (λ y. length (f y)) (take h.place xs) + h.index = h.number_is in
          omega (arith, is, e, n);
    }

    by : (number < length (f x)) ⊎ (length (f x) ≤ number)
        → ((k : ℕ) → slice_get (flat_map f xs) k ≡ Some item → IsIn f xs k item)
        → IsIn f (x ∷ xs) number item
    by (inl lt) rest = record {
      place = 0;
      outer = x;
      at = refl;
      index = number;
      inner = sym (get_left (f x) (flat_map f xs) number lt) ∙ at;
      number_is = let e : number ≡ 0 + number = omega arith in e;
    }
    by (inr le) rest =
        let e : number ≡ length (f x) + (number - length (f x)) = omega (arith, le) in
        deeper (number - length (f x)) e (rest (number - length (f x))
        (sym (get_right (f x) (flat_map f xs) (number - length (f x)))
        ∙ ap (slice_get (f x ++ flat_map f xs)) (sym e) ∙ at))

-- more items, a greater sum
pub sum_more : {A : Type 0} (f : A → ℕ) (xs : List A) (p q : ℕ) (x : A) → p < q
    → slice_get xs p ≡ Some x → sum_by f (take p xs) + f x ≤ sum_by f (take q xs)
sum_more f [] p q x lt at = absurd (none-some x at)
sum_more f (y ∷ ys) p zero x lt at = absurd (omega (arith, lt))
sum_more f (y ∷ ys) zero (suc q) x lt at =
    let e : sum_by f (y ∷ take q ys) ≡ f y + sum_by f (take q ys) = sum_by-cons f y (take q ys) in
    let same : f y ≡ f x = ap f (same_Some y x at) in
    omega (arith, e, same)
sum_more f (y ∷ ys) (suc p) (suc q) x lt at =
    let rest = sum_more f ys p q x (omega (arith, lt)) at in
    let d : sum_by f (y ∷ take p ys) ≡ f y + sum_by f (take p ys) = sum_by-cons f y (take p ys) in
    let e : sum_by f (y ∷ take q ys) ≡ f y + sum_by f (take q ys) = sum_by-cons f y (take q ys) in
    omega (arith, d, e, rest)

-- of two items the lesser number stands first
pub places_rise : {A B : Type 0} (f : A → List B) (xs : List A) (j k : ℕ) (a b : B)
    (one : IsIn f xs j a) (other : IsIn f xs k b) → j < k
    → (one.place < other.place) ⊎ ((one.place ≡ other.place) × (one.index < other.index))
places_rise f xs j k a b one other lt =
    by (cases_lt one.place other.place) (cases_lt other.place one.place)
  where
    by : (one.place < other.place) ⊎ (other.place ≤ one.place)
        → (other.place < one.place) ⊎ (one.place ≤ other.place)
        → (one.place < other.place) ⊎ ((one.place ≡ other.place) × (one.index < other.index))
    by (inl less) c = inl less
    by (inr le) (inl more) =
        let s = sum_more (λ x. length (f x)) xs other.place one.place other.outer more other.at in
        let i : other.index < length (f other.outer)
        = slice_get_within (f other.outer) other.index b other.inner in
        let m : j ≡ sum_by (λ x. length (f x)) (take one.place xs) + one.index = one.number_is in
        let n : k ≡ sum_by (λ x. length (f x)) (take other.place xs) + other.index
        = other.number_is in
        absurd (omega (arith, s, i, m, n, lt))
    by (inr le) (inr ge) =
        let same : one.place ≡ other.place = omega (arith, le, ge) in
        let e : sum_by (λ x. length (f x)) (take one.place xs)
        ≡ sum_by (λ x. length (f x)) (take other.place xs)
        = ap (λ p. sum_by (λ x. length (f x)) (take p xs)) same in
        let m : j ≡ sum_by (λ x. length (f x)) (take one.place xs) + one.index = one.number_is in
        let n : k ≡ sum_by (λ x. length (f x)) (take other.place xs) + other.index
        = other.number_is in
        inr (same, omega (arith, e, m, n, lt))
