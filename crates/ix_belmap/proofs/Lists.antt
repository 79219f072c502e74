-- Lists, one item at a time.
use Rattle.std.proofs.Common.{◌≡◌, ◌≢◌, refl, ap, sym, subst, ◌∙◌, ℕ, zero, suc, ◌+◌, ◌<◌, ◌≤◌}
use Rattle.std.proofs.Common.{List}
use Rattle.std.proofs.Common.{[], ◌∷◌, ◌++◌, map, take, get_or, length, set, slice_get, Some, None}
use Rattle.std.proofs.Common.{Bool, true}
use Rattle.std.proofs.Common.{false, cond, ◌&&◌, ◌||◌, nat_eq, arith}
use Rattle.std.specs.List.{AllByRecursion, filter, list_all, list_any, range_with_len}
use Rattle.std.proofs.lemmas.List.Elements.{filter-append}
use Rattle.std.proofs.lemmas.Bool.{eqb-true, eqb-false}
use Rattle.std.proofs.lemmas.List.Folds.{list_all-append, list_any-append}
use Rattle.std.proofs.lemmas.List.{append_assoc}
use Rattle.std.proofs.lemmas.List.FromFn.{map-range_with_len_more}
use Rattle.std.proofs.lemmas.Option.{none-some, same_Some}

-- the first items, with one more
pub take_more : {A : Type 0} (xs : List A) (i : ℕ) (x : A) → slice_get xs i ≡ Some x
    → take (i + 1) xs ≡ take i xs ++ x ∷ []
take_more xs i x at = let e : i + 1 ≡ suc i = omega arith in ap (λ n. take n xs) e ∙ by xs i at
  where
    by : (ys : List _) (k : ℕ) → slice_get ys k ≡ Some x → take (suc k) ys ≡ take k ys ++ x ∷ []
    by [] k h = absurd (none-some x h)
    by (y ∷ ys) zero h = ap (λ z. z ∷ []) (same_Some y x h)
    by (y ∷ ys) (suc k) h = ap (λ l. y ∷ l) (by ys k h)

pub take_all : {A : Type 0} (xs : List A) (n : ℕ) → n ≡ length xs → take n xs ≡ xs
take_all [] zero h = refl
take_all [] (suc n) h = refl
take_all (x ∷ xs) zero h = absurd (omega arith)
take_all (x ∷ xs) (suc n) h = ap (λ l. x ∷ l) (take_all xs n (omega arith))

-- what holds of all items holds of each
pub among : {A : Type 0} (P : A → Type 0) (xs : List A) (i : ℕ) (x : A) → AllByRecursion P xs
    → slice_get xs i ≡ Some x → P x
among P [] i x all at = absurd (none-some x at)
among P (y ∷ ys) zero x all at = subst P (same_Some y x at) all.0
among P (y ∷ ys) (suc i) x all at = among P ys i x all.1 at

pub map_map : {A B C : Type 0} (f : B → C) (g : A → B) (xs : List A)
    → map f (map g xs) ≡ map (λ x. f (g x)) xs
map_map f g [] = refl
map_map f g (x ∷ xs) = ap (λ l. f (g x) ∷ l) (map_map f g xs)

-- what a range gives, with one number more
pub numbers_next : {A : Type 0} (f : ℕ → A) (first before now : List A) (i : ℕ) (x : A)
    → before ≡ first ++ map f (range_with_len 0 i) → now ≡ before ++ x ∷ [] → x ≡ f i
    → now ≡ first ++ map f (range_with_len 0 (i + 1))
numbers_next f first before now i x so_far pushed is =
    pushed ∙ ap (λ l. l ++ x ∷ []) so_far
    ∙ append_assoc first (map f (range_with_len 0 i)) (x ∷ [])
    ∙ ap (λ y. first ++ (map f (range_with_len 0 i) ++ y ∷ [])) is
    ∙ ap (λ l. first ++ l) (sym (map-range_with_len_more f 0 i i (omega arith)))

-- what stands among the first items, with one more
suc_here : {A : Type 0} (xs : List A) (i : ℕ) (x : A) → slice_get xs i ≡ Some x
    → slice_get (take (suc i) xs) i ≡ Some x
suc_here [] i x at = absurd (none-some x at)
suc_here (y ∷ ys) zero x at = at
suc_here (y ∷ ys) (suc i) x at = suc_here ys i x at

pub taken_here : {A : Type 0} (xs : List A) (i : ℕ) (x : A) → slice_get xs i ≡ Some x
    → slice_get (take (i + 1) xs) i ≡ Some x
taken_here xs i x at =
    let e : i + 1 ≡ suc i = omega arith in ap (λ n. slice_get (take n xs) i) e ∙ suc_here xs i x at

suc_other : {A : Type 0} (xs : List A) (i q : ℕ) (x : A) → slice_get xs i ≡ Some x → q ≢ i
    → slice_get (take (suc i) xs) q ≡ slice_get (take i xs) q
suc_other [] i q x at differ = absurd (none-some x at)
suc_other (y ∷ ys) zero zero x at differ = absurd (differ refl)
suc_other (y ∷ ys) zero (suc q) x at differ = refl
suc_other (y ∷ ys) (suc i) zero x at differ = refl
suc_other (y ∷ ys) (suc i) (suc q) x at differ = suc_other ys i q x at (λ e. differ (ap suc e))

pub taken_other : {A : Type 0} (xs : List A) (i q : ℕ) (x : A) → slice_get xs i ≡ Some x → q ≢ i
    → slice_get (take (i + 1) xs) q ≡ slice_get (take i xs) q
taken_other xs i q x at differ =
    let e : i + 1 ≡ suc i = omega arith in
    ap (λ n. slice_get (take n xs) q) e ∙ suc_other xs i q x at differ

pub taken_past : {A : Type 0} (xs : List A) (i q : ℕ) → i ≤ q → slice_get (take i xs) q ≡ None
taken_past [] zero q le = refl
taken_past [] (suc i) q le = refl
taken_past (y ∷ ys) zero q le = refl
taken_past (y ∷ ys) (suc i) zero le = absurd (omega arith)
taken_past (y ∷ ys) (suc i) (suc q) le = taken_past ys i q (omega arith)

or_false : (b : Bool) → (b || false) ≡ b
or_false true = refl
or_false false = refl

-- whether one of the first items passes, with one more
pub any_more : {A : Type 0} (p : A → Bool) (xs : List A) (i : ℕ) (x : A) → slice_get xs i ≡ Some x
    → list_any p (take (i + 1) xs) ≡ (list_any p (take i xs) || p x)
any_more p xs i x at =
    ap (list_any p) (take_more xs i x at) ∙ list_any-append p (take i xs) (x ∷ [])
    ∙ ap (λ b. list_any p (take i xs) || b) (or_false (p x))

pub any_alike : {A : Type 0} (p q : A → Bool) (xs : List A) → ((x : A) → p x ≡ q x)
    → list_any p xs ≡ list_any q xs
any_alike p q [] same = refl
any_alike p q (x ∷ xs) same =
    ap (λ b. b || list_any p xs) (same x) ∙ ap (λ b. q x || b) (any_alike p q xs same)

pub eq_sym : (a b : ℕ) → nat_eq a b ≡ nat_eq b a
eq_sym a b = by (nat_eq a b) refl (nat_eq b a) refl
  where
    by : (x : Bool) → nat_eq a b ≡ x → (y : Bool) → nat_eq b a ≡ y → x ≡ y
    by true e true f = refl
    by true e false f = absurd (eqb-false b a f (sym (eqb-true a b e)))
    by false e true f = absurd (eqb-false a b e (sym (eqb-true b a f)))
    by false e false f = refl

pub eq_not : (a b : ℕ) → a ≢ b → nat_eq a b ≡ false
eq_not a b differ = by (nat_eq a b) refl
  where
    by : (x : Bool) → nat_eq a b ≡ x → x ≡ false
    by true e = absurd (differ (eqb-true a b e))
    by false e = refl

-- what stands in a list with another item at a place
pub set_here : {A : Type 0} (xs : List A) (i : ℕ) (y : A) → i < length xs
    → slice_get (set xs i y) i ≡ Some y
set_here [] i y lt = absurd (omega arith)
set_here (x ∷ xs) zero y lt = refl
set_here (x ∷ xs) (suc i) y lt = set_here xs i y (omega arith)

pub set_other : {A : Type 0} (xs : List A) (i q : ℕ) (y : A) → i ≢ q
    → slice_get (set xs i y) q ≡ slice_get xs q
set_other [] i q y differ = refl
set_other (x ∷ xs) zero zero y differ = absurd (differ refl)
set_other (x ∷ xs) zero (suc q) y differ = refl
set_other (x ∷ xs) (suc i) zero y differ = refl
set_other (x ∷ xs) (suc i) (suc q) y differ = set_other xs i q y (λ e. differ (ap suc e))

pub there : {A : Type 0} (xs : List A) (i : ℕ) → i < length xs → slice_get xs i ≢ None
there [] i lt h = omega arith
there (x ∷ xs) zero lt h = none-some x (sym h)
there (x ∷ xs) (suc i) lt h = there xs i (omega arith) h

-- what holds of all items holds of one between two parts
pub between : {A : Type 0} (P : A → Type 0) (xs : List A) (x : A) (ys : List A)
    → AllByRecursion P (xs ++ x ∷ ys) → P x
between P [] x ys all = all.0
between P (z ∷ xs) x ys all = between P xs x ys all.1

-- what a filter leaves where another leaves nothing
pub filter_less : {A : Type 0} (p q : A → Bool) (xs : List A)
    → ((x : A) → p x ≡ false → q x ≡ false)
    → filter p xs ≡ [] → filter q xs ≡ []
filter_less p q [] less h = refl
filter_less p q (x ∷ xs) less h = by (filter_less p q xs less) (p x) refl h
  where
    some : x ∷ filter p xs ≡ [] → ⊥
    some k = let long : suc (length (filter p xs)) ≡ 0 = ap length k in omega arith

    by : (filter p xs ≡ [] → filter q xs ≡ []) → (b : Bool) → p x ≡ b
        → cond b (x ∷ filter p xs) (filter p xs) ≡ [] → filter q (x ∷ xs) ≡ []
    by rest true e g = absurd (some g)
    by rest false e g = ap (λ b. cond b (x ∷ filter q xs) (filter q xs)) (less x e) ∙ rest g

pub filter_same : {A : Type 0} (p q : A → Bool) (xs : List A) → ((x : A) → p x ≡ q x)
    → filter p xs ≡ filter q xs
filter_same p q [] same = refl
filter_same p q (x ∷ xs) same =
    ap (λ b. cond b (x ∷ filter p xs) (filter p xs)) (same x)
    ∙ ap (λ l. cond (q x) (x ∷ l) l) (filter_same p q xs same)

pub filter_twice : {A : Type 0} (p q : A → Bool) (xs : List A)
    → filter p (filter q xs) ≡ filter (λ x. q x && p x) xs
filter_twice p q [] = refl
filter_twice p q (x ∷ xs) = by (filter_twice p q xs) (q x)
  where
    by : filter p (filter q xs) ≡ filter (λ x. q x && p x) xs → (b : Bool)
        → filter p (cond b (x ∷ filter q xs) (filter q xs))
        ≡ cond (b && p x) (x ∷ filter (λ x. q x && p x) xs) (filter (λ x. q x && p x) xs)
    by rest true = ap (λ l. cond (p x) (x ∷ l) l) rest
    by rest false = rest

-- the items that pass among the first, with one more
pub filter_more : {A : Type 0} (p : A → Bool) (xs : List A) (i : ℕ) (x : A)
    → slice_get xs i ≡ Some x
    → filter p (take (i + 1) xs) ≡ filter p (take i xs) ++ cond (p x) (x ∷ []) []
filter_more p xs i x at =
    ap (filter p) (take_more xs i x at) ∙ filter-append p (take i xs) (x ∷ [])

pub all_taken : {A : Type 0} (P : A → Type 0) (xs : List A) (n : ℕ) → AllByRecursion P xs
    → AllByRecursion P (take n xs)
all_taken P [] zero all = tt
all_taken P [] (suc n) all = tt
all_taken P (x ∷ xs) zero all = tt
all_taken P (x ∷ xs) (suc n) all = (all.0, all_taken P xs n all.1)

pub all_passing : {A : Type 0} (P : A → Type 0) (p : A → Bool) (xs : List A) → AllByRecursion P xs
    → AllByRecursion P (filter p xs)
all_passing P p [] all = tt
all_passing P p (x ∷ xs) all = by (all_passing P p xs all.1) (p x)
  where
    by : AllByRecursion P (filter p xs) → (b : Bool)
        → AllByRecursion P (cond b (x ∷ filter p xs) (filter p xs))
    by rest true = (all.0, rest)
    by rest false = rest

-- the numbers of a range are below its end
pub all_in_range : (a n end : ℕ) → a + n ≤ end → AllByRecursion (λ x. x < end) (range_with_len a n)
all_in_range a zero end le = tt
all_in_range a (suc n) end le = (omega arith, all_in_range (a + 1) n end (omega arith))

-- what holds of the item at each place holds of all
pub all_places : {A : Type 0} (P : A → Type 0) (xs : List A)
    → ((i : ℕ) (x : A) → slice_get xs i ≡ Some x → P x) → AllByRecursion P xs
all_places P [] each = tt
all_places P (x ∷ xs) each = (each 0 x refl, all_places P xs (λ i y at. each (suc i) y at))

-- within a list the default doesn't matter
pub within_default : {A : Type 0} (xs : List A) (i : ℕ) (d e : A) → i < length xs
    → get_or xs i d ≡ get_or xs i e
within_default [] i d e lt = absurd (omega arith)
within_default (x ∷ xs) zero d e lt = refl
within_default (x ∷ xs) (suc i) d e lt = within_default xs i d e (omega arith)

-- all of the first items pass, with one more
pub all_next : {A : Type 0} (p : A → Bool) (xs : List A) (i : ℕ) (x : A) → slice_get xs i ≡ Some x
    → list_all p (take i xs) ≡ true → p x ≡ true → list_all p (take (i + 1) xs) ≡ true
all_next p xs i x at before here =
    ap (list_all p) (take_more xs i x at) ∙ list_all-append p (take i xs) (x ∷ [])
    ∙ ap (λ b. b && list_all p (x ∷ [])) before ∙ ap (λ b. b && true) here

pub all_fails : {A : Type 0} (p : A → Bool) (xs : List A) (i : ℕ) (x : A) → slice_get xs i ≡ Some x
    → p x ≡ false → list_all p xs ≡ false
all_fails p [] i x at fails = absurd (none-some x at)
all_fails p (y ∷ ys) zero x at fails =
    ap (λ b. b && list_all p ys) (ap p (same_Some y x at) ∙ fails)
all_fails p (y ∷ ys) (suc i) x at fails =
    ap (λ b. p y && b) (all_fails p ys i x at fails) ∙ and_false (p y)
  where
    and_false : (b : Bool) → (b && false) ≡ false
    and_false true = refl
    and_false false = refl
