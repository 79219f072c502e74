-- Whether a list has an item that passes a test: with two tests, and over two lists.
use Rattle.std.proofs.Common.{◌≡◌, refl, ap, sym, ◌∙◌, Bool, true, false, cond, ◌&&◌, ◌||◌, List, [], ◌∷◌, map}
use Rattle.std.specs.List.{AllByRecursion, filter, list_any}
use Rattle.ix_device.proofs.Walks.{any_same}

pub or_none : (a : Bool) → (a || false) ≡ a
or_none true = refl
or_none false = refl

pub or_assoc : (a b c : Bool) → ((a || b) || c) ≡ (a || (b || c))
or_assoc true b c = refl
or_assoc false b c = refl

or_pairs : (a b c d : Bool) → ((a || b) || (c || d)) ≡ ((a || c) || (b || d))
or_pairs true b c d = refl
or_pairs false true true d = refl
or_pairs false true false d = refl
or_pairs false false c d = refl

pub and_or : (a b c : Bool) → (a && (b || c)) ≡ ((a && b) || (a && c))
and_or true b c = refl
and_or false b c = refl

-- one of two tests
pub any_or : {A : Type 0} (p q : A → Bool) (xs : List A) → list_any (λ x. p x || q x) xs ≡ (list_any p xs || list_any q xs)
any_or p q [] = refl
any_or p q (x ∷ xs) = ap (λ b. (p x || q x) || b) (any_or p q xs) ∙ or_pairs (p x) (q x) (list_any p xs) (list_any q xs)

-- a test beside a fact
pub any_and : {A : Type 0} (a : Bool) (p : A → Bool) (xs : List A) → (a && list_any p xs) ≡ list_any (λ x. a && p x) xs
any_and true p [] = refl
any_and false p [] = refl
any_and a p (x ∷ xs) = and_or a (p x) (list_any p xs) ∙ ap (λ b. (a && p x) || b) (any_and a p xs)

any_never : {A : Type 0} (xs : List A) → list_any (λ x. false) xs ≡ false
any_never [] = refl
any_never (x ∷ xs) = any_never xs

pub any_map : {A B : Type 0} (p : B → Bool) (f : A → B) (xs : List A) → list_any p (map f xs) ≡ list_any (λ x. p (f x)) xs
any_map p f [] = refl
any_map p f (x ∷ xs) = ap (λ b. p (f x) || b) (any_map p f xs)

pub any_filter : {A : Type 0} (p q : A → Bool) (xs : List A) → list_any p (filter q xs) ≡ list_any (λ x. q x && p x) xs
any_filter p q [] = refl
any_filter p q (x ∷ xs) = by (q x) (any_filter p q xs)
  where
    by : (b : Bool) → list_any p (filter q xs) ≡ list_any (λ x. q x && p x) xs → list_any p (cond b (x ∷ filter q xs) (filter q xs)) ≡ ((b && p x) || list_any (λ x. q x && p x) xs)
    by true e = ap (λ b. p x || b) e
    by false e = e

-- a test of two items, one of each list
pub any_swap : {A B : Type 0} (f : A → B → Bool) (xs : List A) (ys : List B) → list_any (λ x. list_any (f x) ys) xs ≡ list_any (λ y. list_any (λ x. f x y) xs) ys
any_swap f [] ys = sym (any_never ys)
any_swap f (x ∷ xs) ys = ap (λ b. list_any (f x) ys || b) (any_swap f xs ys) ∙ sym (any_or (f x) (λ y. list_any (λ x. f x y) xs) ys)

-- and beside a test of the one
pub any_both : {A B : Type 0} (g : A → Bool) (f : A → B → Bool) (xs : List A) (ys : List B) → list_any (λ x. g x && list_any (f x) ys) xs ≡ list_any (λ y. list_any (λ x. g x && f x y) xs) ys
any_both g f xs ys = any_same (λ x. g x && list_any (f x) ys) (λ x. list_any (λ y. g x && f x y) ys) xs (λ x. any_and (g x) (f x) ys) ∙ any_swap (λ x y. g x && f x y) xs ys

-- tests that agree on all items of a list
pub any_same_where : {A : Type 0} (P : A → Type 0) (p q : A → Bool) (xs : List A) → ((x : A) → P x → p x ≡ q x) → AllByRecursion P xs → list_any p xs ≡ list_any q xs
any_same_where P p q [] h all = refl
any_same_where P p q (x ∷ xs) h all = ap (λ b. b || list_any p xs) (h x all.0) ∙ ap (λ b. q x || b) (any_same_where P p q xs h all.1)

-- A test that only one item passes, beside another: it's that item's answer.
pub any_one : {A : Type 0} (g : A → Bool) (a : Bool) (same : A → Bool) (v : A) (xs : List A) → ((x : A) → same x ≡ true → x ≡ v) → list_any same xs ≡ true → list_any (λ x. g x && (a && same x)) xs ≡ (a && g v)
any_one {A = A} g a same v xs only there = answer xs ∙ ap (λ b. (a && g v) && b) there ∙ and_true (a && g v)
  where
    and_true : (b : Bool) → (b && true) ≡ b
    and_true true = refl
    and_true false = refl

    and_false : (b : Bool) → (b && false) ≡ false
    and_false true = refl
    and_false false = refl

    one : (g a rest : Bool) → ((g && (a && true)) || ((a && g) && rest)) ≡ ((a && g) && true)
    one true true rest = refl
    one false true rest = refl
    one true false rest = refl
    one false false rest = refl

    other : (g a b : Bool) → ((g && (a && false)) || b) ≡ b
    other true true b = refl
    other false true b = refl
    other true false b = refl
    other false false b = refl

    answer : (xs : List A) → list_any (λ x. g x && (a && same x)) xs ≡ ((a && g v) && list_any same xs)
    answer [] = sym (and_false (a && g v))
    answer (x ∷ xs) = ap (λ b. (g x && (a && same x)) || b) (answer xs) ∙ by (same x) refl
      where
        by : (b : Bool) → same x ≡ b → ((g x && (a && b)) || ((a && g v) && list_any same xs)) ≡ ((a && g v) && (b || list_any same xs))
        by true e = ap (λ y. (g y && (a && true)) || ((a && g v) && list_any same xs)) (only x e) ∙ one (g v) a (list_any same xs)
        by false e = other (g x) a ((a && g v) && list_any same xs)

pub any_no_one : {A : Type 0} (g : A → Bool) (a : Bool) (xs : List A) → list_any (λ x. g x && (a && false)) xs ≡ (a && false)
any_no_one g a [] = never a
  where
    never : (a : Bool) → false ≡ (a && false)
    never true = refl
    never false = refl
any_no_one g a (x ∷ xs) = by (g x) a (any_no_one g a xs)
  where
    by : (b a : Bool) → list_any (λ x. g x && (a && false)) xs ≡ (a && false) → ((b && (a && false)) || list_any (λ x. g x && (a && false)) xs) ≡ (a && false)
    by true true h = h
    by true false h = h
    by false a h = h
