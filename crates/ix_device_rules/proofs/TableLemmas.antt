-- Keys of tables, and the names that they stand for.
use Rattle.std.proofs.Common.{◌≡◌, ℕ, ◌+◌, Bool, true, false, not, ◌&&◌, ◌||◌, nat_eq, List, [], ◌∷◌, ◌++◌, take, map, slice_get, Some, refl, sym, ap, subst, ◌∙◌, arith, append_assoc, if◌then◌else◌, ◌⊎◌, inl, inr}
use Rattle.std.specs.List.{list_any, flat_map}
use Rattle.std.proofs.lemmas.Bool.Decides.{nat_tests}
use Rattle.ix_keys.specs.declared.key.Key.{Key}
use Rattle.ix_keys.proofs.KeyLemmas.{alike}
use Rattle.ix_keys.specs.Keys.{name_key, key_eq, has_key, with_key}
use Rattle.ix_device_rules.specs.Tables.{SameKeys}
use Rattle.ix_device_rules.proofs.Steps.{up_to, flat_up_to}
use Rattle.std.proofs.lemmas.List.{append-nil, map-append}
use Rattle.std.proofs.lemmas.List.Folds.{list_any-append}

pub either : (b : Bool) → (b ≡ true) ⊎ (b ≡ false)
either true = inl refl
either false = inr refl

or_false : (b : Bool) → b ≡ (b || false)
or_false true = refl
or_false false = refl

or_assoc : (a b c : Bool) → (a || (b || c)) ≡ ((a || b) || c)
or_assoc true b c = refl
or_assoc false b c = refl

-- a key that is already there adds none
known_adds_none : (keys : List Key) (k j : Key) → has_key keys k ≡ true → has_key keys j ≡ (has_key keys j || key_eq j k)
known_adds_none keys k j known = elim (either (key_eq j k)) [
  | inl same ↦ (let at : has_key keys j ≡ true = ap (has_key keys) (alike j k same) ∙ known in at ∙ sym (ap (λ b. b || key_eq j k) at))
  | inr other ↦ or_false (has_key keys j) ∙ sym (ap (λ b. has_key keys j || b) other)
]

has_key-push : (keys : List Key) (k j : Key) → has_key (keys ++ k ∷ []) j ≡ (has_key keys j || key_eq j k)
has_key-push [] k j = sym (or_false (key_eq j k))
has_key-push (x ∷ xs) k j = ap (λ b. key_eq j x || b) (has_key-push xs k j) ∙ or_assoc (key_eq j x) (has_key xs j) (key_eq j k)

pub has_key-with_key : (keys : List Key) (k j : Key) → has_key (with_key keys k) j ≡ (has_key keys j || key_eq j k)
has_key-with_key keys k j = elim (either (has_key keys k)) [
  | inl known ↦ ap (λ (b : Bool). has_key (if b then keys else keys ++ k ∷ []) j) known ∙ known_adds_none keys k j known
  | inr unknown ↦ ap (λ (b : Bool). has_key (if b then keys else keys ++ k ∷ []) j) unknown ∙ has_key-push keys k j
]

pub same_more : {A : Type 0} (f : A → Key) (xs : List A) (i : ℕ) (x : A) (old new : List Key) → slice_get xs i ≡ Some x → SameKeys old (map f (take i xs)) → new ≡ with_key old (f x) → SameKeys new (map f (take (i + 1) xs))
same_more f xs i x old new at h is = record {
  same = λ k.
      ap (λ t. has_key t k) is ∙ has_key-with_key old (f x) k ∙ ap (λ b. b || key_eq k (f x)) (h.same k)
      ∙ sym (has_key-push (map f (take i xs)) (f x) k) ∙ ap (λ t. has_key t k) (sym (map-push f (take i xs) x) ∙ ap (map f) (sym (up_to xs i x at)));
}
  where
    map-push : {A B : Type 0} (g : A → B) (ys : List A) (y : A) → map g (ys ++ y ∷ []) ≡ map g ys ++ g y ∷ []
    map-push g [] y = refl
    map-push g (z ∷ ys) y = ap (λ zs. g z ∷ zs) (map-push g ys y)

pub list_any-map : {A B : Type 0} (test : B → Bool) (f : A → B) (xs : List A) → list_any test (map f xs) ≡ list_any (λ x. test (f x)) xs
list_any-map test f [] = refl
list_any-map test f (x ∷ xs) = ap (λ b. test (f x) || b) (list_any-map test f xs)

-- a name is new among those that a table has
pub new_name : {A : Type 0} (f : A → ℕ) (xs : List A) (n : ℕ) (table : List Key) → SameKeys table (map (λ x. name_key (f x)) xs) → not (has_key table (name_key n)) ≡ not (list_any (nat_eq n) (map f xs))
new_name f xs n table h =
    ap not (h.same (name_key n) ∙ list_any-map (key_eq (name_key n)) (λ x. name_key (f x)) xs ∙ sym (list_any-map (nat_eq n) f xs))

-- an empty table
pub same_none : (table : List Key) → table ≡ [] → SameKeys table []
same_none table is = record { same = λ k. ap (λ t. has_key t k) is }

pub same_push : (old new keys : List Key) (k : Key) → SameKeys old keys → new ≡ with_key old k → SameKeys new (keys ++ k ∷ [])
same_push old new keys k h is = record { same = λ j. ap (λ t. has_key t j) is ∙ has_key-with_key old k j ∙ ap (λ b. b || key_eq j k) (h.same j) ∙ sym (has_key-push keys k j) }

pub same_as : {table keys others : List Key} → keys ≡ others → SameKeys table keys → SameKeys table others
same_as {table = table} is h = subst (λ ks. SameKeys table ks) is h

-- a table to which the keys of some items were added, behind those that it had
pub same_begin : (base : List Key) → SameKeys base (base ++ [])
same_begin base = record { same = λ k. ap (λ t. has_key t k) (sym (append-nil base)) }

pub same_on : {A : Type 0} (f : A → Key) (base : List Key) (xs : List A) (i : ℕ) (x : A) (old new : List Key) → slice_get xs i ≡ Some x → SameKeys old (base ++ map f (take i xs)) → new ≡ with_key old (f x) → SameKeys new (base ++ map f (take (i + 1) xs))
same_on f base xs i x old new at h is =
    same_as (append_assoc base (map f (take i xs)) (f x ∷ []) ∙ ap (λ ks. base ++ ks) (sym (map-append f (take i xs) (x ∷ [])) ∙ ap (map f) (sym (up_to xs i x at)))) (same_push old new (base ++ map f (take i xs)) (f x) h is)

pub same_join : (old new keys added : List Key) → SameKeys old keys → SameKeys new (old ++ added) → SameKeys new (keys ++ added)
same_join old new keys added h k = record { same = λ j. k.same j ∙ list_any-append (key_eq j) old added ∙ ap (λ b. b || has_key added j) (h.same j) ∙ sym (list_any-append (key_eq j) keys added) }

-- keys that are in a table or among others
pub has_either : (base added : List Key) (table : List Key) (k : Key) → SameKeys table (base ++ added) → not (has_key table k) ≡ not (has_key base k || has_key added k)
has_either base added table k h = ap not (h.same k ∙ list_any-append (key_eq k) base added)

pub nat_eq-sym : (a b : ℕ) → nat_eq a b ≡ nat_eq b a
nat_eq-sym a b = grind (arith, nat_tests)

pub list_any-same : {A : Type 0} (f g : A → Bool) → ((x : A) → f x ≡ g x) → (xs : List A) → list_any f xs ≡ list_any g xs
list_any-same f g same [] = refl
list_any-same f g same (x ∷ xs) = (λ i. same x i || list_any-same f g same xs i)

pub not_both : (a b : Bool) → (not b || not a) ≡ not (a && b)
not_both true true = refl
not_both true false = refl
not_both false true = refl
not_both false false = refl

pub same_is : (table keys : List Key) → table ≡ keys → SameKeys table keys
same_is table keys is = record { same = λ k. ap (λ t. has_key t k) is }

-- a new key goes last
pub exact_more : {A : Type 0} (f : A → Key) (xs : List A) (i : ℕ) (x : A) (old new : List Key) (k : Key) (is_new : Bool) → slice_get xs i ≡ Some x → old ≡ map f (take i xs) → new ≡ with_key old k → k ≡ f x → is_new ≡ not (has_key old k) → is_new ≡ true → new ≡ map f (take (i + 1) xs)
exact_more f xs i x old new k is_new at so_far is key_is told fits =
    let unknown : has_key old k ≡ false = grind (arith, nat_tests) in
    is ∙ ap (λ (b : Bool). if b then old else old ++ k ∷ []) unknown ∙ (λ j. so_far j ++ key_is j ∷ []) ∙ sym (map-append f (take i xs) (x ∷ [])) ∙ ap (map f) (sym (up_to xs i x at))

pub same_flat_on : {A : Type 0} (f : A → List Key) (base : List Key) (xs : List A) (i : ℕ) (x : A) (old new : List Key) → slice_get xs i ≡ Some x → SameKeys old (base ++ flat_map f (take i xs)) → SameKeys new (old ++ f x) → SameKeys new (base ++ flat_map f (take (i + 1) xs))
same_flat_on f base xs i x old new at h more =
    same_as (append_assoc base (flat_map f (take i xs)) (f x) ∙ ap (λ ks. base ++ ks) (sym (flat_up_to f xs i x at))) (same_join old new (base ++ flat_map f (take i xs)) (f x) h more)
