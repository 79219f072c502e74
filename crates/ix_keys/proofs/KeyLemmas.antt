-- What adding a key to a table, and looking one up, gives.
use Rattle.std.proofs.Common.{◌≡◌, ℕ, suc, zero, ◌⊎◌, inl, inr, Bool, true, false, ◌||◌, true≢false, List, [], ◌∷◌, ◌++◌, length, slice_get, Some, position, refl, sym, ap, subst, ◌∙◌, arith, if◌then◌else◌}
use Rattle.std.proofs.lemmas.Bool.Decides.{nat_tests}
use Rattle.std.proofs.lemmas.List.Quantifiers.{position-Some}
use Rattle.std.proofs.lemmas.Option.{slice_get-get_or, same_Some, none-some}
use Rattle.ix_keys.specs.declared.key.Key.{Key}
use Rattle.ix_keys.specs.Keys.{key, key_eq, has_key, with_key, AllDiffer}

-- keys that are told alike are one key
pub alike : (a b : Key) → key_eq a b ≡ true → a ≡ b
alike a b h =
    let owners : a.owner ≡ b.owner = grind (arith, nat_tests) in
    let parts : a.part ≡ b.part = grind (arith, nat_tests) in
    let names : a.name ≡ b.name = grind (arith, nat_tests) in
    (λ i. key (owners i) (parts i) (names i))

like_itself : (k : Key) → key_eq k k ≡ true
like_itself k = grind (arith, nat_tests)

-- the key stands at its place
pub stands : (keys : List Key) (k : Key) (place : ℕ) → Some place ≡ position (key_eq k) keys → slice_get keys place ≡ Some k
stands keys k place at =
    let found = position-Some (key_eq k) keys place k (sym at) in
    slice_get-get_or keys place k found.0 ∙ ap (λ x. Some x) (sym (alike k _ found.1))

or_true : (b : Bool) → (b || true) ≡ true
or_true true = refl
or_true false = refl

pub has_key-at : (keys : List Key) (i : ℕ) (k : Key) → slice_get keys i ≡ Some k → has_key keys k ≡ true
has_key-at [] i k h = absurd (none-some k h)
has_key-at (x ∷ xs) zero k h = ap (λ b. b || has_key xs k) (subst (λ y. key_eq k y ≡ true) (sym (same_Some x k h)) (like_itself k))
has_key-at (x ∷ xs) (suc i) k h = ap (λ b. key_eq k x || b) (has_key-at xs i k h) ∙ or_true (key_eq k x)

-- what stands at a place of a list with one more item: what stood there, or that item at the end
pub slice_get-push : {A : Type 0} (xs : List A) (y : A) (i : ℕ) (t : A) → slice_get (xs ++ y ∷ []) i ≡ Some t → (slice_get xs i ≡ Some t) ⊎ ((i ≡ length xs) × (y ≡ t))
slice_get-push [] y zero t h = inr (refl, same_Some y t h)
slice_get-push [] y (suc i) t h = absurd (none-some t h)
slice_get-push (x ∷ xs) y zero t h = inl h
slice_get-push (x ∷ xs) y (suc i) t h = elim (slice_get-push xs y i t h) [ inl there ↦ inl there | inr last ↦ inr (ap suc last.0, last.1) ]

module _ (keys : List Key) (k : Key) (differ : AllDiffer keys) where
  either : (has_key keys k ≡ true) ⊎ (has_key keys k ≡ false)
  either = elim (has_key keys k) as (λ b. (b ≡ true) ⊎ (b ≡ false)) [ true ↦ inl refl | false ↦ inr refl ]

  as_known : has_key keys k ≡ true → with_key keys k ≡ keys
  as_known known = ap (λ b. if b then keys else keys ++ k ∷ []) known

  as_new : has_key keys k ≡ false → with_key keys k ≡ keys ++ k ∷ []
  as_new unknown = ap (λ b. if b then keys else keys ++ k ∷ []) unknown

  -- a key that isn't in the table, and one that stands there, are two
  apart : has_key keys k ≡ false → (i : ℕ) (t : Key) → slice_get keys i ≡ Some t → k ≡ t → ⊥
  apart unknown i t at same = absurd (true≢false (sym (has_key-at keys i k (subst (λ u. slice_get keys i ≡ Some u) (sym same) at)) ∙ unknown))

  differ_with_new : has_key keys k ≡ false → AllDiffer (keys ++ k ∷ [])
  differ_with_new unknown i j t at_i at_j = by (slice_get-push keys k i t at_i) (slice_get-push keys k j t at_j)
    where
      by : (slice_get keys i ≡ Some t) ⊎ ((i ≡ length keys) × (k ≡ t)) → (slice_get keys j ≡ Some t) ⊎ ((j ≡ length keys) × (k ≡ t)) → i ≡ j
      by (inl i_there) (inl j_there) = differ i j t i_there j_there
      by (inl i_there) (inr j_last) = absurd (apart unknown i t i_there j_last.1)
      by (inr i_last) (inl j_there) = absurd (apart unknown j t j_there i_last.1)
      by (inr i_last) (inr j_last) = i_last.0 ∙ sym j_last.0

  pub AllDiffer-with_key : AllDiffer (with_key keys k)
  AllDiffer-with_key = elim either [
    | inl known ↦ subst AllDiffer (sym (as_known known)) differ
    | inr unknown ↦ subst AllDiffer (sym (as_new unknown)) (differ_with_new unknown)
  ]
