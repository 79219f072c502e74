-- What adding a text to a table of names, and looking one up, gives.
use Rattle.std.proofs.Common.{nat_lt, ◌↔◌, Option, None, IsSome, IfSome, Contains, ◌≡◌, ℕ, suc, zero, ◌+◌, ◌-◌, ◌^◌, ◌<◌, ◌≤◌, ◌⊎◌, inl, inr, Bool, true, false, not, cond, ◌||◌, if◌then◌else◌, MatchBool, true≢false, List, [], ◌∷◌, ◌++◌, map, length, get_or, slice_get, Some, string_bytes, refl, sym, ap, subst, ◌∙◌, arith, length-append}
use Rattle.std.specs.List.{list_any, position, position_or_len}
use Rattle.std.specs.Str.{bytes_eq}
use Rattle.std.proofs.lemmas.Slice.Eq.{bytes_eq-Decides}
use Rattle.std.proofs.lemmas.Bool.{lt-ltb}
use Rattle.std.proofs.lemmas.Bool.Decides.{nat_tests}
use Rattle.std.proofs.lemmas.List.{length-map}
use Rattle.std.proofs.lemmas.List.Sums.{passes_at_first}
use Rattle.std.proofs.lemmas.Option.{slice_get-get_or, slice_get_within, get_or_from_slice_get, same_Some, none-some}
use Rattle.std.specs.declared.string.String.{String}
use Rattle.std.specs.String.{string_eq}
use Rattle.std.specs.Global.{Global}
use Rattle.indexmap.specs.IndexSet.{insert_key}
use Rattle.ix_strings.specs.Names.{has_name, number_of, number_once_added, with_name, AllDiffer, KeepsNumbers, IsTable}

module _ {A B : Type 0} (test : B → Bool) (f : A → B) where
  pub list_any-map : (xs : List A) → list_any test (map f xs) ≡ list_any (λ x. test (f x)) xs
  list_any-map [] = refl
  list_any-map (x ∷ xs) = ap (λ b. test (f x) || b) (list_any-map xs)

  pub position_or_len-map : (xs : List A) → position_or_len test (map f xs) ≡ position_or_len (λ x. test (f x)) xs
  position_or_len-map [] = refl
  position_or_len-map (x ∷ xs) = ap (λ n. cond (not (test (f x))) (1 + n) 0) (position_or_len-map xs)

map-push : {A B : Type 0} (f : A → B) (xs : List A) (x : A) → map f (xs ++ x ∷ []) ≡ map f xs ++ f x ∷ []
map-push f [] x = refl
map-push f (y ∷ ys) x = ap (λ zs. f y ∷ zs) (map-push f ys x)

module _ {A : Type 0} (test : A → Bool) where
  -- where a test passes, it does at a place of the list, else the place is past the end
  place : (xs : List A) → MatchBool (list_any test xs) (position_or_len test xs < length xs) (position_or_len test xs ≡ length xs)
  place [] = refl
  place (x ∷ xs) = by (test x) (place xs)
    where
      by : (b : Bool) → MatchBool (list_any test xs) (position_or_len test xs < length xs) (position_or_len test xs ≡ length xs)
          → MatchBool (b || list_any test xs) (cond (not b) (1 + position_or_len test xs) 0 < suc (length xs)) (cond (not b) (1 + position_or_len test xs) 0 ≡ suc (length xs))
      by true h = omega arith
      by false h = more (list_any test xs) h
        where
          more : (any : Bool) → MatchBool any (position_or_len test xs < length xs) (position_or_len test xs ≡ length xs)
              → MatchBool any (1 + position_or_len test xs < suc (length xs)) (1 + position_or_len test xs ≡ suc (length xs))
          more true h = omega arith
          more false h = omega arith

  pub position_or_len-within : (xs : List A) → list_any test xs ≡ true → position_or_len test xs < length xs
  position_or_len-within xs any = subst (λ b. MatchBool b (position_or_len test xs < length xs) (position_or_len test xs ≡ length xs)) any (place xs)

  pub position_or_len-none : (xs : List A) → list_any test xs ≡ false → position_or_len test xs ≡ length xs
  position_or_len-none xs any = subst (λ b. MatchBool b (position_or_len test xs < length xs) (position_or_len test xs ≡ length xs)) any (place xs)

-- what stands at a place of a list with one more item: what stood there, or that item at the end
slice_get-push : {A : Type 0} (xs : List A) (y : A) (i : ℕ) (t : A) → slice_get (xs ++ y ∷ []) i ≡ Some t → (slice_get xs i ≡ Some t) ⊎ ((i ≡ length xs) × (y ≡ t))
slice_get-push [] y zero t h = inr (refl, same_Some y t h)
slice_get-push [] y (suc i) t h = absurd (none-some t h)
slice_get-push (x ∷ xs) y zero t h = inl h
slice_get-push (x ∷ xs) y (suc i) t h = elim (slice_get-push xs y i t h) [ inl there ↦ inl there | inr last ↦ inr (ap suc last.0, last.1) ]

slice_get-push_left : {A : Type 0} (xs : List A) (y : A) (i : ℕ) (t : A) → slice_get xs i ≡ Some t → slice_get (xs ++ y ∷ []) i ≡ Some t
slice_get-push_left [] y i t h = absurd (none-some t h)
slice_get-push_left (x ∷ xs) y zero t h = h
slice_get-push_left (x ∷ xs) y (suc i) t h = slice_get-push_left xs y i t h

slice_get-push_last : {A : Type 0} (xs : List A) (y : A) → slice_get (xs ++ y ∷ []) (length xs) ≡ Some y
slice_get-push_last [] y = refl
slice_get-push_last (x ∷ xs) y = slice_get-push_last xs y

or_true : (b : Bool) → (b || true) ≡ true
or_true true = refl
or_true false = refl

-- a text that stands among the names is one of them
has_name-at : (names : List (List ℕ)) (i : ℕ) (text : List ℕ) → slice_get names i ≡ Some text → has_name names text ≡ true
has_name-at [] i text h = absurd (none-some text h)
has_name-at (x ∷ xs) zero text h = ap (λ b. b || has_name xs text) ((bytes_eq-Decides text x).1 (sym (same_Some x text h)))
has_name-at (x ∷ xs) (suc i) text h = ap (λ b. bytes_eq text x || b) (has_name-at xs i text h) ∙ or_true (bytes_eq text x)

module _ (names : List (List ℕ)) (text : List ℕ) where
  -- the number of a text that is one of the names is where it stands
  pub number-known : has_name names text ≡ true → slice_get names (number_once_added names text) ≡ Some text
  number-known known =
      let i = number_once_added names text in
      let within : i < length names = position_or_len-within (bytes_eq text) names known in
      let alike : bytes_eq text (get_or names i []) ≡ true = passes_at_first (bytes_eq text) names [] within in
      slice_get-get_or names i [] within ∙ ap (λ t. Some t) (sym ((bytes_eq-Decides text _).0 alike))

  pub with_name-known : has_name names text ≡ true → with_name names text ≡ names
  with_name-known known = ap (λ b. if b then names else names ++ text ∷ []) known

  pub with_name-new : has_name names text ≡ false → with_name names text ≡ names ++ text ∷ []
  with_name-new unknown = ap (λ b. if b then names else names ++ text ∷ []) unknown

  either : (has_name names text ≡ true) ⊎ (has_name names text ≡ false)
  either = elim (has_name names text) as (λ b. (b ≡ true) ⊎ (b ≡ false)) [ true ↦ inl refl | false ↦ inr refl ]

  -- once a text was added it stands under its number
  pub slice_get-with_name : slice_get (with_name names text) (number_once_added names text) ≡ Some text
  slice_get-with_name = elim either [
    | inl known ↦ rw (with_name-known known) (number-known known)
    | inr unknown ↦ rw (with_name-new unknown, position_or_len-none (bytes_eq text) names unknown) (slice_get-push_last names text)
  ]

  pub KeepsNumbers-with_name : KeepsNumbers names (with_name names text)
  KeepsNumbers-with_name i t at = elim either [
    | inl known ↦ rw (with_name-known known) at
    | inr unknown ↦ rw (with_name-new unknown) (slice_get-push_left names text i t at)
  ]

  -- a text that is none of the names, and one that stands among them, are two
  apart : has_name names text ≡ false → (i : ℕ) (t : List ℕ) → slice_get names i ≡ Some t → text ≡ t → ⊥
  apart unknown i t at same = absurd (true≢false (sym (has_name-at names i text (subst (λ u. slice_get names i ≡ Some u) (sym same) at)) ∙ unknown))

  pub AllDiffer-with_name : AllDiffer names → AllDiffer (with_name names text)
  AllDiffer-with_name differ i j t at_i at_j = elim either [
    | inl known ↦ differ i j t (rw (with_name-known known) at at_i) (rw (with_name-known known) at at_j)
    | inr unknown ↦ by unknown (slice_get-push names text i t (rw (with_name-new unknown) at at_i)) (slice_get-push names text j t (rw (with_name-new unknown) at at_j))
  ]
    where
      by : has_name names text ≡ false → (slice_get names i ≡ Some t) ⊎ ((i ≡ length names) × (text ≡ t)) → (slice_get names j ≡ Some t) ⊎ ((j ≡ length names) × (text ≡ t)) → i ≡ j
      by unknown (inl i_there) (inl j_there) = differ i j t i_there j_there
      by unknown (inl i_there) (inr j_last) = absurd (apart unknown i t i_there j_last.1)
      by unknown (inr i_last) (inl j_there) = absurd (apart unknown j t j_there i_last.1)
      by unknown (inr i_last) (inr j_last) = i_last.0 ∙ sym j_last.0

  pub length-with_name : (length names ≤ length (with_name names text)) × (length (with_name names text) ≤ length names + 1)
  length-with_name = elim either [
    | inl known ↦ rw (with_name-known known) (omega arith, omega arith)
    | inr unknown ↦ rw (with_name-new unknown, length-append names (text ∷ [])) (omega arith, omega arith)
  ]

  pub IsTable-with_name : length names < 2 ^ 32 - 1 → IsTable names → IsTable (with_name names text)
  IsTable-with_name room table = let l = length-with_name in record { few = omega arith; differ = AllDiffer-with_name table.differ }

module _ (names : List (List ℕ)) (text : List ℕ) where
  number_of-known : has_name names text ≡ true → number_of names text ≡ Some (number_once_added names text)
  number_of-known known =
      let within : number_once_added names text < length names = position_or_len-within (bytes_eq text) names known in
      ap (λ b. cond b (Some (number_once_added names text)) None) (lt-ltb _ _ within)

  number_of-new : has_name names text ≡ false → number_of names text ≡ None
  number_of-new unknown =
      let past : nat_lt (number_once_added names text) (length names) ≡ false = rw (position_or_len-none (bytes_eq text) names unknown) (grind (arith, nat_tests)) in
      ap (λ b. cond b (Some (number_once_added names text)) None) past

  has_name-Contains : Contains names text → has_name names text ≡ true
  has_name-Contains there =
      has_name-at names there.0 text (slice_get-get_or names there.0 text there.1 ∙ ap (λ t. Some t) there.2)

  Contains-slice_get : (i : ℕ) → slice_get names i ≡ Some text → Contains names text
  Contains-slice_get i at = (i, slice_get_within names i text at, get_or_from_slice_get names i text text at)

  -- what it is to find a text's number
  pub record IsFound (r : Option ℕ) : Type 0 where
    pub found : IsSome r ↔ Contains names text
    pub at : IfSome r (λ id. slice_get names id ≡ Some text)

  pub IsFound-number_of : IsFound (number_of names text)
  IsFound-number_of = elim (either names text) [
    | inl known ↦ rw (number_of-known known) (record { found = (λ _. Contains-slice_get _ (number-known names text known), λ _. refl); at = number-known names text known })
    | inr unknown ↦ rw (number_of-new unknown) (record { found = (λ e. absurd (cc), λ there. absurd (true≢false (sym (has_name-Contains there) ∙ unknown))); at = tt })
  ]

abbrev Text : Type 0
Text = String Global

-- the bytes of a text that the table keeps
abbrev bytes : Text → List ℕ
bytes text = string_bytes text

-- the names that the keys are, once a text was inserted
names-insert_key : (keys : List Text) (text : Text) → map bytes (insert_key string_eq keys text) ≡ with_name (map bytes keys) (bytes text)
names-insert_key keys text = by (list_any (string_eq text) keys) refl
  where
    same : list_any (string_eq text) keys ≡ has_name (map bytes keys) (bytes text)
    same = sym (list_any-map (bytes_eq (bytes text)) bytes keys)

    by : (b : Bool) → list_any (string_eq text) keys ≡ b → map bytes (if list_any (string_eq text) keys then keys else keys ++ text ∷ []) ≡ with_name (map bytes keys) (bytes text)
    by true e = ap (λ c. map bytes (if c then keys else keys ++ text ∷ [])) e ∙ sym (with_name-known _ _ (sym same ∙ e))
    by false e = ap (λ c. map bytes (if c then keys else keys ++ text ∷ [])) e ∙ map-push bytes keys text ∙ sym (with_name-new _ _ (sym same ∙ e))

module _ (keys : List Text) (text : Text) (names : List (List ℕ)) (added : List ℕ) where
  pub names-inserted : map bytes keys ≡ names → bytes text ≡ added → (after : List Text) → after ≡ insert_key string_eq keys text → map bytes after ≡ with_name names added
  names-inserted view is after e = ap (map bytes) e ∙ names-insert_key keys text ∙ (λ i. with_name (view i) (is i))

  pub number-inserted : map bytes keys ≡ names → bytes text ≡ added → position_or_len (string_eq text) keys ≡ number_once_added names added
  number-inserted view is = sym (position_or_len-map (bytes_eq (bytes text)) bytes keys) ∙ (λ i. number_once_added (view i) (is i))

-- the number of a text, by a search through the keys
pub number_of-keys : (keys : List Text) (names : List (List ℕ)) (text : List ℕ) → map bytes keys ≡ names → position (λ k. bytes_eq text (bytes k)) keys ≡ number_of names text
number_of-keys keys names text view =
    (λ i. cond (nat_lt (sym (position_or_len-map (bytes_eq text) bytes keys) i) (sym (length-map keys bytes) i)) (Some (sym (position_or_len-map (bytes_eq text) bytes keys) i)) None)
    ∙ ap (λ ns. number_of ns text) view
