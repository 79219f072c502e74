-- What is found in a list by a name.
use Rattle.std.proofs.Common.{◌≡◌, ◌<◌, ◌+◌, ◌∙◌, ap, sym, refl, ℕ, suc, arith, List, [], ◌∷◌}
use Rattle.std.proofs.Common.{length, take, map, Bool, true, false, inl, inr}
use Rattle.std.specs.Prelude.{◌||◌, not, nat_eq, slice_get, Option, Some, None, is_some, option_map, zero}
use Rattle.std.specs.List.{list_any, position, Contains}
use Rattle.std.proofs.Math.Seq.{take-length}
use Rattle.std.proofs.lemmas.Bool.{false≢true, cases_lt, cases_eq, eq-eqb, eqb-true}
use Rattle.std.proofs.lemmas.Option.{none-some, same_Some, slice_get-get_or}
use Rattle.ix_num.specs.Numbers.{NameNumber}
use Rattle.ix_device_rules.specs.Rules.{is_new}
use Rattle.ix_device.proofs.FirstPlaces.{one_more_place}
use Rattle.ix_device.proofs.OptionLemmas.{position-at, list_any-position}
use Rattle.ix_device.proofs.Walks.{any_at}
use Rattle.ix_first.specs.First.{value_of, or_later}
use Rattle.ix_first.specs.declared.by_id.FirstById.{FirstById}
use Rattle.ix_table_keys.specs.Places.{ArePlacesByName}

-- where something stands
pub stands_at : {A : Type 0} (xs : List A) (x : A) → Contains xs x
    → (k : ℕ) × (slice_get xs k ≡ Some x)
stands_at xs x stands = (
  stands.0,
  slice_get-get_or xs stands.0 x stands.1 ∙ ap Some stands.2,
)

module _ {A : Type 0} (name_of : A → NameNumber) where
  -- a table after one thing more
  pub one_more_by_name : (xs : List A) (names i id : ℕ) (x : A) (before after : FirstById ℕ)
      → slice_get xs i ≡ Some x → id ≡ name_of x → ArePlacesByName name_of (take i xs) names before
      → ((j : ℕ) → value_of after j
      ≡ option_map (λ v. or_later v (nat_eq id j) i) (value_of before j))
      → ArePlacesByName name_of (take (i + 1) xs) names after
  one_more_by_name xs names i id x before after at id_is were put name within = put name
      ∙ ap (λ n. option_map (λ v. or_later v (nat_eq n name) i) (value_of before name)) id_is
      ∙ ap (option_map (λ v. or_later v (nat_eq (name_of x) name) i)) (were name within)
      ∙ ap Some (one_more_place (λ y. nat_eq (name_of y) name) xs i x
      (position (λ y. nat_eq (name_of y) name) (take i xs)) at refl)

  -- before the first thing
  pub none_by_name : (xs : List A) (names : ℕ) (table : FirstById ℕ)
      → ((i : ℕ) → i < names → value_of table i ≡ Some None)
      → ArePlacesByName name_of (take 0 xs) names table
  none_by_name xs names table empty name within = empty name within ∙ ap Some (none xs)
    where
      none : (ys : List A) → None ≡ position (λ y. nat_eq (name_of y) name) (take 0 ys)
      none [] = refl
      none (y ∷ ys) = refl

  -- after the last
  pub all_by_name : (xs : List A) (names n : ℕ) (table : FirstById ℕ) → n ≡ length xs
      → ArePlacesByName name_of (take n xs) names table → ArePlacesByName name_of xs names table
  all_by_name xs names n table end were name within = were name within
      ∙ ap (λ ys. Some (position (λ y. nat_eq (name_of y) name) ys))
      (ap (λ m. take m xs) end ∙ take-length xs)

  -- what the table tells, as it is read
  pub read_by_name : (xs : List A) (names name id : ℕ) (table : FirstById ℕ) (told : Option ℕ)
      → ArePlacesByName name_of xs names table → name < names → id ≡ name
      → value_of table id ≡ Some told → position (λ y. nat_eq (name_of y) name) xs ≡ told
  read_by_name xs names name id table told are within id_is is =
      same_Some (position (λ y. nat_eq (name_of y) name) xs) told
      (sym (are name within) ∙ ap (value_of table) (sym id_is) ∙ is)

  -- what is found has the name
  pub found_by_name : (xs : List A) (name place : ℕ)
      → position (λ y. nat_eq (name_of y) name) xs ≡ Some place
      → (x : A) × (slice_get xs place ≡ Some x) × (name_of x ≡ name)
  found_by_name xs name place found =
      let at = position-at (λ y. nat_eq (name_of y) name) xs place found in
      (at.0, at.1, eqb-true (name_of at.0) name at.2)

  -- where nothing is found nothing has the name
  pub none_of_name : (xs : List A) (name : ℕ) → position (λ y. nat_eq (name_of y) name) xs ≡ None
      → (k : ℕ) (x : A) → slice_get xs k ≡ Some x → name_of x ≡ name → ⊥
  none_of_name xs name none k x at same =
      let test : A → Bool = λ y. nat_eq (name_of y) name in
      false≢true (sym (list_any-position test xs ∙ ap is_some none)
      ∙ any_at test xs k x at (eq-eqb (name_of x) name same))

  -- a name that is new after the first so many things is none of theirs
  pub new_name : (xs : List A) (i j : ℕ) (x : A) (name : NameNumber) → i < j
      → slice_get xs i ≡ Some x → is_new (map name_of (take j xs)) name ≡ true
      → name_of x ≡ name → ⊥
  new_name [] i j x name lt at new same = none-some x at
  new_name (y ∷ ys) i zero x name lt at new same = omega (arith, lt)
  new_name (y ∷ ys) zero (suc j) x name lt at new same =
      false≢true (sym (ap (λ b. not (b || list_any (nat_eq name) (map name_of (take j ys))))
      (eq-eqb name (name_of y) (sym same ∙ ap name_of (sym (same_Some y x at))))) ∙ new)
  new_name (y ∷ ys) (suc i) (suc j) x name lt at new same =
      new_name ys i j x name (omega (arith, lt)) at
      (later (nat_eq name (name_of y)) (list_any (nat_eq name) (map name_of (take j ys))) new) same
    where
      later : (a b : Bool) → not (a || b) ≡ true → not b ≡ true
      later true b h = absurd (false≢true h)
      later false b h = h

  -- names that are new at their places are of one thing
  pub one_of_name : (xs : List A) (i j : ℕ) (x y : A) → slice_get xs i ≡ Some x
      → slice_get xs j ≡ Some y → is_new (map name_of (take i xs)) (name_of x) ≡ true
      → is_new (map name_of (take j xs)) (name_of y) ≡ true → name_of x ≡ name_of y → i ≡ j
  one_of_name xs i j x y at_i at_j new_i new_j same = elim (cases_lt i j) [
    | inl less ↦ absurd (new_name xs i j x (name_of y) less at_i new_j same)
    | inr le ↦ elim (cases_eq i j) [
      | inl equal ↦ equal
      | inr apart ↦ absurd (new_name xs j i y (name_of x)
          (let more : j < i = omega (arith, le, apart) in more) at_j new_i (sym same))
    ]
  ]
