-- Cells by name.
use Rattle.std.proofs.Common.{◌≡◌, ◌<◌, ◌≤◌, ◌+◌, ◌∙◌, ap, sym, refl, subst, ℕ, suc}
use Rattle.std.proofs.Common.{arith, Bool, true, false, List, [], ◌∷◌, length, take, map, inl, inr}
use Rattle.std.specs.Prelude.{◌⊎◌, ◌||◌, nat_eq, slice_get, Option, Some, None, is_some, option_map}
use Rattle.std.specs.List.{AllByRecursion, IsDistinct, list_any, position}
use Rattle.std.proofs.Math.Seq.{take-length}
use Rattle.std.proofs.lemmas.Bool.{cases_lt, eq-eqb, eqb-true, false≢true}
use Rattle.std.proofs.lemmas.List.{length-map}
use Rattle.std.proofs.lemmas.Map.Steps.{length-le_from_distinct_below}
use Rattle.std.proofs.lemmas.Option.{same_Some, slice_get-map, slice_get_within}
use Rattle.ix_device.proofs.FirstPlaces.{one_more_place}
use Rattle.ix_device.proofs.OptionLemmas.{list_any-position, position-at}
use Rattle.ix_device.proofs.Walks.{any_at}
use Rattle.ix_first.specs.First.{value_of, or_later}
use Rattle.ix_first.specs.declared.by_id.FirstById.{FirstById}
use Rattle.ix_flat.specs.Whole.{AllDiffer}
use Rattle.ix_num.specs.Numbers.{NameNumber}
use Rattle.ix_rec.specs.declared.flow.FlatCell.{FlatCell}
use Rattle.ix_differences.specs.Differences.{is_of_name}
use Rattle.ix_differences.specs.Earliest.{IsNameIn}

-- The numbers of the first so many cells, among so many names.
abbrev pub KnowsTaken : List FlatCell → (names i : ℕ) → FirstById ℕ → Type 0
KnowsTaken cells names i table = (name : NameNumber) → name < names
    → value_of table name ≡ Some (position (is_of_name name) (take i cells))

pub none_known : (cells : List FlatCell) (names : ℕ) (table : FirstById ℕ)
    → ((i : ℕ) → i < names → value_of table i ≡ Some None) → KnowsTaken cells names 0 table
none_known cells names table empty name within = empty name within ∙ ap Some (none cells)
  where
    none : (xs : List FlatCell) → None ≡ position (is_of_name name) (take 0 xs)
    none [] = refl
    none (x ∷ xs) = refl

pub one_more_known : (cells : List FlatCell) (names i id value : ℕ) (cell : FlatCell)
    (before after : FirstById ℕ) → slice_get cells i ≡ Some cell → id ≡ cell.name → value ≡ i
    → KnowsTaken cells names i before
    → ((j : ℕ) → value_of after j
    ≡ option_map (λ v. or_later v (nat_eq id j) value) (value_of before j))
    → KnowsTaken cells names (i + 1) after
one_more_known cells names i id value cell before after at id_is value_is were put name within =
    put name
    ∙ ap (λ n. option_map (λ v. or_later v (nat_eq n name) value) (value_of before name)) id_is
    ∙ ap (λ n. option_map (λ v. or_later v (nat_eq cell.name name) n) (value_of before name))
    value_is
    ∙ ap (option_map (λ v. or_later v (nat_eq cell.name name) i)) (were name within)
    ∙ ap Some (one_more_place (is_of_name name) cells i cell
    (position (is_of_name name) (take i cells)) at refl)

pub all_known : (cells : List FlatCell) (names i : ℕ) (table : FirstById ℕ) → i ≡ length cells
    → KnowsTaken cells names i table → (name : NameNumber) → name < names
    → value_of table name ≡ Some (position (is_of_name name) cells)
all_known cells names i table end were name within = were name within
    ∙ ap (λ xs. Some (position (is_of_name name) xs))
    (ap (λ m. take m cells) end ∙ take-length cells)

-- what is found has the name
pub found_named : (cells : List FlatCell) (name place : ℕ)
    → position (is_of_name name) cells ≡ Some place
    → (cell : FlatCell) × (slice_get cells place ≡ Some cell) × (cell.name ≡ name)
found_named cells name place found =
    let at = position-at (is_of_name name) cells place found in
    (at.0, at.1, eqb-true (at.0).name name at.2)

-- where the names differ each cell is what is found by its name
pub named_here : (cells : List FlatCell) (q : ℕ) (cell : FlatCell)
    → AllDiffer (map (λ cell. cell.name) cells) → slice_get cells q ≡ Some cell
    → position (is_of_name cell.name) cells ≡ Some q
named_here cells q cell differ at = by (position (is_of_name cell.name) cells) refl
  where
    name_at : (p : ℕ) (x : FlatCell) → slice_get cells p ≡ Some x → x.name ≡ cell.name
        → slice_get (map (λ cell. cell.name) cells) p ≡ Some cell.name
    name_at p x at_p same = slice_get-map (λ cell. cell.name) cells p
        ∙ ap (option_map (λ cell. cell.name)) at_p ∙ ap Some same

    by : (found : Option ℕ) → position (is_of_name cell.name) cells ≡ found
        → position (is_of_name cell.name) cells ≡ Some q
    by (Some p) found =
        let there = found_named cells cell.name p found in
        found ∙ ap Some (differ p q cell.name (name_at p there.0 there.1 there.2)
        (name_at q cell at refl))
    by None found = absurd (false≢true
        (sym (list_any-position (is_of_name cell.name) cells ∙ ap is_some found)
        ∙ any_at (is_of_name cell.name) cells q cell at (eq-eqb cell.name cell.name refl)))

-- The names of the first so many cells.
abbrev pub IsNameBelow : List FlatCell → (i : ℕ) → NameNumber → Type 0
IsNameBelow cells i name = (q : ℕ) × (cell : FlatCell) × (q < i)
    × (slice_get cells q ≡ Some cell) × (cell.name ≡ name)

pub none_below : (cells : List FlatCell) (name : NameNumber) → IsNameBelow cells 0 name → ⊥
none_below cells name below = let lt : below.0 < 0 = below.2 in omega (arith, lt)

pub below_next : (cells : List FlatCell) (i name : ℕ) (cell : FlatCell)
    → slice_get cells i ≡ Some cell → name ≡ cell.name → (k : NameNumber)
    → IsNameBelow cells (i + 1) k → IsNameBelow cells i k ⊎ (k ≡ name)
below_next cells i name cell at is k below = elim (cases_lt below.0 i) [
  | inl lt ↦ inl (below.0, below.1, lt, below.3, below.4)
  | inr le ↦
      let lt : below.0 < i + 1 = below.2 in
      let here : below.0 ≡ i = omega (arith, lt, le) in
      let same = same_Some below.1 cell
      (sym below.3 ∙ ap (slice_get cells) here ∙ at) in
      inr (sym below.4 ∙ ap (λ c. c.name) same ∙ sym is)
]

pub all_below : (cells : List FlatCell) (i : ℕ) → i ≡ length cells → (k : NameNumber)
    → IsNameIn cells k → IsNameBelow cells i k
all_below cells i end k stands =
    let lt : stands.0 < length cells = slice_get_within cells stands.0 stands.1 stands.2 in
    (stands.0, stands.1, omega (arith, lt, end), stands.2, stands.3)

-- Different names of so many are no more than these.

apart : (x y : ℕ) → (x ≡ y → ⊥) → nat_eq x y ≡ false
apart x y differ = by (nat_eq x y) (λ e. differ (eqb-true x y e))
  where
    by : (t : Bool) → (t ≡ true → ⊥) → t ≡ false
    by true never = absurd (never refl)
    by false never = refl

each_other : (x : ℕ) (xs : List ℕ) → ((j : ℕ) → slice_get xs j ≡ Some x → ⊥)
    → AllByRecursion (λ y. nat_eq x y ≡ false) xs
each_other x [] never = tt
each_other x (y ∷ ys) never = (
  apart x y (λ same. never 0 (ap Some (sym same))),
  each_other x ys (λ j at. never (suc j) at),
)

distinct : (xs : List ℕ) → AllDiffer xs → IsDistinct nat_eq xs
unfolding IsDistinct
distinct [] differ = tt
distinct (x ∷ xs) differ = (
  each_other x xs (λ j at. not_zero j (differ 0 (suc j) x refl at)),
  distinct xs (λ i j y at_i at_j. less i j (differ (suc i) (suc j) y at_i at_j)),
)
  where
    not_zero : (j : ℕ) → 0 ≡ suc j → ⊥
    not_zero j e = omega (arith, e)

    less : (i j : ℕ) → suc i ≡ suc j → i ≡ j
    less i j e = omega (arith, e)

pub no_more_than_names : (cells : List FlatCell) (names : ℕ)
    → ((q : ℕ) (cell : FlatCell) → slice_get cells q ≡ Some cell → cell.name < names)
    → AllDiffer (map (λ cell. cell.name) cells) → length cells ≤ names
no_more_than_names cells names named differ = rw (sym (length-map cells (λ cell. cell.name)))
    (length-le_from_distinct_below (map (λ cell. cell.name) cells) names
    (distinct (map (λ cell. cell.name) cells) differ) (below cells named))
  where
    below : (xs : List FlatCell)
        → ((q : ℕ) (cell : FlatCell) → slice_get xs q ≡ Some cell → cell.name < names)
        → (q : ℕ) → list_any (nat_eq q) (map (λ cell. cell.name) xs) ≡ true → q < names
    below [] within q found = absurd (false≢true found)
    below (x ∷ xs) within q found = by (nat_eq q x.name) refl
        (below xs (λ p cell at. within (suc p) cell at) q) found
      where
        by : (t : Bool) → nat_eq q x.name ≡ t
            → (list_any (nat_eq q) (map (λ cell. cell.name) xs) ≡ true → q < names)
            → (t || list_any (nat_eq q) (map (λ cell. cell.name) xs)) ≡ true → q < names
        by true same later h = subst (λ n. n < names) (sym (eqb-true q x.name same))
            (within 0 x refl)
        by false same later h = later h
