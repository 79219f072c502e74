-- One item of a list more.
use Rattle.std.proofs.Common.{◌≡◌, ◌≤◌, ◌+◌, ◌∙◌, ap, sym, refl, subst, ℕ}
use Rattle.std.proofs.Common.{◌++◌, List, [], ◌∷◌, length, take, map, Bool, true, false}
use Rattle.std.proofs.Common.{◌||◌, arith, inl, inr}
use Rattle.std.specs.Prelude.{not, nat_eq, slice_get, Some}
use Rattle.std.specs.List.{list_any}
use Rattle.std.proofs.lemmas.Bool.{cases_lt, cases_eq, eq-eqb, ne_eqb}
use Rattle.std.proofs.lemmas.List.{map_push, take_more}
use Rattle.std.proofs.lemmas.List.Folds.{list_any-append}
use Rattle.std.proofs.lemmas.Option.{same_Some, slice_get_within, get_or_from_slice_get}
use Rattle.ix_num.specs.Numbers.{NameNumber}
use Rattle.ix_device_rules.specs.Rules.{is_new}
use Rattle.ix_walk.specs.Marks.{Marks, has_mark, AreNamesOf}
use Rattle.ix_walk.specs.Firsts.{AllFit}

pub none_fit : {A : Type 0} (Fits : ℕ → A → Type 0) (xs : List A) → AllFit Fits xs 0
none_fit Fits xs i x lt is = absurd (omega (arith, lt))

pub one_more_fits : {A : Type 0} (Fits : ℕ → A → Type 0) (xs : List A) (n : ℕ) (x : A)
    → slice_get xs n ≡ Some x → AllFit Fits xs n → Fits n x → AllFit Fits xs (n + 1)
one_more_fits Fits xs n x is before fits i y lt at = elim (cases_lt i n) [
  | inl less ↦ before i y less at
  | inr le ↦ let same : i ≡ n = omega (arith, lt, le) in
      subst (λ j. Fits j y) (sym same)
      (subst (Fits n) (same_Some x y (sym is ∙ ap (slice_get xs) (sym same) ∙ at)) fits)
]

-- an item more, whose name was met
pub named_push : {A : Type 0} (name_of : A → NameNumber) (xs : List A) (x : A)
    (before after : Marks) → AreNamesOf name_of xs before
    → ((other : NameNumber)
    → has_mark after other ≡ (nat_eq other (name_of x) || has_mark before other))
    → AreNamesOf name_of (xs ++ x ∷ []) after
named_push name_of xs x before after were met other =
    met other ∙ ap (λ b. nat_eq other (name_of x) || b) (were other)
    ∙ turned (nat_eq other (name_of x)) (list_any (nat_eq other) (map name_of xs))
    ∙ sym (ap (list_any (nat_eq other)) (map_push name_of xs x)
    ∙ list_any-append (nat_eq other) (map name_of xs) _)
  where
    turned : (a b : Bool) → (a || b) ≡ (b || (a || false))
    turned true true = refl
    turned true false = refl
    turned false true = refl
    turned false false = refl

pub take_next : {A : Type 0} (xs : List A) (n : ℕ) (x : A) → slice_get xs n ≡ Some x
    → take (n + 1) xs ≡ take n xs ++ x ∷ []
take_next xs n x is = take_more xs n x (slice_get_within xs n x is)
    ∙ ap (λ y. take n xs ++ y ∷ []) (get_or_from_slice_get xs n x x is)

pub one_more_named : {A : Type 0} (name_of : A → NameNumber) (xs : List A) (n : ℕ) (x : A)
    (before after : Marks) → slice_get xs n ≡ Some x → AreNamesOf name_of (take n xs) before
    → ((other : NameNumber)
    → has_mark after other ≡ (nat_eq other (name_of x) || has_mark before other))
    → AreNamesOf name_of (take (n + 1) xs) after
one_more_named name_of xs n x before after is were met =
    subst (λ ys. AreNamesOf name_of ys after) (sym (take_next xs n x is))
    (named_push name_of (take n xs) x before after were met)

-- a name is new where no item before has it
pub new_among : {A : Type 0} (name_of : A → NameNumber) (xs : List A) (marks : Marks)
    (name : NameNumber) (new : Bool) → AreNamesOf name_of xs marks
    → new ≡ not (has_mark marks name) → is_new (map name_of xs) name ≡ new
new_among name_of xs marks name new are is = sym (is ∙ ap not (are name))

pub nat_eq_sym : (a b : ℕ) → nat_eq a b ≡ nat_eq b a
nat_eq_sym a b = elim (cases_eq a b) [
  | inl same ↦ eq-eqb a b same ∙ sym (eq-eqb b a (sym same))
  | inr apart ↦ ne_eqb a b apart ∙ sym (ne_eqb b a (λ same. apart (sym same)))
]

-- an item has this name
pub named_among : {A : Type 0} (name_of : A → NameNumber) (xs : List A) (name : NameNumber)
    → list_any (nat_eq name) (map name_of xs) ≡ list_any (λ x. nat_eq (name_of x) name) xs
named_among name_of [] name = refl
named_among name_of (x ∷ xs) name =
    ap (λ b. b || list_any (nat_eq name) (map name_of xs)) (nat_eq_sym name (name_of x))
    ∙ ap (λ b. nat_eq (name_of x) name || b) (named_among name_of xs name)

-- once all were looked at
pub all_fit : {A : Type 0} (Fits : ℕ → A → Type 0) (xs : List A) (n : ℕ) → length xs ≤ n
    → AllFit Fits xs n → AllFit Fits xs (length xs)
all_fit Fits xs n end before i x lt is = before i x (omega (arith, end, lt)) is
