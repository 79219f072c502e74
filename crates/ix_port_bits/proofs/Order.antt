-- The order of rows.
use Rattle.std.proofs.Common.{◌≡◌, ℕ, ◌<◌, Bool, List, refl, sym, subst, Some, arith, inl, inr, get_or}
use Rattle.std.specs.Prelude.{◌⊎◌, ◌&&◌, nat_eq, slice_get}
use Rattle.std.specs.Cmp.{IsTotalOrder, IsEquivalence}
use Rattle.std.specs.List.{dedup}
use Rattle.std.specs.List.Sorted.{IsSorted}
use Rattle.std.specs.declared.cmp.Ordering.{Ordering}
use Rattle.std.specs.declared.cmp.Ordering.TheVariants.{Less, Equal, Greater}
use Rattle.std.specs.Ordering.{nat_cmp, ordering_then, is_eq, eq_by_cmp}
use Rattle.std.proofs.lemmas.Bool.Decides.{nat_tests}
use Rattle.std.proofs.lemmas.Cmp.{nat_cmp_total, nat_eq_equiv, on_total, then_total, on_equiv, and_equiv, ranked, by_ranked}
use Rattle.std.proofs.lemmas.List.Kept.{IsStrictlySortedBy-dedup}
use Rattle.std.proofs.lemmas.Map.Keys.{Less-from_sorted}
use Rattle.std.proofs.lemmas.Option.{slice_get_within, get_or_from_slice_get}
use Rattle.ix_hierarchy.specs.declared.row.Row.{Row}
use Rattle.ix_hierarchy.specs.Lists.{row_key}
use Rattle.ix_hierarchy.specs.Walk.{IsLess}

abbrev pub row_eq : Row → Row → Bool
row_eq a b = nat_eq a.instance b.instance
    && (nat_eq a.port b.port && (nat_eq a.index b.index && nat_eq a.net b.net))

abbrev pub row_cmp : Row → Row → Ordering
row_cmp a b = ordering_then (nat_cmp a.instance b.instance)
    (ordering_then (nat_cmp a.port b.port)
    (ordering_then (nat_cmp a.index b.index) (nat_cmp a.net b.net)))

pub row_order : IsTotalOrder row_cmp
row_order = then_total (on_total (λ (r : Row). r.instance) nat_cmp_total)
    (then_total (on_total (λ (r : Row). r.port) nat_cmp_total)
    (then_total (on_total (λ (r : Row). r.index) nat_cmp_total) (on_total (λ (r : Row). r.net) nat_cmp_total)))

pub row_equiv : IsEquivalence row_eq
row_equiv = and_equiv (on_equiv (λ (r : Row). r.instance) nat_eq_equiv)
    (and_equiv (on_equiv (λ (r : Row). r.port) nat_eq_equiv)
    (and_equiv (on_equiv (λ (r : Row). r.index) nat_eq_equiv) (on_equiv (λ (r : Row). r.net) nat_eq_equiv)))

-- numbers, by what their order is
eq_last : (x y : ℕ) → nat_eq x y ≡ is_eq (nat_cmp x y)
eq_last x y = by_ranked (x < y) (x ≡ y) (y < x) (nat_cmp x y) (ranked x y (nat_cmp x y) refl)
    (λ is h. subst (λ o. nat_eq x y ≡ is_eq o) (sym is) (grind (arith, nat_tests)))
    (λ is h. subst (λ o. nat_eq x y ≡ is_eq o) (sym is) (grind (arith, nat_tests)))
    (λ is h. subst (λ o. nat_eq x y ≡ is_eq o) (sym is) (grind (arith, nat_tests)))

eq_then : (x y : ℕ) (b : Bool) (o : Ordering) → b ≡ is_eq o
    → (nat_eq x y && b) ≡ is_eq (ordering_then (nat_cmp x y) o)
eq_then x y b o e = by_ranked (x < y) (x ≡ y) (y < x) (nat_cmp x y) (ranked x y (nat_cmp x y) refl)
    (λ is h. subst (λ r. (nat_eq x y && b) ≡ is_eq (ordering_then r o)) (sym is) (grind (arith, nat_tests)))
    (λ is h. subst (λ r. (nat_eq x y && b) ≡ is_eq (ordering_then r o)) (sym is) (grind (arith, nat_tests)))
    (λ is h. subst (λ r. (nat_eq x y && b) ≡ is_eq (ordering_then r o)) (sym is) (grind (arith, nat_tests)))

pub row_ties : (a b : Row) → row_eq a b ≡ eq_by_cmp row_cmp a b
row_ties a b = eq_then a.instance b.instance _ _ (eq_then a.port b.port _ _
    (eq_then a.index b.index _ _ (eq_last a.net b.net)))

less_last : (x y : ℕ) → nat_cmp x y ≡ Less → x < y
less_last x y less = by_ranked (x < y) (x ≡ y) (y < x) (nat_cmp x y) (ranked x y (nat_cmp x y) refl)
    (λ is h. h) (λ is h. absurd (two is less)) (λ is h. absurd (other is less))
  where
    two : {o : Ordering} → o ≡ Equal → o ≡ Less → ⊥
    two a b = cc

    other : {o : Ordering} → o ≡ Greater → o ≡ Less → ⊥
    other a b = cc

less_then : (x y : ℕ) (o : Ordering) → ordering_then (nat_cmp x y) o ≡ Less
    → (x < y) ⊎ ((x ≡ y) × (o ≡ Less))
less_then x y o less = by_ranked (x < y) (x ≡ y) (y < x) (nat_cmp x y) (ranked x y (nat_cmp x y) refl)
    (λ is h. inl h) (λ is h. inr (h, subst (λ r. ordering_then r o ≡ Less) is less))
    (λ is h. absurd (wrong (subst (λ r. ordering_then r o ≡ Less) is less)))
  where
    wrong : Greater ≡ Less → ⊥
    wrong e = cc

pub row_less : (a b : Row) → row_cmp a b ≡ Less → IsLess (row_key a) (row_key b)
row_less a b less = elim (less_then a.instance b.instance _ less) [
  | inl x ↦ inl x
  | inr x ↦ inr (
    x.0,
    elim (less_then a.port b.port _ x.1) [
      | inl y ↦ inl y
      | inr y ↦ inr (
        y.0,
        elim (less_then a.index b.index _ y.1) [
          | inl z ↦ inl z
          | inr z ↦ inr (z.0, inl (less_last a.net b.net z.1))
        ],
      )
    ],
  )
]

-- a sorted list with repeats left out rises
pub rows_rise : (rows : List Row) → IsSorted row_cmp rows → (j k : ℕ) (a b : Row) → j < k
    → slice_get (dedup row_eq rows) j ≡ Some a → slice_get (dedup row_eq rows) k ≡ Some b
    → IsLess (row_key a) (row_key b)
rows_rise rows sorted j k a b lt is_a is_b =
    let strict = IsStrictlySortedBy-dedup row_order row_ties rows sorted in
    let less = Less-from_sorted row_cmp (dedup row_eq rows) j k a strict lt (slice_get_within (dedup row_eq rows) k b is_b) in
    row_less a b (subst (λ (x : Row). row_cmp x b ≡ Less) (get_or_from_slice_get (dedup row_eq rows) j a a is_a)
    (subst (λ (y : Row). row_cmp (get_or (dedup row_eq rows) j a) y ≡ Less) (get_or_from_slice_get (dedup row_eq rows) k b a is_b) less))
