-- The order of entries.
use Rattle.std.proofs.Common.{◌≡◌, ℕ, ◌<◌, Bool, true, List, refl, sym, ap, ◌∙◌, subst, Some, arith, inl, inr, get_or}
use Rattle.std.specs.Prelude.{◌⊎◌, ◌↔◌, ◌&&◌, nat_eq, slice_get}
use Rattle.std.specs.Cmp.{IsTotalOrder, IsEquivalence}
use Rattle.std.specs.List.{dedup, Contains}
use Rattle.std.specs.List.Sorted.{IsSorted}
use Rattle.std.specs.declared.cmp.Ordering.{Ordering}
use Rattle.std.specs.declared.cmp.Ordering.TheVariants.{Less, Equal, Greater}
use Rattle.std.specs.Ordering.{nat_cmp, ordering_then, is_eq, eq_by_cmp}
use Rattle.std.proofs.lemmas.Bool.Decides.{nat_tests}
use Rattle.std.proofs.lemmas.Cmp.{nat_cmp_total, nat_eq_equiv, on_total, then_total, on_equiv, and_equiv, ranked, by_ranked}
use Rattle.std.proofs.lemmas.List.Kept.{IsStrictlySortedBy-dedup}
use Rattle.std.proofs.lemmas.Map.Keys.{Less-from_sorted}
use Rattle.std.proofs.lemmas.Option.{slice_get_within, get_or_from_slice_get, slice_get-get_or}
use Rattle.ix_twice.specs.declared.entries.Entry.{Entry}
use Rattle.ix_twice.specs.Entries.{HasEntry, AreEntries, entry_key}
use Rattle.std.specs.List.Sorted.{IsPermutation}
use Rattle.std.proofs.lemmas.List.Sorted.{Contains-permutation, IsPermutation-sym}
use Rattle.std.proofs.lemmas.List.Kept.{Contains-dedup, Contains-from_dedup}
use Rattle.ix_hierarchy.specs.Walk.{IsLess}

abbrev pub entry_eq : Entry → Entry → Bool
entry_eq a b = nat_eq a.instance b.instance && (nat_eq a.name b.name && (nat_eq a.net b.net && (nat_eq a.port b.port && nat_eq a.index b.index)))

abbrev pub entry_cmp : Entry → Entry → Ordering
entry_cmp a b = ordering_then (nat_cmp a.instance b.instance) (ordering_then (nat_cmp a.name b.name) (ordering_then (nat_cmp a.net b.net) (ordering_then (nat_cmp a.port b.port) (nat_cmp a.index b.index))))

pub entry_order : IsTotalOrder entry_cmp
entry_order = then_total (on_total (λ (e : Entry). e.instance) nat_cmp_total) (then_total (on_total (λ (e : Entry). e.name) nat_cmp_total) (then_total (on_total (λ (e : Entry). e.net) nat_cmp_total) (then_total (on_total (λ (e : Entry). e.port) nat_cmp_total) (on_total (λ (e : Entry). e.index) nat_cmp_total))))

pub entry_equiv : IsEquivalence entry_eq
entry_equiv = and_equiv (on_equiv (λ (e : Entry). e.instance) nat_eq_equiv) (and_equiv (on_equiv (λ (e : Entry). e.name) nat_eq_equiv) (and_equiv (on_equiv (λ (e : Entry). e.net) nat_eq_equiv) (and_equiv (on_equiv (λ (e : Entry). e.port) nat_eq_equiv) (on_equiv (λ (e : Entry). e.index) nat_eq_equiv))))

-- numbers, by what their order is
eq_last : (x y : ℕ) → nat_eq x y ≡ is_eq (nat_cmp x y)
eq_last x y = by_ranked (x < y) (x ≡ y) (y < x) (nat_cmp x y) (ranked x y (nat_cmp x y) refl)
    (λ is h. subst (λ o. nat_eq x y ≡ is_eq o) (sym is) (grind (arith, nat_tests)))
    (λ is h. subst (λ o. nat_eq x y ≡ is_eq o) (sym is) (grind (arith, nat_tests)))
    (λ is h. subst (λ o. nat_eq x y ≡ is_eq o) (sym is) (grind (arith, nat_tests)))

eq_then : (x y : ℕ) (b : Bool) (o : Ordering) → b ≡ is_eq o
    → (nat_eq x y && b) ≡ is_eq (ordering_then (nat_cmp x y) o)
eq_then x y b o e = by_ranked (x < y) (x ≡ y) (y < x) (nat_cmp x y) (ranked x y (nat_cmp x y) refl)
    (λ is h. subst (λ r. (nat_eq x y && b) ≡ is_eq (ordering_then r o)) (sym is) (grind (arith, nat_tests)))
    (λ is h. subst (λ r. (nat_eq x y && b) ≡ is_eq (ordering_then r o)) (sym is) (grind (arith, nat_tests)))
    (λ is h. subst (λ r. (nat_eq x y && b) ≡ is_eq (ordering_then r o)) (sym is) (grind (arith, nat_tests)))

pub entry_ties : (a b : Entry) → entry_eq a b ≡ eq_by_cmp entry_cmp a b
entry_ties a b = eq_then a.instance b.instance _ _ (eq_then a.name b.name _ _ (eq_then a.net b.net _ _
    (eq_then a.port b.port _ _ (eq_last a.index b.index))))

less_last : (x y : ℕ) → nat_cmp x y ≡ Less → x < y
less_last x y less = by_ranked (x < y) (x ≡ y) (y < x) (nat_cmp x y) (ranked x y (nat_cmp x y) refl)
    (λ is h. h) (λ is h. absurd (two is less)) (λ is h. absurd (other is less))
  where
    two : {o : Ordering} → o ≡ Equal → o ≡ Less → ⊥
    two a b = cc

    other : {o : Ordering} → o ≡ Greater → o ≡ Less → ⊥
    other a b = cc

less_then : (x y : ℕ) (o : Ordering) → ordering_then (nat_cmp x y) o ≡ Less
    → (x < y) ⊎ ((x ≡ y) × (o ≡ Less))
less_then x y o less = by_ranked (x < y) (x ≡ y) (y < x) (nat_cmp x y) (ranked x y (nat_cmp x y) refl)
    (λ is h. inl h) (λ is h. inr (h, subst (λ r. ordering_then r o ≡ Less) is less))
    (λ is h. absurd (wrong (subst (λ r. ordering_then r o ≡ Less) is less)))
  where
    wrong : Greater ≡ Less → ⊥
    wrong e = cc

pub entry_less : (a b : Entry) → entry_cmp a b ≡ Less → IsLess (entry_key a) (entry_key b)
entry_less a b less = elim (less_then a.instance b.instance _ less) [
  | inl x ↦ inl x
  | inr x ↦ inr (
    x.0,
    elim (less_then a.name b.name _ x.1) [
      | inl y ↦ inl y
      | inr y ↦ inr (
        y.0,
        elim (less_then a.net b.net _ y.1) [
          | inl z ↦ inl z
          | inr z ↦ inr (
            z.0,
            elim (less_then a.port b.port _ z.1) [
              | inl w ↦ inl w
              | inr w ↦ inr (w.0, inl (less_last a.index b.index w.1))
            ],
          )
        ],
      )
    ],
  )
]

pub entries_rise : (xs : List Entry) → IsSorted entry_cmp xs → (j k : ℕ) (a b : Entry) → j < k
    → slice_get (dedup entry_eq xs) j ≡ Some a → slice_get (dedup entry_eq xs) k ≡ Some b
    → IsLess (entry_key a) (entry_key b)
entries_rise xs sorted j k a b lt is_a is_b =
    let strict = IsStrictlySortedBy-dedup entry_order entry_ties xs sorted in
    let less = Less-from_sorted entry_cmp (dedup entry_eq xs) j k a strict lt (slice_get_within (dedup entry_eq xs) k b is_b) in
    entry_less a b (subst (λ (x : Entry). entry_cmp x b ≡ Less) (get_or_from_slice_get (dedup entry_eq xs) j a a is_a)
    (subst (λ (y : Entry). entry_cmp (get_or (dedup entry_eq xs) j a) y ≡ Less) (get_or_from_slice_get (dedup entry_eq xs) k b a is_b) less))

same_from_eq : (a b : Entry) → entry_eq a b ≡ true → a ≡ b
same_from_eq a b h =
    let p = parts a.instance a.name a.net a.port a.index b.instance b.name b.net b.port b.index h in
    λ i. record { instance = p.0 i; name = p.1 i; net = p.2 i; port = p.3 i; index = p.4 i }
  where
    parts : (i p x n k j q y m l : ℕ) → nat_eq i j && (nat_eq p q && (nat_eq x y && (nat_eq n m && nat_eq k l))) ≡ true
        → (i ≡ j) × (p ≡ q) × (x ≡ y) × (n ≡ m) × (k ≡ l)
    parts i p x n k j q y m l h = grind (arith, nat_tests)

contains_it : (e : Entry) (xs : List Entry) → HasEntry xs e → Contains xs e
contains_it e xs (k, is) = (k, slice_get_within xs k e is, get_or_from_slice_get xs k e e is)

it_contains : (e : Entry) (xs : List Entry) → Contains xs e → HasEntry xs e
it_contains e xs (k, within, is) = (k, slice_get-get_or xs k e within ∙ ap Some is)

pub kept_has : (listed sorted : List Entry) (e : Entry) → IsPermutation listed sorted → HasEntry listed e
    → HasEntry (dedup entry_eq sorted) e
kept_has listed sorted e moved h = it_contains e (dedup entry_eq sorted)
    (Contains-dedup entry_equiv same_from_eq sorted e (Contains-permutation listed sorted e moved (contains_it e listed h)))

pub has_kept : (listed sorted : List Entry) (e : Entry) → IsPermutation listed sorted
    → HasEntry (dedup entry_eq sorted) e → HasEntry listed e
has_kept listed sorted e moved h = it_contains e listed
    (Contains-permutation sorted listed e (IsPermutation-sym listed sorted moved) (Contains-from_dedup entry_eq sorted e (contains_it e (dedup entry_eq sorted) h)))

pub all_entries : (Is : Entry → Type 0) (listing sorted entries : List Entry)
    → ((e : Entry) → HasEntry listing e ↔ Is e) → IsPermutation listing sorted → IsSorted entry_cmp sorted
    → entries ≡ dedup entry_eq sorted → AreEntries Is entries
all_entries Is listing sorted entries listed moved rises kept =
    subst (λ (xs : List Entry). AreEntries Is xs) (sym kept) (record {
      each = λ k e is_e. (listed e).0 (has_kept listing sorted e moved (k, is_e));
      all = λ e h. kept_has listing sorted e moved ((listed e).1 h);
      rise = λ j k a b lt is_a is_b. entries_rise sorted rises j k a b lt is_a is_b;
    })
