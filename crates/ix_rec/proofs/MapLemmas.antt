-- What a tree's entries are as a finite map.
use Rattle.std.proofs.Common.{◌≡◌, ◌≢◌, ℕ, Bool, true, false, ◌&&◌, T, List, [], ◌∷◌, length, Some, cond, filter, nat_le, arith, refl, sym, ap, subst, ◌∙◌}
use Rattle.std.specs.declared.cmp.Ordering.{Ordering}
use Rattle.std.specs.declared.cmp.Ordering.TheVariants.{Less, Equal, Greater}
use Rattle.std.specs.Ordering.{is_le, is_lt, nat_cmp, match_ordering, ordering_then, is_eq, eq_by_cmp}
use Rattle.std.specs.Cmp.{eq_by_cmp_equiv, IsTotalOrder}
use Rattle.std.specs.List.{AllByRecursion}
use Rattle.std.specs.List.Sorted.{IsStrictlySortedBy}
use Rattle.std.specs.Map.{keys_of, lookup}
use Rattle.std.specs.BTreeMap.{is_at, insert_entry}
use Rattle.std.specs.BTreeMap.Range.{entries_between}
use Rattle.std.specs.declared.ops.Bound.TheVariants.{Included, Unbounded}
use Rattle.std.proofs.lemmas.Bool.Decides.{nat_tests}
use Rattle.std.specs.FinMap as map
use Rattle.std.specs.FinMap.Entries.{below_all, by_order}
use Rattle.ix_rec.specs.Maps.{pin_order}

both : (a b : Bool) → T a → T b → T (a && b)
both true b p q = q
both false b p q = p

module _ {K X : Type 0} (R : K → K → Ordering) where
  below_all-from : (k : K) (es : List (K × X)) → AllByRecursion (λ y. R k y ≡ Less) (keys_of es) → T (below_all R k es)
  below_all-from k [] below = tt
  below_all-from k (e ∷ es) below = both _ _ (subst (λ o. T (is_lt o)) (sym below.0) tt) (below_all-from k es below.1)

  -- keys that rise are in the order that a finite map asks for
  pub is_sorted-from : (es : List (K × X)) → IsStrictlySortedBy R (keys_of es) → T (map.is_sorted R es)
  unfolding IsStrictlySortedBy
  is_sorted-from [] rising = tt
  is_sorted-from (e ∷ es) rising = both _ _ (below_all-from e.0 es rising.0) (is_sorted-from es rising.1)

  find-lookup : (q : K) (es : List (K × X)) → map.find R q es ≡ lookup (is_at (R q)) es
  find-lookup q [] = refl
  find-lookup q (e ∷ es) = ap (λ r. cond (is_at (R q) e.0) (Some e.1) r) (find-lookup q es)

  put-insert_entry : (k : K) (v : X) (es : List (K × X)) → map.put R k v es ≡ insert_entry R es k v
  put-insert_entry k v [] = refl
  put-insert_entry k v (e ∷ es) = elim (R k e.0) as (λ o. by_order o ((k, v) ∷ e ∷ es) ((e.0, v) ∷ es) (e ∷ map.put R k v es) ≡ match_ordering o ((k, v) ∷ e ∷ es) ((e.0, v) ∷ es) (e ∷ insert_entry R es k v)) [
    | Less ↦ refl
    | Equal ↦ refl
    | Greater ↦ ap (λ rest. e ∷ rest) (put-insert_entry k v es)
  ]

  module _ (es : List (K × X)) (rising : IsStrictlySortedBy R (keys_of es)) where
    -- the map's entries are the tree's
    pub entries-tree : map.entries (map.from_sorted {R = R} es) ≡ es
    entries-tree = map.entries-from_sorted R es (is_sorted-from es rising)

    -- so are its values
    pub get-tree : (q : K) → map.get (map.from_sorted {R = R} es) q ≡ lookup (is_at (R q)) es
    get-tree q = map.get-from_sorted R es q (is_sorted-from es rising) ∙ find-lookup q es

    pub len-tree : map.len (map.from_sorted {R = R} es) ≡ length es
    len-tree = map.len-entries (map.from_sorted {R = R} es) ∙ ap length entries-tree

    -- and an insertion in the tree is one in the map
    pub insert-tree : IsTotalOrder R → (k : K) (v : X) (after : List (K × X)) → IsStrictlySortedBy R (keys_of after)
        → after ≡ insert_entry R es k v → map.from_sorted {R = R} after ≡ map.insert (map.from_sorted es) k v
    insert-tree o k v after rising_after e =
        map.same_entries_map _ _ (map.entries-from_sorted R after (is_sorted-from after rising_after) ∙ e ∙ sym (map.entries-insert o (map.from_sorted es) k v ∙ ap (map.put R k v) entries-tree ∙ put-insert_entry k v es))

  -- a tree without entries is the empty map
  pub empty-tree : (es : List (K × X)) → es ≡ [] → map.from_sorted {R = R} es ≡ map.empty
  empty-tree es e = ap (λ l. map.from_sorted {R = R} l) e ∙ map.empty_of_len _ (map.len-entries _ ∙ ap length (map.entries-from_sorted R [] tt))

-- a pin comes at or after a cell's least one where its cell is at or after that cell
is_le-pin_order : (cell a b : ℕ) → (is_le (ordering_then (nat_cmp cell a) (nat_cmp 0 b)) && true) ≡ nat_le cell a
is_le-pin_order cell a b = grind (arith, nat_tests)

-- the entries from a cell's least pin on
pub entries_between-from_cell : {X : Type 0} (cell least : ℕ) (es : List ((ℕ × ℕ) × X)) → least ≡ 0
    → entries_between pin_order (Included (cell, least)) Unbounded es ≡ filter (λ e. nat_le cell e.0.0) es
entries_between-from_cell cell least es e = ap (λ n. entries_between pin_order (Included (cell, n)) Unbounded es) e ∙ (λ i. filter (λ e. is_le-pin_order cell e.0.0 e.0.1 i) es)

module _ {K : Type 0} {R : K → K → Ordering} (o : IsTotalOrder R) (same : map.IsAntisymmetric R) where
  tied : (k : K) → eq_by_cmp R k k ≡ true
  tied k = (eq_by_cmp_equiv o).refl k

  untied : (q k : K) → q ≢ k → eq_by_cmp R q k ≡ false
  untied q k other = by (R q k) refl
    where
      by : (r : Ordering) → R q k ≡ r → is_eq r ≡ false
      by Less e = refl
      by Equal e = absurd (other (same q k e))
      by Greater e = refl

  -- what an insertion gives at its key, and at the other keys
  pub get-insert_same : {X : Type 0} (m : map.FinMap R X) (k : K) (v : X) → map.get (map.insert m k v) k ≡ Some v
  get-insert_same m k v = map.get-insert o m k v k ∙ ap (λ b. cond b (Some v) (map.get m k)) (tied k)

  pub get-insert_other : {X : Type 0} (m : map.FinMap R X) (k : K) (v : X) (q : K) → q ≢ k → map.get (map.insert m k v) q ≡ map.get m q
  get-insert_other m k v q other = map.get-insert o m k v q ∙ ap (λ b. cond b (Some v) (map.get m q)) (untied q k other)
