-- What a map has under its keys, entry by entry.
use Rattle.std.proofs.Common.{◌≡◌, ◌∙◌, ap, sym, List, [], ◌∷◌, Bool, true, false, cond, T}
use Rattle.std.proofs.Common.{◌&&◌, Some, None, refl}
use Rattle.std.specs.List.{AllByRecursion}
use Rattle.std.specs.Cmp.{Equal-is, IsTotalOrder}
use Rattle.std.specs.Ordering.{eq_by_cmp, is_eq, is_lt}
use Rattle.std.proofs.lemmas.Cmp.{eq_by_cmp_equiv}
use Rattle.std.specs.FinMap.{FinMap, entries, entries_sorted, get, get-entries}
use Rattle.std.specs.FinMap.Entries.{find, find_tied, below_all, is_sorted}
use Rattle.std.proofs.Common.{Ordering}
use Rattle.std.specs.declared.cmp.Ordering.TheVariants.{Less, Equal, Greater}
use Rattle.std.proofs.lemmas.Option.{none-some}

both_left : (a b : Bool) → T (a && b) → T a
both_left true b h = tt
both_left false b h = h

both_right : (a b : Bool) → T (a && b) → T b
both_right true b h = h
both_right false b h = absurd h

-- what is below all is no key of them
none_below : {K X : Type 0} (R : K → K → Ordering) (k : K) (es : List (K × X))
    → T (below_all R k es) → find R k es ≡ None
none_below R k [] h = refl
none_below R k (e ∷ es) h = by (R k e.0) (both_left (is_lt (R k e.0)) _ h)
    (none_below R k es (both_right (is_lt (R k e.0)) _ h))
  where
    by : (o : Ordering) → T (is_lt o) → find R k es ≡ None
        → cond (is_eq o) (Some e.1) (find R k es) ≡ None
    by Less h rest = rest
    by Equal h rest = absurd h
    by Greater h rest = absurd h

-- an entry is what is found under its key
all_found : {K X : Type 0} (R : K → K → Ordering) (o : IsTotalOrder R) (P : K × X → Type 0)
    (es : List (K × X)) → T (is_sorted R es)
    → ((k : K) (v : X) → find R k es ≡ Some v → P (k, v)) → AllByRecursion P es
all_found R o P [] sorted found = tt
all_found {K} {X} R o P (e ∷ es) sorted found = (
  found e.0 e.1 (ap (λ b. cond b (Some e.1) (find R e.0 es)) (tied e.0)),
  all_found R o P es (both_right (below_all R e.0 es) _ sorted) (λ k v at. found k v
      (passed k v at (eq_by_cmp R k e.0) refl)),
)
  where
    tied : (k : K) → eq_by_cmp R k k ≡ true
    tied k = (eq_by_cmp_equiv o).refl k

    passed : (k : K) (v : X) → find R k es ≡ Some v → (b : Bool) → eq_by_cmp R k e.0 ≡ b
        → cond (eq_by_cmp R k e.0) (Some e.1) (find R k es) ≡ Some v
    passed k v at false other = ap (λ b. cond b (Some e.1) (find R k es)) other ∙ at
    passed k v at true is = absurd (none-some v (sym (none_below R e.0 es
        (both_left (below_all R e.0 es) _ sorted))
        ∙ find_tied R o k e.0 ((Equal-is (R k e.0)).0 is) es ∙ at))

pub every_entry : {K X : Type 0} (R : K → K → Ordering) (o : IsTotalOrder R) (P : K × X → Type 0)
    (m : FinMap R X) → ((k : K) (v : X) → get m k ≡ Some v → P (k, v))
    → AllByRecursion P (entries m)
every_entry R o P m has = all_found R o P (entries m) (entries_sorted m)
    (λ k v at. has k v (get-entries m k ∙ at))
