-- Entries, one after another.
use Rattle.std.proofs.Common.{◌≡◌, ℕ, ◌+◌, ◌<◌, ◌≤◌, List, [], ◌∷◌, ◌++◌, refl, sym, ap, ◌∙◌, subst, Option, Some, None, arith, inl, inr, zero, suc}
use Rattle.std.specs.Prelude.{◌⊎◌, ◌↔◌}
use Rattle.std.proofs.lemmas.Bool.{cases_lt}
use Rattle.ix_hierarchy.specs.declared.row.Row.{Row}
use Rattle.ix_twice.specs.declared.entries.Entry.{Entry}
use Rattle.ix_twice.specs.Repeats.{IsLeast, least_of}
use Rattle.ix_twice.specs.Entries.{HasEntry, IsEntry, IsEntryAt, IsEntryRepeat, IsEntryRepeatAt}
use Rattle.ix_twice.proofs.Least.{least_join}

has_more : (xs : List Entry) (x e : Entry) → HasEntry (xs ++ x ∷ []) e → HasEntry xs e ⊎ (x ≡ e)
has_more [] x e (zero, is) = inr (same x e is)
  where
    same : (a b : Entry) → Some a ≡ Some b → a ≡ b
    same a b h = cc
has_more [] x e (suc k, is) = absurd (no e is)
  where
    no : (b : Entry) → None ≡ Some b → ⊥
    no b h = cc
has_more (y ∷ xs) x e (zero, is) = inl (0, is)
has_more (y ∷ xs) x e (suc k, is) = elim (has_more xs x e (k, is)) [
  | inl h ↦ inl (suc h.0, h.1)
  | inr h ↦ inr h
]

has_kept : (xs : List Entry) (x e : Entry) → HasEntry xs e → HasEntry (xs ++ x ∷ []) e
has_kept [] x e (k, is) = absurd (no e is)
  where
    no : (b : Entry) → None ≡ Some b → ⊥
    no b h = cc
has_kept (y ∷ xs) x e (zero, is) = (0, is)
has_kept (y ∷ xs) x e (suc k, is) = let h = has_kept xs x e (k, is) in (suc h.0, h.1)

has_last : (xs : List Entry) (x : Entry) → HasEntry (xs ++ x ∷ []) x
has_last [] x = (0, refl)
has_last (y ∷ xs) x = let h = has_last xs x in (suc h.0, h.1)

abbrev pub AreListed : (rows : List Row) (written : List ℕ) (start place : ℕ) → List Entry → Type 0
AreListed rows written start place xs = (e : Entry) → HasEntry xs e ↔ IsEntry rows written start place e

entry_later : (rows : List Row) (written : List ℕ) (start place : ℕ) (e : Entry)
    → IsEntry rows written start place e → IsEntry rows written start (place + 1) e
entry_later rows written start place e r =
    record { place = r.place; from = r.from; to = omega (arith, r.to); at_place = r.at_place }

entry_split : (rows : List Row) (written : List ℕ) (start place : ℕ) (e : Entry)
    → IsEntry rows written start (place + 1) e
    → IsEntry rows written start place e ⊎ IsEntryAt rows written start place e
entry_split rows written start place e r = elim (cases_lt r.place place) [
  | inl less ↦ inl (record { place = r.place; from = r.from; to = less; at_place = r.at_place })
  | inr more ↦ let same : r.place ≡ place = omega (arith, r.to) in
      inr (subst (λ (k : ℕ). IsEntryAt rows written start k e) same r.at_place)
]

pub listed_some : (rows : List Row) (written : List ℕ) (start place : ℕ) (xs next : List Entry) (x : Entry)
    (o : Option Entry) → start ≤ place → AreListed rows written start place xs
    → ((e : Entry) → (o ≡ Some e) ↔ IsEntryAt rows written start place e) → o ≡ Some x
    → next ≡ xs ++ x ∷ [] → AreListed rows written start (place + 1) next
listed_some rows written start place xs next x o from listed at is pushed =
    subst (λ (ys : List Entry). AreListed rows written start (place + 1) ys) (sym pushed) (λ e. (
      (λ h. elim (has_more xs x e h) [
        | inl old ↦ entry_later rows written start place e ((listed e).0 old)
        | inr new ↦ record { place = place; from = from; to = omega arith; at_place = (at e).0 (is ∙ ap Some new) }
      ]),
      (λ h. elim (entry_split rows written start place e h) [
        | inl old ↦ has_kept xs x e ((listed e).1 old)
        | inr new ↦ subst (λ (y : Entry). HasEntry (xs ++ x ∷ []) y) (same x e (sym is ∙ (at e).1 new)) (has_last xs x)
      ]),
    ))
  where
    same : (a b : Entry) → Some a ≡ Some b → a ≡ b
    same a b h = cc

pub listed_none : (rows : List Row) (written : List ℕ) (start place : ℕ) (xs : List Entry)
    (o : Option Entry) → AreListed rows written start place xs
    → ((e : Entry) → (o ≡ Some e) ↔ IsEntryAt rows written start place e)
    → ((x : Entry) → o ≡ Some x → ⊥) → AreListed rows written start (place + 1) xs
listed_none rows written start place xs o listed at none e = (
  (λ h. entry_later rows written start place e ((listed e).0 h)),
  (λ h. elim (entry_split rows written start place e h) [
    | inl old ↦ (listed e).1 old
    | inr new ↦ absurd (none e ((at e).1 new))
  ]),
)

pub entries_more : (entries : List Entry) (place : ℕ) (found here : Option ℕ) → 0 < place
    → IsLeast (IsEntryRepeat entries place) found → IsLeast (IsEntryRepeatAt entries place) here
    → IsLeast (IsEntryRepeat entries (place + 1)) (least_of found here)
entries_more entries place found here lt kept at =
    least_join (IsEntryRepeat entries place) (IsEntryRepeatAt entries place) (IsEntryRepeat entries (place + 1)) found here
    (λ n r. elim (cases_lt r.place place) [
      | inl less ↦ inl (record { place = r.place; from = r.from; to = less; repeat = r.repeat })
      | inr more ↦ let same : r.place ≡ place = omega (arith, r.to) in
          inr (subst (λ (k : ℕ). IsEntryRepeatAt entries k n) same r.repeat)
    ])
    (λ n r. record { place = r.place; from = r.from; to = omega (arith, r.to); repeat = r.repeat })
    (λ n r. record { place = place; from = lt; to = omega arith; repeat = r })
    kept at

pub entries_few : (entries : List Entry) (end : ℕ) → end ≤ 1 → IsLeast (IsEntryRepeat entries end) None
entries_few entries end few n r =
    let a = r.from in
    let b = r.to in
    absurd (omega arith)
