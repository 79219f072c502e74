-- The walk over the steps of a message finds its first field that is out of its list.
use Prim.Native.String.{String}
use Rattle.std.proofs.Common.{◌≡◌, ℕ, zero, suc, ◌+◌, ◌-◌, ◌^◌, ◌<◌, ◌≤◌, List, [], ◌∷◌, ◌++◌}
use Rattle.std.proofs.Common.{length, replicate, Bool, true, false, cond, Some, refl, sym, ap, ◌∙◌}
use Rattle.std.proofs.Common.{subst, arith, eq-eqb}
use Rattle.std.specs.Prelude.{codes, min, slice_index, ◌==◌}
use Rattle.std.specs.List.{count_by}
use Rattle.std.proofs.lemmas.Bool.{both_ways, and_parts, eqb-true}
use Rattle.std.proofs.lemmas.List.{length-set, length-append, get_or-set_same, get_or-set_other}
use Rattle.std.proofs.lemmas.List.Sums.{sum_by_push, count_by-le-length}
use Rattle.ix_message.specs.Indexes.{Step, begun, asked, begins, first_unfit}
use Rattle.ix_message.specs.Names.{same_text}
use Rattle.ix_message.specs.Shape.{Text, Struct}
use Rattle.ix_device_read.specs.Finish.{place_of, with_one_more}
use Rattle.ix_take.specs.Walked.{kinds_of, begin, walked, begun_in}
use Rattle.ix_take.specs.Walks.{has_kind, AreOfKinds, stopped}

-- The places of kinds.

place-lt : (ks : List String) (kind : String) → has_kind ks kind ≡ true
    → place_of ks kind < length ks
place-lt [] kind h = absurd cc
place-lt (k ∷ ks) kind h = go (same_text (codes k) (codes kind)) h (place-lt ks kind)
  where
    go : (b : Bool) → cond b true (has_kind ks kind) ≡ true
        → (has_kind ks kind ≡ true → place_of ks kind < length ks)
        → cond b 0 (place_of ks kind + 1) < length (k ∷ ks)
    go true h later = omega arith
    go false h later = let i = later h in omega arith

place-same : (ks : List String) (a b : String) → codes a ≡ codes b → place_of ks a ≡ place_of ks b
place-same [] a b e = refl
place-same (k ∷ ks) a b e = let later = place-same ks a b e in
    λ i. cond (same_text (codes k) (e i)) 0 (later i + 1)

same_text-true : (s t : Text) → same_text s t ≡ true → s ≡ t
same_text-true [] [] h = refl
same_text-true [] (y ∷ ys) h = absurd cc
same_text-true (x ∷ xs) [] h = absurd cc
same_text-true (x ∷ xs) (y ∷ ys) h =
    let two = and_parts (x == y) (same_text xs ys) h in
    let one : x ≡ y = eqb-true x y two.0 in
    let rest = same_text-true xs ys two.1 in
    ap (λ (n : ℕ). n ∷ xs) one ∙ ap (λ (t : Text). y ∷ t) rest

same_text-refl : (t : Text) → same_text t t ≡ true
same_text-refl [] = refl
same_text-refl (x ∷ xs) = rw (eq-eqb x x refl) (same_text-refl xs)

same_of : (s t : Text) → s ≡ t → same_text s t ≡ true
same_of s t e = subst (λ (u : Text). same_text s u ≡ true) e (same_text-refl s)

place-differs : (ks : List String) (a b : String) → has_kind ks a ≡ true → has_kind ks b ≡ true
    → place_of ks a ≡ place_of ks b → same_text (codes a) (codes b) ≡ true
place-differs [] a b h i e = absurd cc
place-differs (k ∷ ks) a b h i e = go (same_text (codes k) (codes a))
    (same_text (codes k) (codes b)) refl refl h i e (place-differs ks a b)
  where
    go : (x y : Bool) → same_text (codes k) (codes a) ≡ x → same_text (codes k) (codes b) ≡ y
        → cond x true (has_kind ks a) ≡ true → cond y true (has_kind ks b) ≡ true
        → cond x 0 (place_of ks a + 1) ≡ cond y 0 (place_of ks b + 1)
        → (has_kind ks a ≡ true → has_kind ks b ≡ true → place_of ks a ≡ place_of ks b
        → same_text (codes a) (codes b) ≡ true) → same_text (codes a) (codes b) ≡ true
    go true true p q h i e later = same_of (codes a) (codes b)
        (sym (same_text-true (codes k) (codes a) p) ∙ same_text-true (codes k) (codes b) q)
    go false false p q h i e later = later h i (omega arith)
    go true false p q h i e later = absurd (omega arith)
    go false true p q h i e later = absurd (omega arith)

-- The counts are those of the structs begun.

record AreCounts (ss : List Struct) (counts : List ℕ) (before : List Step) : Type 0 where
  size : length (kinds_of ss) ≤ length counts
  each : (kind : String) → has_kind (kinds_of ss) kind ≡ true
      → slice_index counts (place_of (kinds_of ss) kind) ≡ count_by (begins kind) before

one_more : (ss : List Struct) (counts : List ℕ) (before : List Step) (k : String)
    → AreCounts ss counts before → has_kind (kinds_of ss) k ≡ true → length before < 2 ^ 32 - 1
    → AreCounts ss (begin ss k counts) (before ++ begun k ∷ [])
one_more ss counts before k c known few = record {
  size = omega (
    arith,
    c.size,
    length-set counts (place_of (kinds_of ss) k)
        (min (slice_index counts (place_of (kinds_of ss) k) + 1) (2 ^ 32 - 1)),
  );
  each = λ kind h. go kind h (same_text (codes k) (codes kind)) refl
      ∙ sym (sum_by_push (λ (s : Step). cond (begins kind s) 1 0) before (begun k));
}
  where
    go : (kind : String) → has_kind (kinds_of ss) kind ≡ true → (b : Bool)
        → same_text (codes k) (codes kind) ≡ b
        → slice_index (with_one_more counts (place_of (kinds_of ss) k))
        (place_of (kinds_of ss) kind) ≡ count_by (begins kind) before + cond
        (same_text (codes k) (codes kind)) 1 0
    go kind h true e =
        let place : place_of (kinds_of ss) k ≡ place_of (kinds_of ss) kind =
        place-same (kinds_of ss) k kind (same_text-true (codes k) (codes kind) e) in
        let here : slice_index counts (place_of (kinds_of ss) k) ≡ count_by (begins kind) before =
        ap (λ (p : ℕ). slice_index counts p) place ∙ c.each kind h in
        let inside : place_of (kinds_of ss) k < length counts =
        omega (arith, place-lt (kinds_of ss) k known, c.size) in
        let more : min (slice_index counts (place_of (kinds_of ss) k) + 1) (2 ^ 32 - 1) ≡ count_by
        (begins kind) before + 1 = omega
        (arith, count_by-le-length (begins kind) before, here) in
        ap (λ (p : ℕ). slice_index (with_one_more counts (place_of (kinds_of ss) k)) p) (sym place)
        ∙ get_or-set_same counts (place_of (kinds_of ss) k) _ 0 inside ∙ more
        ∙ ap (λ (b : Bool). count_by (begins kind) before + cond b 1 0) (sym e)
    go kind h false e =
        let apart = λ (p : place_of (kinds_of ss) kind ≡ place_of (kinds_of ss) k). both_ways
        (same_text (codes k) (codes kind)) e
        (place-differs (kinds_of ss) k kind known h (sym p)) in
        let none : count_by (begins kind) before ≡ count_by (begins kind) before + 0 =
        omega arith in
        get_or-set_other counts (place_of (kinds_of ss) k) (place_of (kinds_of ss) kind) _ 0 apart
        ∙ c.each kind h ∙ none ∙ ap (λ (b : Bool). count_by (begins kind) before + cond b 1 0)
        (sym e)

same_first : (ss : List Struct) (rest : List Step) (counts : List ℕ) (before : List Step)
    → AreCounts ss counts before → AreOfKinds ss rest → length before + begun_in rest ≤ 2 ^ 32 - 1
    → stopped (walked ss counts rest) ≡ first_unfit before rest
unfolding walked first_unfit
same_first ss [] counts before c h few = refl
same_first ss (begun k ∷ rest) counts before c h few =
    same_first ss rest (begin ss k counts) (before ++ begun k ∷ [])
    (one_more ss counts before k c h.0 (omega arith)) h.1
    (omega (arith, length-append before (begun k ∷ [])))
same_first ss (asked k called true ∷ rest) counts before c h few =
    same_first ss rest counts before c h.1 few
same_first ss (asked k called false ∷ rest) counts before c h few =
    ap (λ (n : ℕ). Some (record { kind = codes k; field = codes called; index = n - 1 }))
    (c.each k h.0)

zeros : (n i : ℕ) → slice_index (replicate n 0) i ≡ 0
zeros zero i = refl
zeros (suc n) zero = refl
zeros (suc n) (suc i) = zeros n i

replicated : (n : ℕ) → length {A = ℕ} (replicate n 0) ≡ n
replicated zero = refl
replicated (suc n) = ap suc (replicated n)

mapped : (ss : List Struct) → length (kinds_of ss) ≡ length ss
mapped [] = refl
mapped (s ∷ ss) = ap suc (mapped ss)

pub finds_first : (ss : List Struct) (rest : List Step) → length ss ≤ 32 → AreOfKinds ss rest
    → begun_in rest ≤ 2 ^ 32 - 1 → stopped (walked ss (replicate 32 0) rest) ≡ first_unfit [] rest
finds_first ss rest few h most = same_first ss rest (replicate 32 0) []
    (record {
      size = omega (arith, mapped ss, replicated 32, few);
      each =
          λ kind h. zeros 32 (place_of (kinds_of ss) kind);
    }) h (omega (arith, most))
