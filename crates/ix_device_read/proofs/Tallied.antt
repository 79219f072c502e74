-- The counts of kinds of structs are those of the steps before, so the walk that counts finds the first bad field.
use Prim.Native.String.{String}
use Rattle.std.proofs.Common.{◌≡◌, ℕ, zero, suc, ◌+◌, ◌-◌, ◌^◌, ◌<◌, ◌≤◌, List, [], ◌∷◌, ◌++◌, length, replicate, Bool, true, false, cond, Option, Some, None, refl, sym, ap, ◌∙◌, subst, arith, eq-eqb}
use Rattle.std.specs.Prelude.{codes, min, if◌then◌else◌, slice_index}
use Rattle.std.specs.List.{AllByRecursion, count_by, flat_map, sum_by}
use Rattle.std.proofs.lemmas.Bool.{both_ways}
use Rattle.std.proofs.lemmas.List.{length-set, length-append, length-replicate, get_or-set_same, get_or-set_other}
use Rattle.std.proofs.lemmas.List.Sums.{sum_by-cons, sum_by_push, count_by-le-length}
use Rattle.ix_message.specs.Indexes.{Step, Entry, Lists, begun, asked as step_asked, ask_row, ask_all, begins, first_unfit, option_steps}
use Rattle.ix_message.specs.Names.{same_text}
use Rattle.ix_message.specs.Shape.{Text, Field, Kind}
use Rattle.ix_message.proofs.NamesAgain.{same_text-true}
use Rattle.ix_device_read.specs.Finish.{device_kinds, place_of, with_one_more, begin}
use Rattle.ix_device_read.specs.Premises.{if_there}
use Rattle.ix_device_read.proofs.Walked.{first_from}

-- ---- the places of kinds

abbrev pub has_kind : List String → String → Bool
has_kind [] kind = false
has_kind (k ∷ ks) kind = if same_text (codes k) (codes kind) then true else has_kind ks kind

place-lt : (ks : List String) (kind : String) → has_kind ks kind ≡ true → place_of ks kind < length ks
place-lt [] kind h = absurd cc
place-lt (k ∷ ks) kind h = go (same_text (codes k) (codes kind)) h (place-lt ks kind)
  where
    go : (b : Bool) → cond b true (has_kind ks kind) ≡ true → (has_kind ks kind ≡ true → place_of ks kind < length ks) → cond b 0 (place_of ks kind + 1) < length (k ∷ ks)
    go true h later = omega arith
    go false h later = let i = later h in omega arith

-- kinds of one name have one place
place-same : (ks : List String) (a b : String) → codes a ≡ codes b → place_of ks a ≡ place_of ks b
place-same [] a b e = refl
place-same (k ∷ ks) a b e = let later = place-same ks a b e in λ i. cond (same_text (codes k) (e i)) 0 (later i + 1)

same_text-refl : (t : Text) → same_text t t ≡ true
same_text-refl [] = refl
same_text-refl (x ∷ xs) = rw (eq-eqb x x refl) (same_text-refl xs)

same_of : (s t : Text) → s ≡ t → same_text s t ≡ true
same_of s t e = subst (λ (u : Text). same_text s u ≡ true) e (same_text-refl s)

-- kinds of one place have one name
place-differs : (ks : List String) (a b : String) → has_kind ks a ≡ true → has_kind ks b ≡ true → place_of ks a ≡ place_of ks b → same_text (codes a) (codes b) ≡ true
place-differs [] a b h i e = absurd cc
place-differs (k ∷ ks) a b h i e = go (same_text (codes k) (codes a)) (same_text (codes k) (codes b)) refl refl h i e (place-differs ks a b)
  where
    go : (x y : Bool) → same_text (codes k) (codes a) ≡ x → same_text (codes k) (codes b) ≡ y
        → cond x true (has_kind ks a) ≡ true → cond y true (has_kind ks b) ≡ true → cond x 0 (place_of ks a + 1) ≡ cond y 0 (place_of ks b + 1)
        → (has_kind ks a ≡ true → has_kind ks b ≡ true → place_of ks a ≡ place_of ks b → same_text (codes a) (codes b) ≡ true) → same_text (codes a) (codes b) ≡ true
    go true true p q h i e later = same_of (codes a) (codes b) (sym (same_text-true (codes k) (codes a) p) ∙ same_text-true (codes k) (codes b) q)
    go false false p q h i e later = later h i (omega arith)
    go true false p q h i e later = absurd (omega arith)
    go false true p q h i e later = absurd (omega arith)

-- ---- the counts

-- the counts are those of the structs begun
pub record AreCounts (kinds : List String) (counts : List ℕ) (before : List Step) : Type 0 where
  pub size : length counts ≡ length kinds
  pub each : (kind : String) → has_kind kinds kind ≡ true → slice_index counts (place_of kinds kind) ≡ count_by (begins kind) before

one_more_counted : (kinds : List String) (counts : List ℕ) (before : List Step) (k : String) → AreCounts kinds counts before → has_kind kinds k ≡ true → length before < 2 ^ 32 - 1
    → AreCounts kinds (with_one_more counts (place_of kinds k)) (before ++ begun k ∷ [])
one_more_counted kinds counts before k c known few = record {
  size = length-set counts (place_of kinds k) (min (slice_index counts (place_of kinds k) + 1) (2 ^ 32 - 1)) ∙ c.size;
  each = λ kind h. go kind h (same_text (codes k) (codes kind)) refl ∙ sym (sum_by_push (λ (s : Step). cond (begins kind s) 1 0) before (begun k));
}
  where
    go : (kind : String) → has_kind kinds kind ≡ true → (b : Bool) → same_text (codes k) (codes kind) ≡ b
        → slice_index (with_one_more counts (place_of kinds k)) (place_of kinds kind) ≡ count_by (begins kind) before + cond (same_text (codes k) (codes kind)) 1 0
    go kind h true e =
        let place : place_of kinds k ≡ place_of kinds kind = place-same kinds k kind (same_text-true (codes k) (codes kind) e) in
        let here : slice_index counts (place_of kinds k) ≡ count_by (begins kind) before = ap (λ (p : ℕ). slice_index counts p) place ∙ c.each kind h in
        let inside : place_of kinds k < length counts = omega (arith, place-lt kinds k known, c.size) in
        let more : min (slice_index counts (place_of kinds k) + 1) (2 ^ 32 - 1) ≡ count_by (begins kind) before + 1 = omega (arith, count_by-le-length (begins kind) before, here) in
        ap (λ (p : ℕ). slice_index (with_one_more counts (place_of kinds k)) p) (sym place) ∙ get_or-set_same counts (place_of kinds k) _ 0 inside ∙ more ∙ ap (λ (b : Bool). count_by (begins kind) before + cond b 1 0) (sym e)
    go kind h false e =
        let apart = λ (p : place_of kinds kind ≡ place_of kinds k). both_ways (same_text (codes k) (codes kind)) e (place-differs kinds k kind known h (sym p)) in
        let none : count_by (begins kind) before ≡ count_by (begins kind) before + 0 = omega arith in
        get_or-set_other counts (place_of kinds k) (place_of kinds kind) _ 0 apart ∙ c.each kind h ∙ none ∙ ap (λ (b : Bool). count_by (begins kind) before + cond b 1 0) (sym e)

-- a step is of a kind that is counted
abbrev pub IsOfKind : List String → Step → Type 0
IsOfKind kinds (begun kind) = has_kind kinds kind ≡ true
IsOfKind kinds (step_asked kind called fit) = has_kind kinds kind ≡ true

-- how many structs the steps begin
abbrev pub begun_in : List Step → ℕ
begun_in [] = 0
begun_in (begun kind ∷ rest) = begun_in rest + 1
begun_in (step_asked kind called fit ∷ rest) = begun_in rest

pub same_first : (rest : List Step) (counts : List ℕ) (before : List Step) → AreCounts device_kinds counts before → AllByRecursion (IsOfKind device_kinds) rest → length before + begun_in rest ≤ 2 ^ 32 - 1
    → first_from counts rest ≡ first_unfit before rest
unfolding first_from first_unfit
same_first [] counts before c h few = refl
same_first (begun k ∷ rest) counts before c h few =
    same_first rest (begin k counts) (before ++ begun k ∷ []) (one_more_counted device_kinds counts before k c h.0 (omega arith)) h.1 (omega (arith, length-append before (begun k ∷ [])))
same_first (step_asked k called true ∷ rest) counts before c h few = same_first rest counts before c h.1 few
same_first (step_asked k called false ∷ rest) counts before c h few =
    ap (λ (n : ℕ). Some (record { kind = codes k; field = codes called; index = n - 1 })) (c.each k h.0)

zeros : (n i : ℕ) → slice_index (replicate n 0) i ≡ 0
zeros zero i = refl
zeros (suc n) zero = refl
zeros (suc n) (suc i) = zeros n i

-- before any step
pub none_counted : (n : ℕ) → n ≡ length device_kinds → AreCounts device_kinds (replicate n 0) []
none_counted n e = record { size = length-replicate n 0 ∙ e; each = λ kind h. zeros n (place_of device_kinds kind) }

-- ---- how many structs the steps of a struct begin

-- the steps are of kinds that are counted, and begin so many structs
pub record Begins (xs : List Step) (n : ℕ) : Type 0 where
  pub of_kinds : AllByRecursion (IsOfKind device_kinds) xs
  pub many : begun_in xs ≡ n

pub both_begin : (xs ys : List Step) (m n : ℕ) → Begins xs m → Begins ys n → Begins (xs ++ ys) (m + n)
both_begin xs ys m n h i = record { of_kinds = kinds xs h.of_kinds; many = sum xs ∙ (λ t. h.many t + i.many t) }
  where
    kinds : (zs : List Step) → AllByRecursion (IsOfKind device_kinds) zs → AllByRecursion (IsOfKind device_kinds) (zs ++ ys)
    kinds [] k = i.of_kinds
    kinds (z ∷ zs) k = (k.0, kinds zs k.1)

    sum : (zs : List Step) → begun_in (zs ++ ys) ≡ begun_in zs + begun_in ys
    sum [] = omega arith
    sum (begun kind ∷ zs) = let later = sum zs in omega (arith, later)
    sum (step_asked kind called fit ∷ zs) = sum zs

pub one_begins : (kind : String) (xs : List Step) (n : ℕ) → has_kind device_kinds kind ≡ true → Begins xs n → Begins (begun kind ∷ xs) (n + 1)
one_begins kind xs n h i = record { of_kinds = (h, i.of_kinds); many = λ t. i.many t + 1 }

-- steps that only ask come first
pub asked_begin : (xs ys : List Step) (n : ℕ) → Begins xs 0 → Begins ys n → Begins (xs ++ ys) n
asked_begin xs ys n h i = let sum : 0 + n ≡ n = omega arith in subst (Begins (xs ++ ys)) sum (both_begin xs ys 0 n h i)

pub each_begins : {A : Type 0} (steps : A → List Step) (count : A → ℕ) → ((x : A) → Begins (steps x) (count x)) → (xs : List A) → Begins (flat_map steps xs) (sum_by count xs)
each_begins steps count one [] = record { of_kinds = tt; many = refl }
each_begins steps count one (x ∷ xs) =
    subst (Begins (flat_map steps (x ∷ xs))) (sym (sum_by-cons count x xs)) (both_begin (steps x) (flat_map steps xs) (count x) (sum_by count xs) (one x) (each_begins steps count one xs))

pub option_begins : {A : Type 0} (steps : A → List Step) (count : A → ℕ) → ((x : A) → Begins (steps x) (count x)) → (o : Option A) → Begins (option_steps steps o) (if_there count o)
option_begins steps count one None = record { of_kinds = tt; many = refl }
option_begins steps count one (Some x) = one x

-- asking begins none
pub row_begins : (l : Lists) (around : List Entry) (kind : String) (row : List ℕ) (fields : List Field) (ns : List ℕ) → has_kind device_kinds kind ≡ true → Begins (ask_row l around kind row fields ns) 0
row_begins l around kind row [] ns h = record { of_kinds = tt; many = refl }
row_begins l around kind row (f ∷ fs) [] h = record { of_kinds = tt; many = refl }
row_begins l around kind row (f ∷ fs) (n ∷ ns) h = let later = row_begins l around kind row fs ns h in record { of_kinds = (h, later.of_kinds); many = later.many }

pub numbers_begin : (l : Lists) (around : List Entry) (kind called : String) (k : Kind) (ns : List ℕ) → has_kind device_kinds kind ≡ true → Begins (ask_all l around kind called k ns) 0
numbers_begin l around kind called k [] h = record { of_kinds = tt; many = refl }
numbers_begin l around kind called k (n ∷ ns) h = let later = numbers_begin l around kind called k ns h in record { of_kinds = (h, later.of_kinds); many = later.many }
