-- Counts of structs by kind are counts of the steps that begin them.
use Prim.Native.String.{String}
use Rattle.std.proofs.Common.{◌≡◌, ◌∙◌, ◌++◌, ◌∷◌, ◌+◌, cond, sum_by, ◌||◌, [], ℕ, Bool, true, false, true≢false, codes, List, map, slice_index, slice_set, ap, refl, sym, arith, if◌then◌else◌, add-zero, add-one}
use Rattle.std.specs.List.{list_any, list_all, count_by}
use Rattle.std.proofs.lemmas.List.Sums.{sum_by-append}
use Rattle.ix_message.specs.Shape.{Text}
use Rattle.ix_message.specs.Names.{same_text}
use Rattle.ix_message.specs.Indexes.{Step, begun, asked, begins}
use Rattle.ix_message.proofs.NamesAgain.{same_text-true}
use Rattle.ix_device_rules.specs.Kinds.{kinds, number_of_kind}

-- whether the kind is one of these
abbrev pub has_kind : List String → String → Bool
has_kind ks kind = list_any (λ k. same_text (codes kind) (codes k)) ks

abbrev pub is_known : Step → Bool
is_known (begun kind) = true
is_known (asked kind field fits) = has_kind kinds kind

-- the fields asked are of kinds that are counted
pub record Known (steps : List Step) : Type 0 where
  pub all : list_all is_known steps ≡ true

-- no two of the kinds are alike
abbrev pub Differ : List String → Type 0
Differ [] = Unit {0}
Differ (k ∷ ks) = (list_any (λ j. same_text (codes k) (codes j)) ks ≡ false) × Differ ks

abbrev pub counts_in : List String → List Step → List ℕ
counts_in ks before = map (λ k. count_by (begins k) before) ks

sum_push : {A : Type 0} (f : A → ℕ) (xs : List A) (x : A) → sum_by f (xs ++ x ∷ []) ≡ sum_by f xs + f x
sum_push f xs x = sum_by-append f xs (x ∷ []) ∙ ap (λ n. sum_by f xs + n) (one f x)
  where
    one : {A : Type 0} (f : A → ℕ) (x : A) → sum_by f (x ∷ []) ≡ f x
    one f x = omega arith

count_push : (k kind : String) (before : List Step) → count_by (begins k) (before ++ begun kind ∷ []) ≡ count_by (begins k) before + cond (same_text (codes kind) (codes k)) 1 0
count_push k kind before = sum_push (λ s. cond (begins k s) 1 0) before (begun kind)

-- kinds that are none of these leave their counts
others_stay : (ks : List String) (kind : String) (before : List Step) → has_kind ks kind ≡ false → counts_in ks (before ++ begun kind ∷ []) ≡ counts_in ks before
others_stay [] kind before none = refl
others_stay (k ∷ ks) kind before none = by (same_text (codes kind) (codes k)) (has_kind ks kind) refl none (others_stay ks kind before)
  where
    by : (b r : Bool) → same_text (codes kind) (codes k) ≡ b → (b || r) ≡ false → (r ≡ false → counts_in ks (before ++ begun kind ∷ []) ≡ counts_in ks before) → counts_in (k ∷ ks) (before ++ begun kind ∷ []) ≡ counts_in (k ∷ ks) before
    by true r e h rest = absurd (true≢false h)
    by false r e h rest = (λ i. (count_push k kind before ∙ ap (λ b. count_by (begins k) before + cond b 1 0) e ∙ add-zero (count_by (begins k) before)) i ∷ rest h i)

same_others : (ks : List String) (k kind : String) → codes kind ≡ codes k → has_kind ks kind ≡ has_kind ks k
same_others ks k kind same = ap (λ t. list_any (λ j. same_text t (codes j)) ks) same

pub counts_more : (ks : List String) → Differ ks → (kind : String) (before : List Step) → slice_set (counts_in ks before) (number_of_kind ks kind) (slice_index (counts_in ks before) (number_of_kind ks kind) + 1) ≡ counts_in ks (before ++ begun kind ∷ [])
counts_more [] differ kind before = refl
counts_more (k ∷ ks) differ kind before = by (same_text (codes kind) (codes k)) refl (counts_more ks differ.1 kind before)
  where
    n : ℕ
    n = count_by (begins k) before

    by : (b : Bool) → same_text (codes kind) (codes k) ≡ b → slice_set (counts_in ks before) (number_of_kind ks kind) (slice_index (counts_in ks before) (number_of_kind ks kind) + 1) ≡ counts_in ks (before ++ begun kind ∷ [])
        → slice_set (counts_in (k ∷ ks) before) (if b then 0 else number_of_kind ks kind + 1) (slice_index (counts_in (k ∷ ks) before) (if b then 0 else number_of_kind ks kind + 1) + 1) ≡ counts_in (k ∷ ks) (before ++ begun kind ∷ [])
    by true e rest =
        let like : codes kind ≡ codes k = same_text-true (codes kind) (codes k) e in
        let none : has_kind ks kind ≡ false = same_others ks k kind like ∙ differ.0 in
        (λ i. sym (count_push k kind before ∙ ap (λ c. count_by (begins k) before + cond c 1 0) e) i ∷ sym (others_stay ks kind before none) i)
    by false e rest =
        let here : count_by (begins k) before ≡ count_by (begins k) (before ++ begun kind ∷ []) = sym (count_push k kind before ∙ ap (λ c. count_by (begins k) before + cond c 1 0) e ∙ add-zero (count_by (begins k) before)) in
        ap (λ m. slice_set (counts_in (k ∷ ks) before) m (slice_index (counts_in (k ∷ ks) before) m + 1)) (add-one (number_of_kind ks kind)) ∙ (λ i. here i ∷ rest i)

begins_text : Text → Step → Bool
begins_text t (begun k) = same_text (codes k) t
begins_text t (asked k field fit) = false

same_count : (k kind : String) (before : List Step) → codes kind ≡ codes k → count_by (begins k) before ≡ count_by (begins kind) before
unfolding begins_text
same_count k kind before same = ap (λ t. count_by (begins_text t) before) (sym same)

pub index_at : (ks : List String) (kind : String) (before : List Step) → has_kind ks kind ≡ true → slice_index (counts_in ks before) (number_of_kind ks kind) ≡ count_by (begins kind) before
index_at [] kind before there = absurd (true≢false (sym there))
index_at (k ∷ ks) kind before there = by (same_text (codes kind) (codes k)) refl there (index_at ks kind before)
  where
    by : (b : Bool) → same_text (codes kind) (codes k) ≡ b → (b || has_kind ks kind) ≡ true → (has_kind ks kind ≡ true → slice_index (counts_in ks before) (number_of_kind ks kind) ≡ count_by (begins kind) before)
        → slice_index (counts_in (k ∷ ks) before) (if b then 0 else number_of_kind ks kind + 1) ≡ count_by (begins kind) before
    by true e h rest = same_count k kind before (same_text-true (codes kind) (codes k) e)
    by false e h rest = ap (λ m. slice_index (counts_in (k ∷ ks) before) m) (add-one (number_of_kind ks kind)) ∙ rest h
