-- A text that a record uses has its place within the record's string table; steps that all fit have no first bad one.
use Rattle.std.proofs.Common.{◌≡◌, ◌<◌, ◌+◌, Bool, true, false, cond, List, [], ◌∷◌, ◌++◌, length, map, refl, arith}
use Rattle.std.specs.Prelude.{None}
use Rattle.std.specs.List.{AllByRecursion}
use Rattle.ix_message.specs.Shape.{Text}
use Rattle.ix_message.specs.Names.{same_text, has_text, with_text, first_uses, place_in}
use Rattle.ix_message.specs.Indexes.{Step, begun, asked, first_unfit}
use Rattle.ix_message_write.proofs.FirstUses.{has_last}

-- ---- texts and their places

-- the table has the text
abbrev pub Has : List Text → Text → Type 0
Has table t = has_text table t ≡ true

pub place_within : (table : List Text) (t : Text) → Has table t → place_in table t < length table
unfolding place_in
place_within [] t h = absurd cc
place_within (x ∷ xs) t h = go (same_text x t) h (λ r. place_within xs t r)
  where
    go : (b : Bool) → cond b true (has_text xs t) ≡ true → (has_text xs t ≡ true → place_in xs t < length xs) → cond b 0 (place_in xs t + 1) < length (x ∷ xs)
    go true r later = omega arith
    go false r later = omega (arith, later r)

has_before : (xs : List Text) (y t : Text) → Has xs t → Has (xs ++ y ∷ []) t
has_before [] y t h = absurd cc
has_before (x ∷ xs) y t h = go (same_text x t) h (λ r. has_before xs y t r)
  where
    go : (b : Bool) → cond b true (has_text xs t) ≡ true → (has_text xs t ≡ true → has_text (xs ++ y ∷ []) t ≡ true) → cond b true (has_text (xs ++ y ∷ []) t) ≡ true
    go true r later = refl
    go false r later = later r

with_text_keeps : (table : List Text) (x t : Text) → Has table t → Has (with_text table x) t
with_text_keeps table x t h = go (has_text table x)
  where
    go : (b : Bool) → has_text (cond b table (table ++ x ∷ [])) t ≡ true
    go true = h
    go false = has_before table x t h

with_text_has : (table : List Text) (t : Text) → Has (with_text table t) t
with_text_has table t = go (has_text table t) refl
  where
    go : (b : Bool) → has_text table t ≡ b → has_text (cond b table (table ++ t ∷ [])) t ≡ true
    go true e = e
    go false e = has_last table t

first_uses_keeps : (before ts : List Text) (t : Text) → Has before t → Has (first_uses before ts) t
unfolding first_uses
first_uses_keeps before [] t h = h
first_uses_keeps before (x ∷ ts) t h = first_uses_keeps (with_text before x) ts t (with_text_keeps before x t h)

-- each text that is used is in the table
pub first_uses_has : (before ts : List Text) → AllByRecursion (Has (first_uses before ts)) ts
unfolding first_uses
first_uses_has before [] = tt
first_uses_has before (x ∷ ts) = (first_uses_keeps (with_text before x) ts x (with_text_has before x), first_uses_has (with_text before x) ts)

-- ---- steps that fit

abbrev pub StepFits : Step → Type 0
StepFits (begun kind) = Unit {0}
StepFits (asked kind field fit) = fit ≡ true

pub none_unfit : (before steps : List Step) → AllByRecursion StepFits steps → first_unfit before steps ≡ None
unfolding first_unfit
none_unfit before [] h = refl
none_unfit before (begun kind ∷ rest) h = none_unfit (before ++ begun kind ∷ []) rest h.1
none_unfit before (asked kind field true ∷ rest) h = none_unfit before rest h.1
none_unfit before (asked kind field false ∷ rest) h = let e = h.0 in absurd cc

pub all_append : {A : Type 0} (P : A → Type 0) (xs ys : List A) → AllByRecursion P xs → AllByRecursion P ys → AllByRecursion P (xs ++ ys)
all_append P [] ys h k = k
all_append P (x ∷ xs) ys h k = (h.0, all_append P xs ys h.1 k)

pub all_parts : {A : Type 0} (P : A → Type 0) (xs ys : List A) → AllByRecursion P (xs ++ ys) → AllByRecursion P xs × AllByRecursion P ys
all_parts P [] ys h = (tt, h)
all_parts P (x ∷ xs) ys h = let r = all_parts P xs ys h.1 in ((h.0, r.0), r.1)

pub all_mapped : {X A : Type 0} (P : A → Type 0) (f : X → A) → ((x : X) → P (f x)) → (xs : List X) → AllByRecursion P (map f xs)
all_mapped P f h [] = tt
all_mapped P f h (x ∷ xs) = (h x, all_mapped P f h xs)
