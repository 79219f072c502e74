-- A record's texts, numbered by a string table that has them all, are found again by that table.
use Rattle.std.proofs.Common.{◌≡◌, ◌+◌, ℕ, Bool, true, false, cond, List, [], ◌∷◌, ◌++◌, map, ◌⊎◌, inl, inr, refl, sym, ap, subst, arith, add-one, eq-eqb}
use Rattle.std.specs.Prelude.{◌&&◌, ◌==◌, Option, Some, None, slice_index_or}
use Rattle.std.specs.List.{flat_map, AllByRecursion}
use Rattle.std.proofs.lemmas.Bool.{eqb-true}
use Rattle.std.proofs.lemmas.List.Concat.{flat_map-cons}
use Rattle.ix_message.specs.Shape.{Text, Kind, Field, Struct, Pointers, Branches, Value, Parts, flag, nothing, choice, name, struct_of, no_more, text, texts, numbers, struct, struct_or_none, boxed, structs, branches, string_table, unread, ends, branch}
use Rattle.ix_message.specs.Names.{Datum, the_number, the_text, kind_in, same_text, number_for, datum_of, data_of, branches_map, option_with, record_of, parts_of, numbered, parts_numbered, text_in, branch_uses, option_uses, uses, part_uses, place_in, has_text, with_text, first_uses, table_of}
use Rattle.ix_message.specs.Records.{IsDatum, AreData, AreBranches, IfThere, IsRecord, AreParts}

-- ---- texts

and-true : (a b : Bool) → (a && b) ≡ true → (a ≡ true) × (b ≡ true)
and-true true b e = (refl, e)
and-true false b e = absurd cc

pub same_text-true : (s t : Text) → same_text s t ≡ true → s ≡ t
same_text-true [] [] e = refl
same_text-true [] (y ∷ ys) e = absurd cc
same_text-true (x ∷ xs) [] e = absurd cc
same_text-true (x ∷ xs) (y ∷ ys) e =
    let both = and-true (x == y) (same_text xs ys) e in
    let heads : x ≡ y = eqb-true x y both.0 in
    let tails : xs ≡ ys = same_text-true xs ys both.1 in
    cc

-- the text is in the table
abbrev pub IsIn : List Text → Text → Type 0
IsIn [] t = ⊥
IsIn (x ∷ xs) t = (x ≡ t) ⊎ IsIn xs t

abbrev pub AreIn : List Text → List Text → Type 0
AreIn table ts = AllByRecursion (IsIn table) ts

pub AreIn-append : (table xs ys : List Text) → AreIn table (xs ++ ys) → AreIn table xs × AreIn table ys
AreIn-append table [] ys h = (tt, h)
AreIn-append table (x ∷ xs) ys h = let r = AreIn-append table xs ys h.1 in ((h.0, r.0), r.1)

same_text-refl : (t : Text) → same_text t t ≡ true
same_text-refl [] = refl
same_text-refl (x ∷ xs) = rw (eq-eqb x x refl) (same_text-refl xs)

pub place_again : (table : List Text) (t : Text) → IsIn table t → slice_index_or table (place_in table t) [] ≡ t
unfolding place_in
place_again [] t h = absurd h
place_again (x ∷ xs) t h = go (same_text x t) refl h (λ i. place_again xs t i)
  where
    go : (b : Bool) → same_text x t ≡ b → (x ≡ t) ⊎ IsIn xs t → (IsIn xs t → slice_index_or xs (place_in xs t) [] ≡ t) → slice_index_or (x ∷ xs) (cond b 0 (place_in xs t + 1)) [] ≡ t
    go true e i again = same_text-true x t e
    go false e (inl same) again = let r : same_text x t ≡ true = subst (λ (y : Text). same_text x y ≡ true) same (same_text-refl x) in absurd cc
    go false e (inr later) again = rw add-one (again later)

-- ---- data

pub datum_again : (table : List Text) (k : Kind) (d : Datum) → IsDatum k d → AreIn table (text_in d) → datum_of table k (number_for (place_in table) d) ≡ d
datum_again table name (the_text t) h i = ap the_text (place_again table t i.0)
datum_again table name (the_number n) h i = absurd h
datum_again table nothing (the_number n) h i = ap the_number (sym h)
datum_again table flag (the_number n) h i = ap the_number (omega arith)
datum_again table (choice most) (the_number n) h i = refl
datum_again table _ (the_number n) h i = refl
datum_again table _ (the_text t) h i = absurd h

pub data_again : (table : List Text) (row : List ℕ) (fields : List Field) (ds : List Datum) → AreData row fields ds → AreIn table (flat_map text_in ds)
    → data_of table row fields (map (number_for (place_in table)) ds) ≡ ds
data_again table row [] [] h i = refl
data_again table row [] (d ∷ ds) h i = absurd h
data_again table row (f ∷ fs) [] h i = absurd h
data_again table row (f ∷ fs) (d ∷ ds) h i =
    let parts = AreIn-append table (text_in d) (flat_map text_in ds) (subst (AreIn table) (flat_map-cons text_in d ds) i) in
    let first = datum_again table (kind_in row f.kind) d h.0 parts.0 in
    let rest = data_again table row fs ds h.1 parts.1 in
    cc

-- the numbers of a list of numbers
pub numbers_again : (table : List Text) (k : Kind) (ds : List Datum) → AllByRecursion (IsDatum k) ds → AreIn table (flat_map text_in ds)
    → map (datum_of table k) (map (number_for (place_in table)) ds) ≡ ds
numbers_again table k [] h i = refl
numbers_again table k (d ∷ ds) h i =
    let parts = AreIn-append table (text_in d) (flat_map text_in ds) (subst (AreIn table) (flat_map-cons text_in d ds) i) in
    let first = datum_again table k d h.0 parts.0 in
    let rest = numbers_again table k ds h.1 parts.1 in
    cc

pub branches_again : (table : List Text) (fields : List Field) (b : Branches (List Datum)) → AreBranches (place_in table) fields b → AreIn table (branch_uses b)
    → branches_map (λ row. data_of table row fields row) (branches_map (map (number_for (place_in table))) b) ≡ b
branches_again table fields ends h i = refl
branches_again table fields (branch row below beside) h i =
    let later = AreIn-append table (flat_map text_in row ++ branch_uses below) (branch_uses beside) i in
    let parts = AreIn-append table (flat_map text_in row) (branch_uses below) later.0 in
    let here = data_again table (map (number_for (place_in table)) row) fields row h.0 parts.0 in
    let under = branches_again table fields below h.1 parts.1 in
    let next = branches_again table fields beside h.2 later.1 in
    cc

-- ---- records

-- elements whose own records are found again
pub each_again : {A B : Type 0} (table : List Text) (to : A → B) (from : B → A) (P : A → Type 0) (use_of : A → List Text)
    → ((x : A) → P x → AreIn table (use_of x) → from (to x) ≡ x) → (xs : List A) → AllByRecursion P xs → AreIn table (flat_map use_of xs) → map from (map to xs) ≡ xs
each_again table to from P use_of again [] h i = refl
each_again table to from P use_of again (x ∷ xs) h i =
    let parts = AreIn-append table (use_of x) (flat_map use_of xs) (subst (AreIn table) (flat_map-cons use_of x xs) i) in
    let first = again x h.0 parts.0 in
    let rest = each_again table to from P use_of again xs h.1 parts.1 in
    cc

pub there_again : {A B : Type 0} (table : List Text) (to : A → B) (from : B → A) (P : A → Type 0) (use_of : A → List Text)
    → ((x : A) → P x → AreIn table (use_of x) → from (to x) ≡ x) → (o : Option A) → IfThere P o → AreIn table (option_uses use_of o) → option_with from (option_with to o) ≡ o
there_again table to from P use_of again None h i = refl
there_again table to from P use_of again (Some x) h i = ap Some (again x h i)

pair_is : {A B : Type 0} (x : A) (w : B) (v : A × B) → x ≡ v.0 → w ≡ v.1 → (x, w) ≡ v
pair_is x w v p q = λ i. (p i, q i)

mutual
  unfolding record_of parts_of numbered parts_numbered uses part_uses IsRecord AreParts

  pub record_again : (table : List Text) (s : Struct) (v : Value Datum s) → IsRecord (place_in table) s v → AreIn table (uses s v) → record_of table s (numbered (place_in table) s v) ≡ v
  record_again table (struct_of called fields ps) v h i =
      let parts = AreIn-append table (flat_map text_in v.0) (part_uses ps v.1) i in
      pair_is _ _ v (data_again table (map (number_for (place_in table)) v.0) fields v.0 h.0 parts.0) (parts_again table ps v.1 h.1 parts.1)

  pub parts_again : (table : List Text) (ps : Pointers) (v : Parts Datum ps) → AreParts (place_in table) ps v → AreIn table (part_uses ps v) → parts_of table ps (parts_numbered (place_in table) ps v) ≡ v
  parts_again table no_more v h i = refl
  parts_again table (text called ps) v h i = pair_is _ _ v refl (parts_again table ps v.1 h.1 i)
  parts_again table (texts called ps) v h i = pair_is _ _ v refl (parts_again table ps v.1 h.1 i)
  parts_again table (numbers called target kind ps) v h i =
      let parts = AreIn-append table (flat_map text_in v.0) (part_uses ps v.1) i in
      pair_is _ _ v (numbers_again table kind v.0 h.0 parts.0) (parts_again table ps v.1 h.1 parts.1)
  parts_again table (struct called s ps) v h i =
      let parts = AreIn-append table (uses s v.0) (part_uses ps v.1) i in
      pair_is _ _ v (record_again table s v.0 h.0 parts.0) (parts_again table ps v.1 h.1 parts.1)
  parts_again table (struct_or_none called s ps) v h i =
      let parts = AreIn-append table (option_uses (uses s) v.0) (part_uses ps v.1) i in
      pair_is _ _ v (there_again table (numbered (place_in table) s) (record_of table s) (IsRecord (place_in table) s) (uses s) (record_again table s) v.0 h.0 parts.0) (parts_again table ps v.1 h.1 parts.1)
  parts_again table (boxed called kind inner s ps) v h i =
      let parts = AreIn-append table (flat_map (uses s) v.0) (part_uses ps v.1) i in
      pair_is _ _ v (each_again table (numbered (place_in table) s) (record_of table s) (IsRecord (place_in table) s) (uses s) (record_again table s) v.0 h.0 parts.0) (parts_again table ps v.1 h.1 parts.1)
  parts_again table (structs called target s ps) v h i =
      let parts = AreIn-append table (flat_map (uses s) v.0) (part_uses ps v.1) i in
      pair_is _ _ v (each_again table (numbered (place_in table) s) (record_of table s) (IsRecord (place_in table) s) (uses s) (record_again table s) v.0 h.0 parts.0) (parts_again table ps v.1 h.1 parts.1)
  parts_again table (branches called kind fields ps) v h i =
      let parts = AreIn-append table (branch_uses v.0) (part_uses ps v.1) i in
      pair_is _ _ v (branches_again table fields v.0 h.0 parts.0) (parts_again table ps v.1 h.1 parts.1)
  parts_again table (string_table called ps) v h i = parts_again table ps v h i
  parts_again table (unread called ps) v h i = parts_again table ps v h i

-- ---- the table of a record has its texts

IsIn-before : (xs ys : List Text) (t : Text) → IsIn xs t → IsIn (xs ++ ys) t
IsIn-before [] ys t h = absurd h
IsIn-before (x ∷ xs) ys t (inl e) = inl e
IsIn-before (x ∷ xs) ys t (inr h) = inr (IsIn-before xs ys t h)

IsIn-last : (xs : List Text) (t : Text) → IsIn (xs ++ t ∷ []) t
IsIn-last [] t = inl refl
IsIn-last (x ∷ xs) t = inr (IsIn-last xs t)

has_text-true : (xs : List Text) (t : Text) → has_text xs t ≡ true → IsIn xs t
has_text-true [] t e = absurd cc
has_text-true (x ∷ xs) t e = go (same_text x t) refl e (λ r. has_text-true xs t r)
  where
    go : (b : Bool) → same_text x t ≡ b → cond b true (has_text xs t) ≡ true → (has_text xs t ≡ true → IsIn xs t) → (x ≡ t) ⊎ IsIn xs t
    go true same e later = inl (same_text-true x t same)
    go false same e later = inr (later e)

with_text-keeps : (table : List Text) (x t : Text) → IsIn table t → IsIn (with_text table x) t
with_text-keeps table x t h = go (has_text table x)
  where
    go : (b : Bool) → IsIn (cond b table (table ++ x ∷ [])) t
    go true = h
    go false = IsIn-before table (x ∷ []) t h

with_text-has : (table : List Text) (t : Text) → IsIn (with_text table t) t
with_text-has table t = go (has_text table t) refl
  where
    go : (b : Bool) → has_text table t ≡ b → IsIn (cond b table (table ++ t ∷ [])) t
    go true e = has_text-true table t e
    go false e = IsIn-last table t

-- what is in a table before is in it after, and each text is
first_uses-keeps : (before ts : List Text) (t : Text) → IsIn before t → IsIn (first_uses before ts) t
unfolding first_uses
first_uses-keeps before [] t h = h
first_uses-keeps before (x ∷ ts) t h = first_uses-keeps (with_text before x) ts t (with_text-keeps before x t h)

first_uses-has : (before ts : List Text) → AreIn (first_uses before ts) ts
unfolding first_uses
first_uses-has before [] = tt
first_uses-has before (x ∷ ts) = (first_uses-keeps (with_text before x) ts x (with_text-has before x), first_uses-has (with_text before x) ts)

pub names_again : (s : Struct) (r : Value Datum s) → IsRecord (place_in (table_of s r)) s r → record_of (table_of s r) s (numbered (place_in (table_of s r)) s r) ≡ r
names_again s r h = record_again (table_of s r) s r h (first_uses-has [] (uses s r))
