-- The string table of a record: its texts, and its place in the file.
use Rattle.std.proofs.Common.{◌≡◌, ◌<◌, ◌≤◌, ◌+◌, ◌*◌, ℕ, zero, suc, List, [], ◌∷◌, ◌++◌, length, map, Bool, true, false, cond, refl, sym, ap, subst, arith, length-append}
use Rattle.std.specs.Prelude.{Option, Some, None, ◌&&◌}
use Rattle.std.specs.List.{flat_map, AllByRecursion}
use Rattle.std.proofs.lemmas.List.{length-map}
use Rattle.std.proofs.lemmas.List.Concat.{flat_map-cons}
use Rattle.ix_message.specs.Shape.{Text, Kind, Field, Struct, Pointers, Branches, Value, Parts, name, struct_of, no_more, text, texts, numbers, struct, struct_or_none, boxed, structs, branches, string_table, unread, ends, branch}
use Rattle.ix_message.specs.Reading.{table_slot}
use Rattle.ix_message.specs.Names.{Datum, the_number, the_text, kind_in, same_text, number_for, text_in, branch_uses, option_uses, uses, part_uses, has_text, with_text, first_uses, place_in}
use Rattle.ix_message.specs.Records.{IsText, IsDatum, AreData, AreBranches, IfThere, IsRecord, AreParts}
use Rattle.ix_message.specs.Layout.{Laid, objects, all_fit, pointer_section, text_laid, texts_laid, all_laid}
use Rattle.ix_message.proofs.Whole.{words, AllWhole, HasPointers, HasPointer, first_pointer, other_pointers, length-pointer_section}
use Rattle.ix_message.proofs.Wide.{tables}

-- ---- the texts of a record

abbrev pub AreTexts : List Text → Type 0
AreTexts ts = AllByRecursion IsText ts

AreTexts-append : (xs ys : List Text) → AreTexts xs → AreTexts ys → AreTexts (xs ++ ys)
AreTexts-append [] ys a b = b
AreTexts-append (x ∷ xs) ys a b = (a.0, AreTexts-append xs ys a.1 b)

datum_texts : (k : Kind) (d : Datum) → IsDatum k d → AreTexts (text_in d)
datum_texts name (the_text t) h = (h, tt)
datum_texts _ (the_number n) h = tt
datum_texts _ (the_text t) h = absurd h

-- each element's texts
each_texts : {A : Type 0} (P : A → Type 0) (use_of : A → List Text) → ((x : A) → P x → AreTexts (use_of x)) → (xs : List A) → AllByRecursion P xs → AreTexts (flat_map use_of xs)
each_texts P use_of each [] h = tt
each_texts P use_of each (x ∷ xs) h =
    subst AreTexts (sym (flat_map-cons use_of x xs)) (AreTexts-append (use_of x) (flat_map use_of xs) (each x h.0) (each_texts P use_of each xs h.1))

data_texts : (row : List ℕ) (fields : List Field) (ds : List Datum) → AreData row fields ds → AreTexts (flat_map text_in ds)
data_texts row [] [] h = tt
data_texts row [] (d ∷ ds) h = absurd h
data_texts row (f ∷ fs) [] h = absurd h
data_texts row (f ∷ fs) (d ∷ ds) h =
    subst AreTexts (sym (flat_map-cons text_in d ds)) (AreTexts-append (text_in d) (flat_map text_in ds) (datum_texts (kind_in row f.kind) d h.0) (data_texts row fs ds h.1))

branch_texts : (place : Text → ℕ) (fields : List Field) (b : Branches (List Datum)) → AreBranches place fields b → AreTexts (branch_uses b)
branch_texts place fields ends h = tt
branch_texts place fields (branch row below beside) h =
    AreTexts-append (flat_map text_in row ++ branch_uses below) (branch_uses beside)
    (AreTexts-append (flat_map text_in row) (branch_uses below) (data_texts (map (number_for place) row) fields row h.0) (branch_texts place fields below h.1))
    (branch_texts place fields beside h.2)

option_texts : {A : Type 0} (P : A → Type 0) (use_of : A → List Text) → ((x : A) → P x → AreTexts (use_of x)) → (o : Option A) → IfThere P o → AreTexts (option_uses use_of o)
option_texts P use_of each None h = tt
option_texts P use_of each (Some x) h = each x h

mutual
  unfolding IsRecord AreParts uses part_uses

  pub record_texts : (place : Text → ℕ) (s : Struct) (r : Value Datum s) → IsRecord place s r → AreTexts (uses s r)
  record_texts place (struct_of c fields ps) r h =
      AreTexts-append (flat_map text_in r.0) (part_uses ps r.1) (data_texts (map (number_for place) r.0) fields r.0 h.0) (part_texts place ps r.1 h.1)

  pub part_texts : (place : Text → ℕ) (ps : Pointers) (r : Parts Datum ps) → AreParts place ps r → AreTexts (part_uses ps r)
  part_texts place no_more r h = tt
  part_texts place (text c ps) r h = part_texts place ps r.1 h.1
  part_texts place (texts c ps) r h = part_texts place ps r.1 h.1
  part_texts place (numbers c target kind ps) r h = AreTexts-append (flat_map text_in r.0) (part_uses ps r.1) (each_texts (IsDatum kind) text_in (datum_texts kind) r.0 h.0) (part_texts place ps r.1 h.1)
  part_texts place (struct c s ps) r h = AreTexts-append (uses s r.0) (part_uses ps r.1) (record_texts place s r.0 h.0) (part_texts place ps r.1 h.1)
  part_texts place (struct_or_none c s ps) r h = AreTexts-append (option_uses (uses s) r.0) (part_uses ps r.1) (option_texts (IsRecord place s) (uses s) (record_texts place s) r.0 h.0) (part_texts place ps r.1 h.1)
  part_texts place (boxed c kind inner s ps) r h = AreTexts-append (flat_map (uses s) r.0) (part_uses ps r.1) (each_texts (IsRecord place s) (uses s) (record_texts place s) r.0 h.0) (part_texts place ps r.1 h.1)
  part_texts place (structs c target s ps) r h = AreTexts-append (flat_map (uses s) r.0) (part_uses ps r.1) (each_texts (IsRecord place s) (uses s) (record_texts place s) r.0 h.0) (part_texts place ps r.1 h.1)
  part_texts place (branches c kind fields ps) r h = AreTexts-append (branch_uses r.0) (part_uses ps r.1) (branch_texts place fields r.0 h.0) (part_texts place ps r.1 h.1)
  part_texts place (string_table c ps) r h = part_texts place ps r h
  part_texts place (unread c ps) r h = part_texts place ps r h

with_text-texts : (table : List Text) (t : Text) → AreTexts table → IsText t → AreTexts (with_text table t)
with_text-texts table t a h = go (has_text table t)
  where
    go : (b : Bool) → AreTexts (cond b table (table ++ t ∷ []))
    go true = a
    go false = AreTexts-append table (t ∷ []) a (h, tt)

pub first_uses-texts : (before ts : List Text) → AreTexts before → AreTexts ts → AreTexts (first_uses before ts)
unfolding first_uses
first_uses-texts before [] a h = a
first_uses-texts before (t ∷ ts) a h = first_uses-texts (with_text before t) ts (with_text-texts before t a h.0) h.1

-- ---- places

pub place-bound : (table : List Text) (t : Text) → place_in table t ≤ length table
unfolding place_in
place-bound [] t = omega arith
place-bound (x ∷ xs) t = go (same_text x t) (place-bound xs t)
  where
    go : (b : Bool) → place_in xs t ≤ length xs → cond b 0 (place_in xs t + 1) ≤ suc (length xs)
    go true le = omega arith
    go false le = omega (arith, le)

pub texts_long : (ts : List Text) → 8 * length ts ≤ length (texts_laid ts).object
unfolding texts_laid
texts_long [] = omega arith
texts_long (t ∷ ts) =
    let all = map text_laid (t ∷ ts) in
    omega (arith, length-pointer_section 0 all, length-append (pointer_section 0 all) (objects all), length-map (t ∷ ts) text_laid)

-- ---- the table's own pointer

-- the k-th of these is x
abbrev pub IsNth : ℕ → List Laid → Laid → Type 0
IsNth k [] x = ⊥
IsNth zero (y ∷ ys) x = y ≡ x
IsNth (suc k) (y ∷ ys) x = IsNth k ys x

pub table_nth : (table : List Text) (ps : Pointers) (v : Parts ℕ ps) → tables ps ≡ 1 → IsNth (table_slot ps) (all_laid table ps v) (texts_laid table)
unfolding all_laid
table_nth table no_more v one = absurd (omega (arith, one))
table_nth table (text c ps) v one = table_nth table ps v.1 one
table_nth table (texts c ps) v one = table_nth table ps v.1 one
table_nth table (numbers c target kind ps) v one = table_nth table ps v.1 one
table_nth table (struct c s ps) v one = table_nth table ps v.1 one
table_nth table (struct_or_none c s ps) v one = table_nth table ps v.1 one
table_nth table (boxed c kind inner s ps) v one = table_nth table ps v.1 one
table_nth table (structs c target s ps) v one = table_nth table ps v.1 one
table_nth table (branches c kind fields ps) v one = table_nth table ps v.1 one
table_nth table (string_table c ps) v one = refl
table_nth table (unread c ps) v one = table_nth table ps v one

pub nth_long : (k : ℕ) (xs : List Laid) (x : Laid) → IsNth k xs x → length x.object ≤ length (objects xs)
nth_long zero [] x h = absurd h
nth_long (suc k) [] x h = absurd h
nth_long zero (y ∷ ys) x h = let e : length y.object ≡ length x.object = ap (λ (z : Laid). length z.object) h in omega (arith, e, length-append y.object (objects ys))
nth_long (suc k) (y ∷ ys) x h = omega (arith, nth_long k ys x h, length-append y.object (objects ys))

and-true : (a b : Bool) → (a && b) ≡ true → (a ≡ true) × (b ≡ true)
and-true true b e = (refl, e)
and-true false b e = absurd cc

pub nth_fits : (k : ℕ) (xs : List Laid) (x : Laid) → IsNth k xs x → all_fit xs ≡ true → x.fits ≡ true
nth_fits zero [] x h fits = absurd h
nth_fits (suc k) [] x h fits = absurd h
nth_fits zero (y ∷ ys) x h fits = subst (λ (z : Laid). z.fits ≡ true) h (and-true y.fits (all_fit ys) fits).0
nth_fits (suc k) (y ∷ ys) x h fits = nth_fits k ys x h (and-true y.fits (all_fit ys) fits).1

pub nth_slot : (k : ℕ) (xs : List Laid) (x : Laid) → IsNth k xs x → k < length xs
nth_slot zero [] x h = absurd h
nth_slot (suc k) [] x h = absurd h
nth_slot zero (y ∷ ys) x h = omega arith
nth_slot (suc k) (y ∷ ys) x h = omega (arith, nth_slot k ys x h)

pub nth_pointer : (S : List ℕ) (k : ℕ) (xs : List Laid) (x : Laid) (q ahead : ℕ) → IsNth k xs x → AllWhole xs → HasPointers S q ahead xs → (gap : ℕ) × HasPointer S (q + k) gap x
nth_pointer S zero [] x q ahead h whole stands = absurd h
nth_pointer S (suc k) [] x q ahead h whole stands = absurd h
nth_pointer S zero (y ∷ ys) x q ahead h whole stands =
    let p : HasPointer S q (length ys + ahead) x = subst (HasPointer S q (length ys + ahead)) h (first_pointer S q ahead y ys stands) in
    let e : q ≡ q + 0 = omega arith in
    (length ys + ahead, subst (λ (m : ℕ). HasPointer S m (length ys + ahead) x) e p)
nth_pointer S (suc k) (y ∷ ys) x q ahead h whole stands =
    let rest = nth_pointer S k ys x (q + 1) (ahead + words y.object) h whole.1 (other_pointers S q ahead y ys whole.0 stands) in
    let e : q + 1 + k ≡ q + suc k = omega arith in
    (rest.0, subst (λ (m : ℕ). HasPointer S m rest.0 x) e rest.1)
