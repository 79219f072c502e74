-- A record's numbers and texts are such as a file can hold.
use Rattle.std.proofs.Common.{◌≡◌, ◌<◌, ◌-◌, ◌^◌, ℕ, List, [], ◌∷◌, length, map, Bool, true, false, refl, arith}
use Rattle.std.specs.Prelude.{Option, Some, None, ◌&&◌}
use Rattle.std.specs.List.{AllByRecursion}
use Rattle.std.proofs.lemmas.Bool.{ltb-true}
use Rattle.ix_message.specs.Shape.{Text, Kind, Field, Struct, Pointers, Branches, Value, Parts, flag, nothing, choice, name, bus_tag, struct_of, no_more, text, texts, numbers, struct, struct_or_none, boxed, structs, branches, string_table, unread, ends, branch}
use Rattle.ix_message.specs.Reading.{number_of}
use Rattle.ix_message.specs.Names.{Datum, the_number, the_text, kind_in, number_for, branches_map, option_with, numbered, parts_numbered}
use Rattle.ix_message.specs.Records.{IsText, IsDatum, AreData, AreBranches, IfThere, IsRecord, AreParts}
use Rattle.ix_message.specs.Layout.{Section, all_fit, elements_fit, text_laid, texts_laid, structs_laid, boxed_laid, option_laid, section_of, all_laid}
use Rattle.ix_message.proofs.Rows.{AreNumbers}
use Rattle.ix_message.proofs.Wide.{data_slots, slots_of, tables, AreSections, IsRawText, AreRawBranches, IsRaw, AreRaw}

-- the structs of a form have sections that a pointer can tell, and the string table stands in the root alone
abbrev mutual
  pub Proper : Struct → Type 0
  Proper (struct_of c fields ps) = AreSections (data_slots fields) (slots_of ps) × AreProper ps × (tables ps ≡ 0)

  pub AreProper : Pointers → Type 0
  AreProper no_more = Unit {0}
  AreProper (text c ps) = AreProper ps
  AreProper (texts c ps) = AreProper ps
  AreProper (numbers c target kind ps) = AreProper ps
  AreProper (struct c s ps) = Proper s × AreProper ps
  AreProper (struct_or_none c s ps) = Proper s × AreProper ps
  AreProper (boxed c kind inner s ps) = Proper s × AreProper ps
  AreProper (structs c target s ps) = Proper s × AreProper ps
  AreProper (branches c kind fields ps) = AreSections (data_slots fields) 1 × AreProper ps
  AreProper (string_table c ps) = AreProper ps
  AreProper (unread c ps) = AreProper ps

abbrev pub IsNumbering : (Text → ℕ) → Type 0
IsNumbering place = (t : Text) → place t < 256 ^ 4

raw_number : (place : Text → ℕ) → IsNumbering place → (k : Kind) (d : Datum) → IsDatum k d → number_for place d < 256 ^ 4
raw_number place few name (the_text t) h = few t
raw_number place few name (the_number n) h = absurd h
raw_number place few nothing (the_number n) h = omega arith
raw_number place few flag (the_number n) h = omega arith
raw_number place few (choice most) (the_number n) h = omega arith
raw_number place few bus_tag (the_number n) h = omega arith
raw_number place few _ (the_number n) h = h
raw_number place few _ (the_text t) h = absurd h

masked : (place : Text → ℕ) (row : List ℕ) (k : Kind) (d : Datum) → IsDatum (kind_in row k) d → number_of k (number_for place d) ≡ number_for place d
masked place row flag (the_number n) h = omega arith
masked place row flag (the_text t) h = absurd h
masked place row (choice most) (the_number n) h = omega arith
masked place row (choice most) (the_text t) h = absurd h
masked place row bus_tag (the_number n) h = omega arith
masked place row bus_tag (the_text t) h = absurd h
masked place row _ d h = refl

pub raw_row : (place : Text → ℕ) → IsNumbering place → (row : List ℕ) (fields : List Field) (ds : List Datum) → AreData row fields ds → AreNumbers fields (map (number_for place) ds)
raw_row place few row [] [] h = tt
raw_row place few row [] (d ∷ ds) h = absurd h
raw_row place few row (f ∷ fs) [] h = absurd h
raw_row place few row (f ∷ fs) (d ∷ ds) h = (raw_number place few (kind_in row f.kind) d h.0, masked place row f.kind d h.0, raw_row place few row fs ds h.1)

raw_numbers : (place : Text → ℕ) → IsNumbering place → (k : Kind) (ds : List Datum) → AllByRecursion (IsDatum k) ds → AllByRecursion (λ n. n < 256 ^ 4) (map (number_for place) ds)
raw_numbers place few k [] h = tt
raw_numbers place few k (d ∷ ds) h = (raw_number place few k d h.0, raw_numbers place few k ds h.1)

raw_branches : (place : Text → ℕ) → IsNumbering place → (fields : List Field) (b : Branches (List Datum)) → AreBranches place fields b → AreRawBranches fields (branches_map (map (number_for place)) b)
raw_branches place few fields ends h = tt
raw_branches place few fields (branch row below beside) h =
    (raw_row place few (map (number_for place) row) fields row h.0, raw_branches place few fields below h.1, raw_branches place few fields beside h.2)

and-true : (a b : Bool) → (a && b) ≡ true → (a ≡ true) × (b ≡ true)
and-true true b e = (refl, e)
and-true false b e = absurd cc

pub raw_text : (t : Text) → IsText t → (text_laid t).fits ≡ true → IsRawText t
raw_text [] utf8 fits = record { utf8 = utf8; short = omega arith }
raw_text (b ∷ bs) utf8 fits = record { utf8 = utf8; short = ltb-true (length (b ∷ bs)) (2 ^ 29 - 1) fits }

each_text : (ts : List Text) → AllByRecursion IsText ts → all_fit (map text_laid ts) ≡ true → AllByRecursion IsRawText ts
each_text [] h fits = tt
each_text (t ∷ ts) h fits = let both = and-true (text_laid t).fits (all_fit (map text_laid ts)) fits in (raw_text t h.0 both.0, each_text ts h.1 both.1)

pub raw_texts : (ts : List Text) → AllByRecursion IsText ts → (texts_laid ts).fits ≡ true → AllByRecursion IsRawText ts
unfolding texts_laid
raw_texts [] h fits = tt
raw_texts (t ∷ ts) h fits = each_text (t ∷ ts) h fits

raw_each : {A B : Type 0} (to : A → B) (section : B → Section) (P : A → Type 0) (Q : B → Type 0) → ((x : A) → P x → all_fit (section (to x)).behind ≡ true → Q (to x))
    → (xs : List A) → AllByRecursion P xs → elements_fit (map section (map to xs)) ≡ true → AllByRecursion Q (map to xs)
raw_each to section P Q raw [] h fits = tt
raw_each to section P Q raw (x ∷ xs) h fits =
    let both = and-true (all_fit (section (to x)).behind) (elements_fit (map section (map to xs))) fits in
    (raw x h.0 both.0, raw_each to section P Q raw xs h.1 both.1)

structs_fit : (es : List Section) → (structs_laid es).fits ≡ true → elements_fit es ≡ true
unfolding structs_laid
structs_fit [] fits = refl
structs_fit (e ∷ es) fits = (and-true _ (elements_fit (e ∷ es)) fits).1

boxed_fit : (es : List Section) → (boxed_laid es).fits ≡ true → elements_fit es ≡ true
boxed_fit [] fits = refl
boxed_fit (e ∷ es) fits = structs_fit (e ∷ es) (and-true (structs_laid (e ∷ es)).fits true fits).0

raw_option : {A B : Type 0} (to : A → B) (section : B → Section) (P : A → Type 0) (Q : B → Type 0) → ((x : A) → P x → all_fit (section (to x)).behind ≡ true → Q (to x))
    → (o : Option A) → IfThere P o → (option_laid section (option_with to o)).fits ≡ true → IfThere Q (option_with to o)
raw_option to section P Q raw None h fits = tt
raw_option to section P Q raw (Some x) h fits = raw x h fits

mutual
  unfolding IsRecord AreParts numbered parts_numbered section_of all_laid

  pub raw_value : (place : Text → ℕ) → IsNumbering place → (table : List Text) (s : Struct) → Proper s → (r : Value Datum s) → IsRecord place s r → all_fit (section_of table s (numbered place s r)).behind ≡ true → IsRaw s (numbered place s r)
  raw_value place few table (struct_of c fields ps) proper r h fits =
      (proper.0, raw_row place few (map (number_for place) r.0) fields r.0 h.0, raw_parts place few table ps proper.1 r.1 h.1 fits, proper.2)

  pub raw_parts : (place : Text → ℕ) → IsNumbering place → (table : List Text) (ps : Pointers) → AreProper ps → (r : Parts Datum ps) → AreParts place ps r → all_fit (all_laid table ps (parts_numbered place ps r)) ≡ true → AreRaw ps (parts_numbered place ps r)
  raw_parts place few table no_more proper r h fits = tt
  raw_parts place few table (text c ps) proper r h fits =
      let both = and-true (text_laid r.0).fits (all_fit (all_laid table ps (parts_numbered place ps r.1))) fits in
      (raw_text r.0 h.0 both.0, raw_parts place few table ps proper r.1 h.1 both.1)
  raw_parts place few table (texts c ps) proper r h fits =
      let both = and-true (texts_laid r.0).fits (all_fit (all_laid table ps (parts_numbered place ps r.1))) fits in
      (raw_texts r.0 h.0 both.0, raw_parts place few table ps proper r.1 h.1 both.1)
  raw_parts place few table (numbers c target kind ps) proper r h fits =
      let both = and-true _ (all_fit (all_laid table ps (parts_numbered place ps r.1))) fits in
      (raw_numbers place few kind r.0 h.0, raw_parts place few table ps proper r.1 h.1 both.1)
  raw_parts place few table (struct c s ps) proper r h fits =
      let both = and-true (all_fit (section_of table s (numbered place s r.0)).behind) (all_fit (all_laid table ps (parts_numbered place ps r.1))) fits in
      (raw_value place few table s proper.0 r.0 h.0 both.0, raw_parts place few table ps proper.1 r.1 h.1 both.1)
  raw_parts place few table (struct_or_none c s ps) proper r h fits =
      let both = and-true (option_laid (section_of table s) (option_with (numbered place s) r.0)).fits (all_fit (all_laid table ps (parts_numbered place ps r.1))) fits in
      (raw_option (numbered place s) (section_of table s) (IsRecord place s) (IsRaw s) (raw_value place few table s proper.0) r.0 h.0 both.0, raw_parts place few table ps proper.1 r.1 h.1 both.1)
  raw_parts place few table (boxed c kind inner s ps) proper r h fits =
      let es = map (section_of table s) (map (numbered place s) r.0) in
      let both = and-true (boxed_laid es).fits (all_fit (all_laid table ps (parts_numbered place ps r.1))) fits in
      (raw_each (numbered place s) (section_of table s) (IsRecord place s) (IsRaw s) (raw_value place few table s proper.0) r.0 h.0 (boxed_fit es both.0), raw_parts place few table ps proper.1 r.1 h.1 both.1)
  raw_parts place few table (structs c target s ps) proper r h fits =
      let es = map (section_of table s) (map (numbered place s) r.0) in
      let both = and-true (structs_laid es).fits (all_fit (all_laid table ps (parts_numbered place ps r.1))) fits in
      (raw_each (numbered place s) (section_of table s) (IsRecord place s) (IsRaw s) (raw_value place few table s proper.0) r.0 h.0 (structs_fit es both.0), raw_parts place few table ps proper.1 r.1 h.1 both.1)
  raw_parts place few table (branches c kind fields ps) proper r h fits =
      let both = and-true _ (all_fit (all_laid table ps (parts_numbered place ps r.1))) fits in
      (proper.0, raw_branches place few fields r.0 h.0, raw_parts place few table ps proper.1 r.1 h.1 both.1)
  raw_parts place few table (string_table c ps) proper r h fits =
      let both = and-true (texts_laid table).fits (all_fit (all_laid table ps (parts_numbered place ps r))) fits in
      raw_parts place few table ps proper r h both.1
  raw_parts place few table (unread c ps) proper r h fits = raw_parts place few table ps proper r h fits
