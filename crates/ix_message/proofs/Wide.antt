-- The sizes of what is laid out for a value.
use Rattle.std.proofs.Common.{◌≡◌, ◌<◌, ◌+◌, ◌-◌, ◌/◌, ◌^◌, ℕ, suc, List, [], ◌∷◌, ◌++◌, length, map, true, refl, ap, ◌∙◌}
use Rattle.std.specs.Prelude.{Option, Some, None}
use Rattle.std.specs.List.{AllByRecursion}
use Rattle.std.specs.Str.{is_utf8}
use Rattle.ix_message.specs.Shape.{Text, Field, Struct, Pointers, Branches, Value, Parts, struct_of, no_more, text, texts, numbers, struct, struct_or_none, boxed, structs, branches, string_table, unread, ends, branch}
use Rattle.ix_message.specs.Records.{IfThere}
use Rattle.ix_message.specs.Layout.{Laid, Section, number_bytes, pointer_section, objects, section_bytes, text_laid, texts_laid, numbers_laid, struct_laid, structs_laid, branch_sections, boxed_laid, option_laid, section_of, all_laid}
use Rattle.ix_message.proofs.Rows.{AreNumbers}
use Rattle.ix_message.proofs.Whole.{Whole, whole_by, whole-append, whole-padded, AllWhole, whole-objects, length-pointer_section, words-data_section, IsWide, length-section_bytes, whole-structs_laid}

abbrev pub data_slots : List Field → ℕ
data_slots fields = (length fields + 1) / 2

abbrev pub slots_of : Pointers → ℕ
slots_of no_more = 0
slots_of (text c ps) = suc (slots_of ps)
slots_of (texts c ps) = suc (slots_of ps)
slots_of (numbers c target kind ps) = suc (slots_of ps)
slots_of (struct c s ps) = suc (slots_of ps)
slots_of (struct_or_none c s ps) = suc (slots_of ps)
slots_of (boxed c kind inner s ps) = suc (slots_of ps)
slots_of (structs c target s ps) = suc (slots_of ps)
slots_of (branches c kind fields ps) = suc (slots_of ps)
slots_of (string_table c ps) = suc (slots_of ps)
slots_of (unread c ps) = suc (slots_of ps)

abbrev pub struct_data : Struct → ℕ
struct_data (struct_of c fields ps) = data_slots fields

abbrev pub struct_slots : Struct → ℕ
struct_slots (struct_of c fields ps) = slots_of ps

-- how many string tables are among the pointers
abbrev pub tables : Pointers → ℕ
tables no_more = 0
tables (text c ps) = tables ps
tables (texts c ps) = tables ps
tables (numbers c target kind ps) = tables ps
tables (struct c s ps) = tables ps
tables (struct_or_none c s ps) = tables ps
tables (boxed c kind inner s ps) = tables ps
tables (structs c target s ps) = tables ps
tables (branches c kind fields ps) = tables ps
tables (string_table c ps) = suc (tables ps)
tables (unread c ps) = tables ps

-- sections that a pointer can tell, not both empty
pub record AreSections (d p : ℕ) : Type 0 where
  pub some : 0 < d + p
  pub few_words : d < 2 ^ 16
  pub few_pointers : p < 2 ^ 16

pub record IsRawText (t : List ℕ) : Type 0 where
  pub utf8 : is_utf8 t ≡ true
  pub short : length t < 2 ^ 29 - 1

abbrev pub AreRawBranches : List Field → Branches (List ℕ) → Type 0
AreRawBranches fields ends = Unit {0}
AreRawBranches fields (branch row below beside) = AreNumbers fields row × AreRawBranches fields below × AreRawBranches fields beside

-- the numbers and texts of a struct as a file can hold them
abbrev mutual
  pub IsRaw : (s : Struct) → Value ℕ s → Type 0
  IsRaw (struct_of c fields ps) v = AreSections (data_slots fields) (slots_of ps) × AreNumbers fields v.0 × AreRaw ps v.1 × (tables ps ≡ 0)

  pub AreRaw : (ps : Pointers) → Parts ℕ ps → Type 0
  AreRaw no_more v = Unit {0}
  AreRaw (text c ps) v = IsRawText v.0 × AreRaw ps v.1
  AreRaw (texts c ps) v = AllByRecursion IsRawText v.0 × AreRaw ps v.1
  AreRaw (numbers c target kind ps) v = AllByRecursion (λ n. n < 256 ^ 4) v.0 × AreRaw ps v.1
  AreRaw (struct c s ps) v = IsRaw s v.0 × AreRaw ps v.1
  AreRaw (struct_or_none c s ps) v = IfThere (IsRaw s) v.0 × AreRaw ps v.1
  AreRaw (boxed c kind inner s ps) v = AllByRecursion (IsRaw s) v.0 × AreRaw ps v.1
  AreRaw (structs c target s ps) v = AllByRecursion (IsRaw s) v.0 × AreRaw ps v.1
  AreRaw (branches c kind fields ps) v = AreSections (data_slots fields) 1 × AreRawBranches fields v.0 × AreRaw ps v.1
  AreRaw (string_table c ps) v = AreRaw ps v
  AreRaw (unread c ps) v = AreRaw ps v

pub length-row : (fields : List Field) (row : List ℕ) → AreNumbers fields row → length row ≡ length fields
length-row [] [] h = refl
length-row [] (n ∷ ns) h = absurd h
length-row (f ∷ fs) [] h = absurd h
length-row (f ∷ fs) (n ∷ ns) h = ap suc (length-row fs ns h.2)

pub all_map : {A B : Type 0} (f : A → B) (P : A → Type 0) (Q : B → Type 0) → ((x : A) → P x → Q (f x)) → (xs : List A) → AllByRecursion P xs → AllByRecursion Q (map f xs)
all_map f P Q each [] h = tt
all_map f P Q each (x ∷ xs) h = (each x h.0, all_map f P Q each xs h.1)

pub length-all_laid : (table : List Text) (ps : Pointers) (v : Parts ℕ ps) → length (all_laid table ps v) ≡ slots_of ps
unfolding all_laid
length-all_laid table no_more v = refl
length-all_laid table (text c ps) v = ap suc (length-all_laid table ps v.1)
length-all_laid table (texts c ps) v = ap suc (length-all_laid table ps v.1)
length-all_laid table (numbers c target kind ps) v = ap suc (length-all_laid table ps v.1)
length-all_laid table (struct c s ps) v = ap suc (length-all_laid table ps v.1)
length-all_laid table (struct_or_none c s ps) v = ap suc (length-all_laid table ps v.1)
length-all_laid table (boxed c kind inner s ps) v = ap suc (length-all_laid table ps v.1)
length-all_laid table (structs c target s ps) v = ap suc (length-all_laid table ps v.1)
length-all_laid table (branches c kind fields ps) v = ap suc (length-all_laid table ps v.1)
length-all_laid table (string_table c ps) v = ap suc (length-all_laid table ps v)
length-all_laid table (unread c ps) v = ap suc (length-all_laid table ps v)

pub nothing_whole : Whole []
nothing_whole = whole_by [] 0 refl

pub whole-text : (t : Text) → Whole (text_laid t).object
whole-text [] = nothing_whole
whole-text (b ∷ bs) = whole-padded ((b ∷ bs) ++ 0 ∷ [])

pub all_texts : (ts : List Text) → AllWhole (map text_laid ts)
all_texts [] = tt
all_texts (t ∷ ts) = (whole-text t, all_texts ts)

pub whole-texts : (ts : List Text) → Whole (texts_laid ts).object
unfolding texts_laid
whole-texts [] = nothing_whole
whole-texts (t ∷ ts) =
    let all = map text_laid (t ∷ ts) in
    whole-append (pointer_section 0 all) (objects all) (whole_by (pointer_section 0 all) (length all) (length-pointer_section 0 all)) (whole-objects all (all_texts (t ∷ ts)))

pub whole-numbers : (ns : List ℕ) → Whole (numbers_laid ns).object
unfolding numbers_laid
whole-numbers [] = nothing_whole
whole-numbers (n ∷ ns) = whole-padded (number_bytes (n ∷ ns))

pub whole-struct : (d p : ℕ) (e : Section) → IsWide d p e → Whole (struct_laid e).object
whole-struct d p e h = whole-append (section_bytes 0 e) (objects e.behind) (whole_by (section_bytes 0 e) (d + p) (length-section_bytes 0 d p e h)) (whole-objects e.behind h.behind)

pub one_whole : (x : Laid) → Whole x.object → AllWhole (x ∷ [])
one_whole x h = (h, tt)

pub box_wide : (es : List Section) (d p : ℕ) → AllByRecursion (IsWide d p) es → IsWide 0 1 (record { data_bytes = []; behind = structs_laid es ∷ [] })
box_wide es d p h = record { row = nothing_whole; words_is = refl; pointers_is = refl; behind = one_whole (structs_laid es) (whole-structs_laid d p es h) }

pub whole-boxed : (d p : ℕ) (es : List Section) → AllByRecursion (IsWide d p) es → Whole (boxed_laid es).object
whole-boxed d p [] h = nothing_whole
whole-boxed d p (e ∷ es) h = whole-struct 0 1 (record { data_bytes = []; behind = structs_laid (e ∷ es) ∷ [] }) (box_wide (e ∷ es) d p h)

pub branches_wide : (fields : List Field) (b : Branches (List ℕ)) → AreRawBranches fields b → AllByRecursion (IsWide (data_slots fields) 1) (branch_sections b)
unfolding branch_sections
branches_wide fields ends h = tt
branches_wide fields (branch row below beside) h = (
  record {
    row = whole-padded (number_bytes row);
    words_is = words-data_section row ∙ ap (λ (k : ℕ). (k + 1) / 2) (length-row fields row h.0);
    pointers_is = refl;
    behind = one_whole (structs_laid (branch_sections below)) (whole-structs_laid (data_slots fields) 1 (branch_sections below) (branches_wide fields below h.1));
  },
  branches_wide fields beside h.2,
)

pub whole-option : {A : Type 0} (d p : ℕ) (section : A → Section) (P : A → Type 0) → ((x : A) → P x → IsWide d p (section x)) → (o : Option A) → IfThere P o → Whole (option_laid section o).object
whole-option d p section P wide None h = nothing_whole
whole-option d p section P wide (Some x) h = whole-struct d p (section x) (wide x h)

mutual
  unfolding section_of all_laid

  pub section_wide : (table : List Text) (s : Struct) (v : Value ℕ s) → IsRaw s v → IsWide (struct_data s) (struct_slots s) (section_of table s v)
  section_wide table (struct_of c fields ps) v h = record {
    row = whole-padded (number_bytes v.0);
    words_is = words-data_section v.0 ∙ ap (λ (k : ℕ). (k + 1) / 2) (length-row fields v.0 h.1);
    pointers_is = length-all_laid table ps v.1;
    behind = parts_whole table ps v.1 h.2;
  }

  pub parts_whole : (table : List Text) (ps : Pointers) (v : Parts ℕ ps) → AreRaw ps v → AllWhole (all_laid table ps v)
  parts_whole table no_more v h = tt
  parts_whole table (text c ps) v h = (whole-text v.0, parts_whole table ps v.1 h.1)
  parts_whole table (texts c ps) v h = (whole-texts v.0, parts_whole table ps v.1 h.1)
  parts_whole table (numbers c target kind ps) v h = (whole-numbers v.0, parts_whole table ps v.1 h.1)
  parts_whole table (struct c s ps) v h = (whole-struct (struct_data s) (struct_slots s) (section_of table s v.0) (section_wide table s v.0 h.0), parts_whole table ps v.1 h.1)
  parts_whole table (struct_or_none c s ps) v h =
      (whole-option (struct_data s) (struct_slots s) (section_of table s) (IsRaw s) (section_wide table s) v.0 h.0, parts_whole table ps v.1 h.1)
  parts_whole table (boxed c kind inner s ps) v h =
      (whole-boxed (struct_data s) (struct_slots s) (map (section_of table s) v.0) (all_map (section_of table s) (IsRaw s) (IsWide (struct_data s) (struct_slots s)) (section_wide table s) v.0 h.0), parts_whole table ps v.1 h.1)
  parts_whole table (structs c target s ps) v h =
      (whole-structs_laid (struct_data s) (struct_slots s) (map (section_of table s) v.0) (all_map (section_of table s) (IsRaw s) (IsWide (struct_data s) (struct_slots s)) (section_wide table s) v.0 h.0), parts_whole table ps v.1 h.1)
  parts_whole table (branches c kind fields ps) v h =
      (whole-structs_laid (data_slots fields) 1 (branch_sections v.0) (branches_wide fields v.0 h.1), parts_whole table ps v.1 h.2)
  parts_whole table (string_table c ps) v h = (whole-texts table, parts_whole table ps v h)
  parts_whole table (unread c ps) v h = (nothing_whole, parts_whole table ps v h)
