-- How a message is laid out: one segment, in which after a struct the objects of its pointers
-- follow in slot order, each with its whole content before the next, and after a list's elements
-- the objects of each element in turn.
use Rattle.std.specs.Prelude.{ℕ, ◌+◌, ◌-◌, ◌*◌, ◌/◌, ◌%◌, ◌^◌, List, [], ◌∷◌, ◌++◌, length, map}
use Rattle.std.specs.Prelude.{replicate, Bool, true, ◌&&◌, nat_lt, Option, Some, None}
use Rattle.byteorder.specs.Endian.{little_bytes}
use Rattle.ix_message.specs.Shape.{Text, Struct, Pointers, Branches, Value, Parts, struct_of}
use Rattle.ix_message.specs.Shape.{no_more, text, texts, numbers, struct, struct_or_none, boxed}
use Rattle.ix_message.specs.Shape.{structs, branches, string_table, unread, ends, branch}

-- bytes, and zero bytes to a whole word
abbrev pub padded : List ℕ → List ℕ
padded bytes = bytes ++ replicate ((8 - length bytes % 8) % 8) 0

-- numbers of four bytes each
abbrev pub number_bytes : List ℕ → List ℕ
number_bytes [] = []
number_bytes (n ∷ ns) = little_bytes 4 n ++ number_bytes ns

-- the words at which a message is too long
abbrev pub too_many_words : ℕ
too_many_words = 2 ^ 27

-- An object as its pointer's word, by how many words behind the pointer's end the object begins,
-- and as its bytes with its whole content; and whether each text and list of structs in it fits its
-- count. A pointer to nothing is a zero word.
pub record Laid : Type 0 where
  pub pointer : ℕ → ℕ
  pub object : List ℕ
  pub fits : Bool

abbrev pub nothing_laid : Laid
nothing_laid = record { pointer = λ gap. 0; object = []; fits = true }

-- a pointer to a struct, and one to a list of this element size with this count
abbrev pub struct_pointer : (data_words pointer_words gap : ℕ) → ℕ
struct_pointer data_words pointer_words gap = 4 * gap + data_words * 2 ^ 32 + pointer_words * 2 ^ 48

abbrev pub list_pointer : (size count gap : ℕ) → ℕ
list_pointer size count gap = 1 + 4 * gap + size * 2 ^ 32 + count * 2 ^ 35

-- Pointers one after another, whose objects follow in the same order, the first of them this many
-- words behind the last pointer.
unfoldable pub pointer_section : ℕ → List Laid → List ℕ
pointer_section ahead [] = []
pointer_section ahead (x ∷ xs) = little_bytes 8 (x.pointer (length xs + ahead))
    ++ pointer_section (ahead + length x.object / 8) xs

abbrev pub objects : List Laid → List ℕ
objects [] = []
objects (x ∷ xs) = x.object ++ objects xs

abbrev pub all_fit : List Laid → Bool
all_fit [] = true
all_fit (x ∷ xs) = x.fits && all_fit xs

-- A list of a size that isn't composite: its bytes, in whole words.
abbrev pub text_laid : Text → Laid
text_laid [] = nothing_laid
text_laid (b ∷ bs) = record {
  pointer = list_pointer 2 (length (b ∷ bs) + 1);
  object = padded ((b ∷ bs) ++ 0 ∷ []);
  fits = nat_lt (length (b ∷ bs)) (2 ^ 29 - 1);
}

unfoldable pub texts_laid : List Text → Laid
texts_laid [] = nothing_laid
texts_laid (t ∷ ts) = let all = map text_laid (t ∷ ts) in record {
  pointer = list_pointer 6 (length (t ∷ ts));
  object = pointer_section 0 all ++ objects all;
  fits = all_fit all;
}

unfoldable pub numbers_laid : List ℕ → Laid
numbers_laid [] = nothing_laid
numbers_laid (n ∷ ns) = record {
  pointer = list_pointer 4 (length (n ∷ ns));
  object = padded (number_bytes (n ∷ ns));
  fits = true;
}

-- A struct: its data section and the objects of its pointers.
pub record Section : Type 0 where
  pub data_bytes : List ℕ
  pub behind : List Laid

abbrev pub data_section : List ℕ → List ℕ
data_section row = padded (number_bytes row)

abbrev pub section_bytes : ℕ → Section → List ℕ
section_bytes ahead e = e.data_bytes ++ pointer_section ahead e.behind

-- the words of one struct's two sections
abbrev pub section_words : Section → ℕ
section_words e = length e.data_bytes / 8 + length e.behind

abbrev pub struct_laid : Section → Laid
struct_laid e = record {
  pointer = struct_pointer (length e.data_bytes / 8) (length e.behind);
  object = section_bytes 0 e ++ objects e.behind;
  fits = all_fit e.behind;
}

-- Elements of this many words one after another, whose objects follow in the same order, the first
-- this many words behind the last element.
unfoldable pub element_sections : ℕ → ℕ → List Section → List ℕ
element_sections words ahead [] = []
element_sections words ahead (e ∷ es) =
    section_bytes (words * length es + ahead) e
    ++ element_sections words (ahead + length (objects e.behind) / 8) es

-- the objects of elements, those of each in turn
abbrev pub element_objects : List Section → List ℕ
element_objects [] = []
element_objects (e ∷ es) = objects e.behind ++ element_objects es

abbrev pub elements_fit : List Section → Bool
elements_fit [] = true
elements_fit (e ∷ es) = all_fit e.behind && elements_fit es

-- A list of structs: its tag, its elements, their objects.
unfoldable pub structs_laid : List Section → Laid
structs_laid [] = nothing_laid
structs_laid (e ∷ es) = let n = length (e ∷ es) in record {
  pointer = list_pointer 7 (n * section_words e);
  object = little_bytes 8 (struct_pointer (length e.data_bytes / 8) (length e.behind) n)
      ++ element_sections (section_words e) 0 (e ∷ es) ++ element_objects (e ∷ es);
  fits = nat_lt n (2 ^ 30) && elements_fit (e ∷ es);
}

unfoldable pub branch_sections : Branches (List ℕ) → List Section
branch_sections ends = []
branch_sections (branch row below beside) =
    record { data_bytes = data_section row; behind = structs_laid (branch_sections below) ∷ [] }
    ∷ branch_sections beside

abbrev pub boxed_laid : List Section → Laid
boxed_laid [] = nothing_laid
boxed_laid (e ∷ es) = struct_laid (record { data_bytes = []; behind = structs_laid (e ∷ es) ∷ [] })

abbrev pub option_laid : {A : Type 0} → (A → Section) → Option A → Laid
option_laid section None = nothing_laid
option_laid section (Some x) = struct_laid (section x)

unfoldable mutual
  pub section_of : List Text → (s : Struct) → Value ℕ s → Section
  section_of table (struct_of called fields ps) v
      = record { data_bytes = data_section v.0; behind = all_laid table ps v.1 }

  pub all_laid : List Text → (ps : Pointers) → Parts ℕ ps → List Laid
  all_laid table no_more v = []
  all_laid table (text called ps) v = text_laid v.0 ∷ all_laid table ps v.1
  all_laid table (texts called ps) v = texts_laid v.0 ∷ all_laid table ps v.1
  all_laid table (numbers called target kind ps) v = numbers_laid v.0 ∷ all_laid table ps v.1
  all_laid table (struct called s ps) v = struct_laid (section_of table s v.0)
      ∷ all_laid table ps v.1
  all_laid table (struct_or_none called s ps) v
      = option_laid (section_of table s) v.0 ∷ all_laid table ps v.1
  all_laid table (boxed called kind inner s ps) v
      = boxed_laid (map (section_of table s) v.0) ∷ all_laid table ps v.1
  all_laid table (structs called target s ps) v
      = structs_laid (map (section_of table s) v.0) ∷ all_laid table ps v.1
  all_laid table (branches called kind fields ps) v
      = structs_laid (branch_sections v.0) ∷ all_laid table ps v.1
  all_laid table (string_table called ps) v = texts_laid table ∷ all_laid table ps v
  all_laid table (unread called ps) v = nothing_laid ∷ all_laid table ps v
