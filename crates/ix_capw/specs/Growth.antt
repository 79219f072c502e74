-- What a builder's calls do to its segment: bytes are written over others, a pointer is set, and
-- the object that it leads to is put at the end.
use Rattle.std.specs.Prelude.{◌≡◌, ◌≤◌, ◌<◌, ℕ, ◌+◌, ◌-◌, ◌*◌, ◌%◌, ◌^◌, List, [], ◌∷◌, ◌++◌}
use Rattle.std.specs.Prelude.{length, take, drop, replicate, Bool, true, not, ◌||◌, nat_lt, nat_le}
use Rattle.std.specs.Prelude.{◌==◌, if◌then◌else◌}
use Rattle.byteorder.specs.Endian.{little_bytes}
use Rattle.ix_message.specs.Layout.{Laid, nothing_laid, struct_pointer, list_pointer, padded}
use Rattle.ix_message.specs.Layout.{number_bytes}
use Rattle.ix_capw.specs.Frame.{words_in, too_many_words}
use Rattle.ix_capw.specs.declared.builder.At.{At}
use Rattle.ix_capw.specs.declared.builder.ListAt.{ListAt}

-- these bytes in place of so many
abbrev pub written : (place count : ℕ) → List ℕ → List ℕ → List ℕ
written place count bytes segment = take place segment ++ (bytes ++ drop (place + count) segment)

-- the segment once the pointer at this word leads to an object, which is put at the end
abbrev pub with_object : (word : ℕ) → Laid → List ℕ → List ℕ
with_object word x segment = written (8 * word) 8
    (little_bytes 8 (x.pointer (words_in segment - (word + 1)))) segment ++ x.object

-- whether an object is too long for the segment: it doesn't fit its count, or the words reach 2^27
abbrev pub too_long : Laid → List ℕ → Bool
too_long x segment = nat_le too_many_words (words_in segment + words_in x.object) || not x.fits

-- a struct, and lists of structs and of texts, before anything in them is set

abbrev pub blank_struct : (words pointers : ℕ) → Laid
blank_struct words pointers = record {
  pointer = struct_pointer words pointers;
  object = replicate (8 * (words + pointers)) 0;
  fits = true;
}

abbrev pub some_structs : (count words pointers : ℕ) → Laid
some_structs count words pointers = record {
  pointer = list_pointer 7 (count * (words + pointers));
  object = little_bytes 8 (struct_pointer words pointers count)
      ++ replicate (8 * (count * (words + pointers))) 0;
  fits = nat_lt count (2 ^ 30);
}

abbrev pub some_texts : (count : ℕ) → Laid
some_texts count = record {
  pointer = list_pointer 6 count;
  object = replicate (8 * count) 0;
  fits = true;
}

-- texts and lists of numbers that aren't empty
abbrev pub some_text : List ℕ → Laid
some_text text = record {
  pointer = list_pointer 2 (length text + 1);
  object = padded (text ++ 0 ∷ []);
  fits = nat_lt (length text) (2 ^ 29 - 1);
}

abbrev pub some_numbers : List ℕ → Laid
some_numbers values = record {
  pointer = list_pointer 4 (length values);
  object = padded (number_bytes values);
  fits = true;
}

-- an empty list is a zero pointer
abbrev pub blank_structs : (count words pointers : ℕ) → Laid
blank_structs count words pointers = if count == 0 then nothing_laid
    else some_structs count words pointers

abbrev pub blank_texts : (count : ℕ) → Laid
blank_texts count = if count == 0 then nothing_laid else some_texts count

-- the word of a pointer, and the byte of a number of four bytes
abbrev pub pointer_word : At → ℕ → ℕ
pointer_word at slot = at.start + at.words + slot

abbrev pub number_place : At → ℕ → ℕ
number_place at slot = 8 * at.start + 4 * slot

-- a struct that a builder made stands inside its segment, and so does a list
abbrev pub IsInside : At → List ℕ → Type 0
IsInside at segment = 8 * (at.start + at.words + at.pointers) ≤ length segment

abbrev pub IsListInside : ListAt → List ℕ → Type 0
IsListInside l segment = 8 * (l.start + l.count * (l.words + l.pointers)) ≤ length segment

-- whole words, fewer than 2^27
pub record IsSegment (segment : List ℕ) : Type 0 where
  pub whole : length segment % 8 ≡ 0
  pub few : length segment < 2 ^ 30
