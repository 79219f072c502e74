-- What a pointer leads to: Cap'n Proto encoding specification, "Structs", "Lists", "Inter-Segment
-- Pointers". Each check is one of this project's frame rules, in the order in which they are asked.
use Rattle.std.specs.Prelude.{ℕ, ◌+◌, ◌-◌, ◌*◌, ◌/◌, ◌%◌, ◌^◌, Bool, nat_lt, nat_le, ◌==◌, Option}
use Rattle.std.specs.Prelude.{Some, None, Result, Ok, Err, if◌then◌else◌}
use Rattle.ix_num.specs.declared.fault.FrameRule.{FrameRule}
use Rattle.ix_num.specs.declared.fault.FrameRule.TheVariants.{F3, F4, F5, F8}
use Rattle.ix_frame.specs.Result.{◌>>=◌, unless}
use Rattle.ix_frame.specs.Segments.{Segments, segment_at, word_at, has_words}

-- The parts of a pointer word.

-- 0 a struct, 1 a list, 2 a far pointer, 3 another
abbrev pub kind_of : ℕ → ℕ
kind_of w = w % 4

-- the offset of a struct or a list, or the element count of a composite list's tag: 30 bits
abbrev pub offset_of : ℕ → ℕ
offset_of w = w / 4 % 2 ^ 30

abbrev pub data_words_of : ℕ → ℕ
data_words_of w = w / 2 ^ 32 % 2 ^ 16

abbrev pub pointer_words_of : ℕ → ℕ
pointer_words_of w = w / 2 ^ 48

-- 0 void, 1 a bit, 2 to 5 one, two, four, eight bytes, 6 a pointer, 7 composite
abbrev pub element_size_of : ℕ → ℕ
element_size_of w = w / 2 ^ 32 % 8

-- how many elements, or for a composite list how many words after its tag
abbrev pub element_count_of : ℕ → ℕ
element_count_of w = w / 2 ^ 35

-- of a far pointer: whether its pad has two words, the pad's first word, and the pad's segment
abbrev pub is_two_word_pad : ℕ → Bool
is_two_word_pad w = w / 4 % 2 == 1

abbrev pub pad_word_of : ℕ → ℕ
pad_word_of w = w / 8 % 2 ^ 29

abbrev pub pad_segment_of : ℕ → ℕ
pad_segment_of w = w / 2 ^ 32

-- The object that a pointer leads to, before its size is asked: the word that describes it, of kind
-- 0 or 1, its segment, and the word at which it begins, none where that is before the segment.
pub record Pointed : Type 0 where
  pub described : ℕ
  pub segment : ℕ
  pub start : Option ℕ

-- the word at a signed distance of 30 bits from another
abbrev pub offset_from : ℕ → ℕ → Option ℕ
offset_from base offset =
    if nat_lt offset (2 ^ 29) then Some (base + offset)
    else if nat_le (2 ^ 30) (base + offset) then Some (base + offset - 2 ^ 30)
    else None

-- what a word of kind 0 or 1 points to, which stands at word w of segment s
abbrev pub near : ℕ → ℕ → ℕ → Pointed
near s w described = record {
  described = described;
  segment = s;
  start = offset_from (w + 1) (offset_of described);
}

-- A pad of one word is the pointer itself, no far one; a zero word there is the default, as
-- elsewhere.
unfoldable pub through_one_word : Segments → ℕ → ℕ → Result (Option Pointed) FrameRule
through_one_word all s w = let pad = word_at (segment_at all s) w in do
  present ← unless (has_words all s w 1) F3
  capable ← unless (nat_lt (kind_of pad) 3) F5
  whole ← unless (nat_lt (kind_of pad) 2) F4
  Ok (if pad == 0 then None else Some (near s w pad))

-- A pad of two words is a far pointer to the content, and a tag whose offset isn't looked at.
unfoldable pub through_two_words : Segments → ℕ → ℕ → Result (Option Pointed) FrameRule
through_two_words all s w = let pad = word_at (segment_at all s) w in let tag
    = word_at (segment_at all s) (w + 1) in do
      present ← unless (has_words all s w 2) F3
      far ← unless (kind_of pad == 2) F4
      single ← unless (pad / 4 % 2 == 0) F4
      tagged ← unless (nat_lt (kind_of tag) 2) F4
      Ok (Some (record {
        described = tag;
        segment = pad_segment_of pad;
        start = Some (pad_word_of pad);
      }))

-- What the pointer at word w of segment s leads to, none where it is the default.
unfoldable pub target : Segments → ℕ → ℕ → Result (Option Pointed) FrameRule
target all s w = let word = word_at (segment_at all s) w in
    if word == 0 then Ok None
    else if nat_lt (kind_of word) 2 then Ok (Some (near s w word))
    else if kind_of word == 3 then Err F5
    else if is_two_word_pad word then through_two_words all (pad_segment_of word) (pad_word_of word)
    else through_one_word all (pad_segment_of word) (pad_word_of word)

-- where n words of the object begin, all of them in its segment
unfoldable pub placed : Segments → Pointed → ℕ → Result ℕ FrameRule
placed all p n = start_in p.start
  where
    start_in : Option ℕ → Result ℕ FrameRule
    start_in None = Err F3
    start_in (Some start) = if has_words all p.segment start n then Ok start else Err F3

-- A struct, or a list's first element with all of them alike: its segment, where it begins, and its
-- two sections.
pub record Object : Type 0 where
  pub segments : Segments
  pub segment : ℕ
  pub start : ℕ
  pub data_words : ℕ
  pub pointer_words : ℕ

-- A list whose elements stand one after another: how many, and the first of them.
pub record Elements : Type 0 where
  pub count : ℕ
  pub first : Object

-- the struct that is meant, with the words that it takes
unfoldable pub struct_target : Segments → Pointed → Result (Object × ℕ) FrameRule
struct_target all p = let data_words = data_words_of p.described in let pointer_words
    = pointer_words_of p.described in do
      fitting ← unless (kind_of p.described == 0) F4
      start ← placed all p (data_words + pointer_words)
      Ok (
        record {
          segments = all;
          segment = p.segment;
          start = start;
          data_words = data_words;
          pointer_words = pointer_words;
        },
        data_words + pointer_words,
      )

-- a list of the wanted element size is meant, not of structs: how many words n elements take
abbrev pub list_words : ℕ → ℕ → ℕ
list_words size n = if size == 2 then (n + 7) / 8 else if size == 4 then (n + 1) / 2 else n

-- the list that is meant, with the words that it takes: of bytes (element size 2), of numbers (4),
-- of pointers (6)
unfoldable pub list_target : ℕ → Segments → Pointed → Result (Elements × ℕ) FrameRule
list_target size all p = let n = element_count_of p.described in do
  list ← unless (kind_of p.described == 1) F4
  fitting ← unless (element_size_of p.described == size) F4
  start ← placed all p (list_words size n)
  Ok (
    record {
      count = n;
      first = record {
        segments = all;
        segment = p.segment;
        start = start;
        data_words = 0;
        pointer_words = 0;
      };
    },
    list_words size n,
  )

-- The list of structs that is meant. Its first word is a tag in the form of a struct pointer, whose
-- offset field is the element count.
unfoldable pub composite_target : Segments → Pointed → Result (Elements × ℕ) FrameRule
composite_target all p = let words = element_count_of p.described in do
  list ← unless (kind_of p.described == 1) F4
  fitting ← unless (element_size_of p.described == 7) F4
  start ← placed all p (words + 1)
  let tag = word_at (segment_at all p.segment) start
  let data_words = data_words_of tag
  let pointer_words = pointer_words_of tag
  struct ← unless (kind_of tag == 0) F8
  inside ← unless (nat_le (offset_of tag * (data_words + pointer_words)) words) F8
  Ok (
    record {
      count = offset_of tag;
      first
          = record {
            segments = all;
            segment = p.segment;
            start = start + 1;
            data_words = data_words;
            pointer_words = pointer_words;
          };
    },
    words,
  )
