-- The segments of a frame: Cap'n Proto encoding specification, "Serialization Over a Stream". A
-- byte is a number below 256, a segment the list of its bytes, and a word eight bytes, the lowest
-- first.
use Rattle.std.specs.Prelude.{◌≡◌, ℕ, zero, suc, ◌+◌, ◌*◌, ◌/◌, ◌^◌, ◌<◌, ◌≤◌, List, [], ◌∷◌}
use Rattle.std.specs.Prelude.{length, map, sum, take, drop, Bool, ◌&&◌, nat_lt, nat_le, ◌==◌}
use Rattle.std.specs.Prelude.{Result, Ok, Err, if◌then◌else◌, slice_index_or}
use Rattle.byteorder.specs.Endian.{little_number}
use Rattle.ix_num.specs.declared.fault.FrameRule.{FrameRule}
use Rattle.ix_num.specs.declared.fault.FrameRule.TheVariants.{F1, F2}

abbrev pub Segments : Type 0
Segments = List (List ℕ)

-- a file has at most this many segments
abbrev pub most_segments : ℕ
most_segments = 512

-- n numbers of four bytes each, from the front
unfoldable pub numbers_of_four : ℕ → List ℕ → List ℕ
numbers_of_four zero bytes = []
numbers_of_four (suc n) bytes = little_number 4 bytes ∷ numbers_of_four n (drop 4 bytes)

-- the bytes that the table of n segments takes: a number of four bytes for the count, one for each
-- segment's words, and what is missing to a whole word
abbrev pub table_length : ℕ → ℕ
table_length n = 8 * (n / 2 + 1)

-- how many segments the table's first number says
abbrev pub segment_count : List ℕ → ℕ
segment_count bytes = little_number 4 bytes + 1

-- how many words the table says that each segment has
abbrev pub segment_words : List ℕ → List ℕ
segment_words bytes = numbers_of_four (segment_count bytes) (drop 4 bytes)

-- the bytes cut into parts of these many words, one after another
unfoldable pub cut : List ℕ → List ℕ → Segments
cut [] bytes = []
cut (n ∷ ns) bytes = take (8 * n) bytes ∷ cut ns (drop (8 * n) bytes)

-- the parts that the file's table cuts out of the bytes behind it
unfoldable pub cut_out : List ℕ → Segments
cut_out bytes = cut (segment_words bytes) (drop (table_length (segment_count bytes)) bytes)

-- The segments that the file's table cuts out, the whole file used, or the first of F1 and F2: too
-- short for the count, too many segments, a table that is cut, another length than the table's.
unfoldable pub segments : List ℕ → Result Segments FrameRule
segments bytes =
    if nat_lt (length bytes) 4 then Err F1
    else if nat_lt most_segments (segment_count bytes) then Err F2
    else if nat_lt (length bytes) (table_length (segment_count bytes)) then Err F1
    else if length bytes == table_length (segment_count bytes) + 8 * sum (segment_words bytes)
    then Ok (cut_out bytes)
    else Err F1

-- the segments of a file that keeps F1 and F2
abbrev pub segments_in : Result Segments FrameRule → Segments
segments_in (Ok found) = found
segments_in (Err rule) = []

-- the bytes of the segment with this number, where it is there
abbrev pub segment_at : Segments → ℕ → List ℕ
segment_at all s = slice_index_or all s []

-- the word at this place of a segment, as a number
abbrev pub word_at : List ℕ → ℕ → ℕ
word_at segment w = little_number 8 (drop (8 * w) segment)

-- the segment is there, and n words from this place on lie in it
abbrev pub has_words : Segments → ℕ → ℕ → ℕ → Bool
has_words all s start n = nat_lt s (length all)
    && nat_le (8 * (start + n)) (length (segment_at all s))

-- the words of all segments, the table not counted
abbrev pub word_count : Segments → ℕ
word_count all = sum (map length all) / 8

-- the file keeps F1 and F2, and F9
pub record IsFrame (bytes : List ℕ) : Type 0 where
  pub short : length bytes ≤ 2 ^ 30
  pub counted : 4 ≤ length bytes
  pub few : segment_count bytes ≤ most_segments
  pub whole : length bytes ≡ table_length (segment_count bytes) + 8 * sum (segment_words bytes)

-- these bytes are the file's segment with this number
pub record IsSegment (file : List ℕ) (number : ℕ) (bytes : List ℕ) : Type 0 where
  pub there : number < length (cut_out file)
  pub is : bytes ≡ segment_at (cut_out file) number
  pub short : length bytes ≤ 2 ^ 30
