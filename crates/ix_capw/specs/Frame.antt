-- The frame that a builder writes: one segment, as Cap'n Proto's "Serialization Over a Stream" lays
-- it out. A segment is the list of its bytes, a word eight of them, the lowest first.
use Rattle.std.specs.Prelude.{ℕ, ◌+◌, ◌*◌, ◌/◌, ◌^◌, List, ◌++◌, length, replicate}
use Rattle.byteorder.specs.Endian.{little_bytes}

-- the words of a segment
abbrev pub words_in : List ℕ → ℕ
words_in segment = length segment / 8

-- the words at which a message is too long
abbrev pub too_many_words : ℕ
too_many_words = 2 ^ 27

-- a pointer to a struct that begins right behind it
abbrev pub root_pointer : (words pointers : ℕ) → ℕ
root_pointer words pointers = words * 2 ^ 32 + pointers * 2 ^ 48

-- the segment of a message whose root struct has these two sections, all of it zero
abbrev pub root_segment : (words pointers : ℕ) → List ℕ
root_segment words pointers = little_bytes 8 (root_pointer words pointers)
    ++ replicate (8 * (words + pointers)) 0

-- the file: how many segments less one, how many words the segment has, the segment
abbrev pub frame_bytes : List ℕ → List ℕ
frame_bytes segment = little_bytes 4 0 ++ little_bytes 4 (words_in segment) ++ segment
