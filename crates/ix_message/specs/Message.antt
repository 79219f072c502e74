-- Messages in files: reading, encoding, and the law between them. A message's kind is its root
-- struct.
use Rattle.std.specs.Prelude.{◌≡◌, ℕ, ◌/◌, List, ◌++◌, length, Bool, false, not, ◌||◌, nat_le}
use Rattle.std.specs.Prelude.{Option, Some, None, Result, Ok, Err}
use Rattle.byteorder.specs.Endian.{little_bytes}
use Rattle.ix_num.specs.declared.fault.FrameFault.{FrameFault}
use Rattle.ix_frame.specs.Result.{◌>>=◌}
use Rattle.ix_frame.specs.Segments.{Segments, segments}
use Rattle.ix_frame.specs.Objects.{blamed, root_of, whole_budget}
use Rattle.ix_message.specs.Shape.{Text, Struct, Value}
use Rattle.ix_message.specs.Reading.{root_at}
use Rattle.ix_message.specs.Indexes.{Item, first_bad}
use Rattle.ix_message.specs.Names.{Datum, record_of, numbered, table_of, place_in}
use Rattle.ix_message.specs.Records.{IsRecord}
use Rattle.ix_message.specs.Layout.{too_many_words, struct_laid, section_of}

-- Why a file isn't a message: a fault of the frame, or a number out of its list.
pub data Unread : Type 0 where
  frame : FrameFault → Unread
  out_of_list : Item → Unread

abbrev pub framed : {A : Type 0} → Result A FrameFault → Result A Unread
framed (Ok x) = Ok x
framed (Err f) = Err (frame f)

-- The string table and the numbers of a message in these segments, or the first frame fault.
unfoldable pub numbers_in_segments : (s : Struct) → Segments
    → Result (List Text × Value ℕ s) FrameFault
numbers_in_segments s all = do
  root ← root_of all (whole_budget all)
  found ← root_at s root.0 root.1
  Ok found.0

abbrev pub unless_bad : {A : Type 0} → Option Item → A → Result A Unread
unless_bad None x = Ok x
unless_bad (Some bad) x = Err (out_of_list bad)

-- A file's record: the first frame fault of the whole message counts, then the first bad index. F1
-- and F2 stand at no word, so at word 0 of segment 0.
unfoldable pub reading : (s : Struct) → List ℕ → Result (Value Datum s) Unread
reading s bytes = do
  all ← framed (blamed 0 0 (segments bytes))
  found ← framed (numbers_in_segments s all)
  unless_bad (first_bad s (length found.0) found.1) (record_of found.0 s found.1)

-- a record's numbers, by the string table that lists its texts in the order of their first use
abbrev pub numbers_of : (s : Struct) → Value Datum s → Value ℕ s
numbers_of s r = numbered (place_in (table_of s r)) s r

-- The file of a record: one segment, whose first word points to the root struct right behind it.
unfoldable pub segment_for : (s : Struct) → Value Datum s → List ℕ
segment_for s r = let root = struct_laid (section_of (table_of s r) s (numbers_of s r)) in
    little_bytes 8 (root.pointer 0) ++ root.object

unfoldable pub encoding : (s : Struct) → Value Datum s → List ℕ
encoding s r = let segment = segment_for s r in
    little_bytes 4 0 ++ little_bytes 4 (length segment / 8) ++ segment

-- A message of 2^27 words is too long, and so is one with a text or a list of structs that doesn't
-- fit its count.
unfoldable pub is_too_long : (s : Struct) → Value Datum s → Bool
is_too_long s r =
    nat_le too_many_words (length (segment_for s r) / 8)
    || not (struct_laid (section_of (table_of s r) s (numbers_of s r))).fits

-- Laws of records of any kind of message.

-- A record's numbers, read by its string table, are the record.
abbrev pub NamesAgain : Type 0
NamesAgain = (s : Struct) (r : Value Datum s) → IsRecord (place_in (table_of s r)) s r
    → record_of (table_of s r) s (numbers_of s r) ≡ r

-- What is encoded reads again as itself, unless a number of the record is out of its list or the
-- message is too long.
abbrev pub ReadsAgain : (s : Struct) → Type 0
ReadsAgain s = (r : Value Datum s) → IsRecord (place_in (table_of s r)) s r
    → first_bad s (length (table_of s r)) (numbers_of s r) ≡ None
    → is_too_long s r ≡ false → reading s (encoding s r) ≡ Ok r
