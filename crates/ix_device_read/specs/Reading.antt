-- The reading of a message whose frame was opened, and what a reader of device resources tells of
-- it.
use Rattle.std.specs.Prelude.{◌≡◌, ℕ, List, length, Result, Ok, Err}
use Rattle.ix_frame.specs.Result.{◌>>=◌}
use Rattle.ix_num.specs.declared.fault.FrameFault.{FrameFault}
use Rattle.ix_frame.specs.Objects.{blamed}
use Rattle.ix_frame.specs.Segments.{Segments, segments}
use Rattle.ix_rec.specs.declared.fault.ReadFault.{ReadFault}
use Rattle.ix_rec.specs.declared.fault.ReadFault.TheVariants.{Frame, Index, Memory}
use Rattle.ix_rec.specs.declared.place.Place.{Place}
use Rattle.ix_rec.specs.declared.place.Place.TheVariants.{Item}
use Rattle.ix_message.specs.Shape.{Text, Struct, Value}
use Rattle.ix_message.specs.Names.{Datum, record_of}
use Rattle.ix_message.specs.Indexes.{first_bad}
use Rattle.ix_message.specs.Message.{Unread, frame, out_of_list, framed, reading}
use Rattle.ix_message.specs.Message.{numbers_in_segments, unless_bad}

-- the record of a message's numbers, by its string table, or its first bad index
abbrev pub record_unless_bad : List Text → (s : Struct) → Value ℕ s → Result (Value Datum s) Unread
record_unless_bad table s v = unless_bad (first_bad s (length table) v) (record_of table s v)

-- The record of a message in these segments: the first frame fault of the whole message counts,
-- then the first bad index. It is what the reading of a file gives once the file was cut into
-- segments.
abbrev pub reading_in_segments : (s : Struct) → Segments → Result (Value Datum s) Unread
reading_in_segments s all = do
  found ← framed (numbers_in_segments s all)
  record_unless_bad found.0 s found.1

-- the field that is named is the one that the definition finds
abbrev pub IsBadField : {Y : Type 0} → Place → Result Y Unread → Type 0
IsBadField (Item k f i) given = given ≡ Err
    (out_of_list (record { kind = k; field = f; index = i }))
IsBadField _ given = ⊥

-- A fault is the one that the definition finds. Want of memory may be told at any time.
abbrev pub Refuses : {Y : Type 0} → ReadFault → Result Y Unread → Type 0
Refuses Memory given = Unit {0}
Refuses (Frame f) given = given ≡ Err (frame f)
Refuses (Index p) given = IsBadField p given

-- What was read, seen by view, is what the definition gives, or the fault is that of the
-- definition.
abbrev pub IsReading : {X Y : Type 0} → (X → Y) → Result X ReadFault → Result Y Unread → Type 0
IsReading view (Ok x) given = given ≡ Ok (view x)
IsReading view (Err e) given = Refuses e given

-- A file reads as its segments do, and its faults before them are those of the cut.
pub record FileReads (s : Struct) (bytes : List ℕ) : Type 0 where
  pub cut : (all : Segments) → segments bytes ≡ Ok all → reading s bytes ≡ reading_in_segments s all
  pub uncut : (fault : FrameFault) → blamed 0 0 (segments bytes) ≡ Err fault
      → reading s bytes ≡ Err (frame fault)
