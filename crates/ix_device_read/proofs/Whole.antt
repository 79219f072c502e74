-- The whole reading: from the numbers of a message and its names to what is told.
use Rattle.std.proofs.Common.{subst, ◌≡◌, ◌≤◌, ◌<◌, ◌+◌, ◌-◌, ◌^◌, ◌++◌, ℕ, List, [], ◌∷◌, length, map, refl, ap, arith}
use Rattle.std.specs.Prelude.{Option, Some, None, Result, Ok, Err, IfOk}
use Rattle.std.specs.List.{AllByRecursion, flat_map}
use Rattle.std.proofs.lemmas.Option.{get_or_from_slice_get}
use Rattle.ix_frame.specs.declared.frame.Frame.{Frame}
use Rattle.ix_frame.specs.Segments.{Segments, segment_count}
use Rattle.ix_frame.specs.Views.{segments_of}
use Rattle.ix_frame.specs.Objects.{whole_budget}
use Rattle.ix_frame.proofs.Parts.{budget_of, budget_short}
use Rattle.ix_rec.specs.declared.fault.ReadFault.{ReadFault}
use Rattle.ix_rec.specs.declared.fault.ReadFault.TheVariants.{Frame as BadFrame, Index, Memory as NoMemory}
use Rattle.ix_rec.specs.declared.place.Place.{Place}
use Rattle.ix_rec.specs.declared.place.Place.TheVariants.{Item as Field}
use Rattle.ix_message.specs.Device.{device}
use Rattle.ix_message.specs.Shape.{Text, Struct, Pointers, Value, Parts, struct_of, no_more, text, texts, numbers, struct, struct_or_none, boxed, structs, branches, string_table, unread}
use Rattle.ix_message.specs.Names.{option_uses}
use Rattle.ix_message.specs.Indexes.{Item}
use Rattle.ix_message.specs.Message.{out_of_list, reading, unless_bad, numbers_in_segments, Unread}
use Rattle.ix_message.specs.Records.{IfThere}
use Rattle.ix_device_read.specs.Finish.{bad, unnamed}
use Rattle.ix_device_read.specs.Loose.{loose_texts, loose_parts, HasRoom, Grows, AreNumbersOf}
use Rattle.ix_device_read.specs.Numbers.{name_text}
use Rattle.ix_device_read.specs.Premises.{IsKnown, TextsKnown, PartsKnown, structs_in}
use Rattle.ix_device_read.specs.Reading.{reading_in_segments, record_unless_bad, IsBadField, Refuses, FileReads, IsReading}
use Rattle.ix_device_read.specs.Faults.{IsFieldAt, TellsField}
use Rattle.ix_device_read.specs.Views.{kind_word, field_word}
use Rattle.ix_device_read.specs.Sizes.{finished_as}
use Rattle.ix_device_read.proofs.Adding.{reach_most}
use Rattle.ix_device_read.proofs.Bound.{device_bound}

-- A file's reading is that of its segments, where it can be cut into them.
pub file_reads : (s : Struct) (bytes : List ℕ) → FileReads s bytes
unfolding reading
file_reads s bytes = record { cut = λ all is. rw is refl; uncut = λ fault is. rw is refl }

-- what a message reads as, by its numbers
pub of_numbers : (s : Struct) (all : Segments) (table : List Text) (v : Value ℕ s) → numbers_in_segments s all ≡ Ok (table, v) → reading_in_segments s all ≡ record_unless_bad table s v
of_numbers s all table v is = rw is refl

-- What finishing tells is what the reading tells.

pub done_is : {X Y : Type 0} (view : X → Y) (first : Option Item) (whole : Y) (r : X) → finished_as first whole ≡ Ok (view r) → unless_bad first whole ≡ Ok (view r)
done_is view None whole r h = let e : whole ≡ view r = cc in ap (λ x. Ok x) e
done_is view (Some item) whole r h = absurd (cc)

pub never_unnamed : {Y : Type 0} (first : Option Item) (whole : Y) → finished_as first whole ≡ Err unnamed → ⊥
never_unnamed None whole h = absurd (cc)
never_unnamed (Some item) whole h = absurd (cc)

bad_is : {Y : Type 0} (first : Option Item) (whole : Y) (item : Item) → finished_as first whole ≡ Err (bad item) → unless_bad first whole ≡ Err (out_of_list item)
bad_is None whole item h = absurd (cc)
bad_is (Some found) whole item h = let e : found ≡ item = cc in ap (λ x. Err (out_of_list x)) e

field_at : {Y : Type 0} (p : Place) (kind field i : ℕ) (whole : Result Y Unread) → IsFieldAt kind field i p → whole ≡ Err (out_of_list (record { kind = kind_word kind; field = field_word kind field; index = i })) → IsBadField p whole
field_at (Field k f n) kind field i whole is at = rw (is.0, is.1, is.2) at
field_at _ kind field i whole is at = absurd is

pub bad_field : {Y : Type 0} (e : ReadFault) (kind field i : ℕ) (first : Option Item) (whole : Y) → TellsField kind field i e → finished_as first whole ≡ Err (bad (record { kind = kind_word kind; field = field_word kind field; index = i })) → Refuses e (unless_bad first whole)
bad_field NoMemory kind field i first whole tells h = tt
bad_field (BadFrame f) kind field i first whole tells h = absurd tells
bad_field (Index p) kind field i first whole tells h = field_at p kind field i (unless_bad first whole) tells (bad_is first whole (record { kind = kind_word kind; field = field_word kind field; index = i }) h)

-- what holds of the record that a message stands for holds of what was read
pub read_has : {X Y : Type 0} (view : X → Y) (P : Y → Type 0) (r : Result X ReadFault) (first : Option Item) (whole : Y) → IsReading view r (unless_bad first whole) → P whole → IfOk r (λ x. P (view x))
read_has view P (Ok x) None whole h p = let e : whole ≡ view x = cc in subst P e p
read_has view P (Ok x) (Some item) whole h p = absurd (cc)
read_has view P (Err e) first whole h p = tt

-- Texts that stand behind pointers are known where all of them are.

all_front : (names xs ys : List Text) → AllByRecursion (IsKnown names) (xs ++ ys) → AllByRecursion (IsKnown names) xs
all_front names [] ys h = tt
all_front names (x ∷ xs) ys h = (h.0, all_front names xs ys h.1)

all_back : (names xs ys : List Text) → AllByRecursion (IsKnown names) (xs ++ ys) → AllByRecursion (IsKnown names) ys
all_back names [] ys h = h
all_back names (x ∷ xs) ys h = all_back names xs ys h.1

each_known : {A : Type 0} (names : List Text) (P : A → Type 0) (texts_of : A → List Text) → ((x : A) → AllByRecursion (IsKnown names) (texts_of x) → P x)
    → (xs : List A) → AllByRecursion (IsKnown names) (flat_map texts_of xs) → AllByRecursion P xs
each_known names P texts_of one [] h = tt
each_known names P texts_of one (x ∷ xs) h = (one x (all_front names (texts_of x) (flat_map texts_of xs) h), each_known names P texts_of one xs (all_back names (texts_of x) (flat_map texts_of xs) h))

there_known : {A : Type 0} (names : List Text) (P : A → Type 0) (texts_of : A → List Text) → ((x : A) → AllByRecursion (IsKnown names) (texts_of x) → P x)
    → (o : Option A) → AllByRecursion (IsKnown names) (option_uses texts_of o) → IfThere P o
there_known names P texts_of one None h = tt
there_known names P texts_of one (Some x) h = one x h

mutual
  unfolding loose_texts loose_parts TextsKnown PartsKnown

  pub texts_known : (names : List Text) (s : Struct) (v : Value ℕ s) → AllByRecursion (IsKnown names) (loose_texts s v) → TextsKnown names s v
  texts_known names (struct_of c fields ps) v h = parts_known names ps v.1 h

  parts_known : (names : List Text) (ps : Pointers) (v : Parts ℕ ps) → AllByRecursion (IsKnown names) (loose_parts ps v) → PartsKnown names ps v
  parts_known names no_more v h = tt
  parts_known names (text c ps) v h = (h.0, parts_known names ps v.1 h.1)
  parts_known names (texts c ps) v h = (all_front names v.0 (loose_parts ps v.1) h, parts_known names ps v.1 (all_back names v.0 (loose_parts ps v.1) h))
  parts_known names (numbers c target kind ps) v h = parts_known names ps v.1 h
  parts_known names (struct c s ps) v h = (texts_known names s v.0 (all_front names (loose_texts s v.0) (loose_parts ps v.1) h), parts_known names ps v.1 (all_back names (loose_texts s v.0) (loose_parts ps v.1) h))
  parts_known names (struct_or_none c s ps) v h =
      (there_known names (TextsKnown names s) (loose_texts s) (texts_known names s) v.0 (all_front names (option_uses (loose_texts s) v.0) (loose_parts ps v.1) h), parts_known names ps v.1 (all_back names (option_uses (loose_texts s) v.0) (loose_parts ps v.1) h))
  parts_known names (boxed c kind inner s ps) v h =
      (each_known names (TextsKnown names s) (loose_texts s) (texts_known names s) v.0 (all_front names (flat_map (loose_texts s) v.0) (loose_parts ps v.1) h), parts_known names ps v.1 (all_back names (flat_map (loose_texts s) v.0) (loose_parts ps v.1) h))
  parts_known names (structs c target s ps) v h =
      (each_known names (TextsKnown names s) (loose_texts s) (texts_known names s) v.0 (all_front names (flat_map (loose_texts s) v.0) (loose_parts ps v.1) h), parts_known names ps v.1 (all_back names (flat_map (loose_texts s) v.0) (loose_parts ps v.1) h))
  parts_known names (branches c kind fields ps) v h = parts_known names ps v.1 h
  parts_known names (string_table c ps) v h = parts_known names ps v h
  parts_known names (unread c ps) v h = parts_known names ps v h

pub behind_known : (names table : List Text) (v : Value ℕ device) → AllByRecursion (IsKnown names) (table ++ loose_texts device v) → TextsKnown names device v
behind_known names table v h = texts_known names device v (all_back names table (loose_texts device v) h)

-- numbers of texts give these texts
pub texts_again : (names : List Text) (ids : List ℕ) (ts : List Text) → AreNumbersOf names ids ts → map (name_text names) ids ≡ ts
texts_again names [] [] h = refl
texts_again names [] (t ∷ ts) h = absurd h
texts_again names (id ∷ ids) [] h = absurd h
texts_again names (id ∷ ids) (t ∷ ts) h = rw (get_or_from_slice_get names id t [] h.0) (ap (λ (us : List Text). t ∷ us) (texts_again names ids ts h.1))

-- What a frame allows.

pub frame_budget : (f : Frame) → whole_budget (segments_of f) ≤ 2 ^ 28 + 64
frame_budget f =
    let last = segment_count f.bytes.now - 1 in
    let e = budget_of f.bytes.now last f.whole (omega arith) in
    let short = budget_short (length f.bytes.now) last f.whole.short in
    omega arith

pub device_room : (f : Frame) (table : List Text) (v : Value ℕ device) (names : List Text) → numbers_in_segments device (segments_of f) ≡ Ok (table, v) → length names + 2 ^ 28 + 66 < 2 ^ 32 - 1
    → HasRoom (table ++ loose_texts device v) names
device_room f table v names is room =
    let b = device_bound (segments_of f) table v is in
    let few = frame_budget f in
    let m = reach_most names in
    omega arith

pub device_few : (f : Frame) (table : List Text) (v : Value ℕ device) → numbers_in_segments device (segments_of f) ≡ Ok (table, v) → structs_in device v < 2 ^ 32 - 1
device_few f table v is =
    let b = device_bound (segments_of f) table v is in
    let few = frame_budget f in
    omega arith

pub device_most : (f : Frame) (table : List Text) (v : Value ℕ device) (old new : List Text) → numbers_in_segments device (segments_of f) ≡ Ok (table, v) → Grows (table ++ loose_texts device v) old new
    → length new ≤ length old + 2 ^ 28 + 66
device_most f table v old new is grows =
    let b = device_bound (segments_of f) table v is in
    let few = frame_budget f in
    let m = reach_most old in
    let n = reach_most new in
    let k = grows.most in
    omega arith
