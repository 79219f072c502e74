-- The segment of a whole message.
use Rattle.std.proofs.Common.{◌≡◌, ◌<◌, ◌≤◌, ◌+◌, ◌*◌, ◌/◌, ◌^◌, ◌++◌, ◌∙◌, [], ◌∷◌, ℕ, List, Bool, true, false, length, map, replicate, ap, sym, refl, subst, arith, length-append, inl, inr}
use Rattle.std.specs.Prelude.{nat_le, not, ◌||◌, Some, slice_get, get_or}
use Rattle.std.proofs.lemmas.Bool.{le-leb, lt-leb}
use Rattle.std.proofs.lemmas.List.{length-replicate, length-map, get_or-map}
use Rattle.std.proofs.lemmas.Option.{slice_get-get_or, get_or_from_slice_get}
use Rattle.byteorder.specs.Endian.{little_bytes}
use Rattle.byteorder.specs.Numbers.{length-bytes_low_first}
use Rattle.ix_message.specs.Shape.{Text, Struct, Pointers, Value, Parts, struct_of, no_more, text, texts, numbers, struct, struct_or_none, boxed, structs, branches, string_table, unread}
use Rattle.ix_message.specs.Names.{Datum, table_of, numbered, place_in}
use Rattle.ix_message.specs.Layout.{Laid, Section, objects, all_fit, pointer_section, section_bytes, struct_laid, text_laid, texts_laid, numbers_laid, structs_laid, boxed_laid, option_laid, branch_sections, nothing_laid, section_of, all_laid, too_many_words}
use Rattle.ix_message.specs.Message.{numbers_of, segment_for, encoding, is_too_long}
use Rattle.ix_message.proofs.Whole.{IsWide, length-section_bytes, length-pointer_section}
use Rattle.ix_capw.specs.Frame.{root_segment, root_pointer, frame_bytes}
use Rattle.ix_capw.specs.Growth.{IsSegment}
use Rattle.ix_message_write.specs.Table.{has_table, IsRoot, name_text}
use Rattle.ix_message_write.specs.Growth.{NoRoom}
use Rattle.ix_message_write.specs.Says.{HasWritten}
use Rattle.ix_message_write.proofs.Laid.{root_laid}

-- the text of a table's entry
pub table_at : (names : List Text) (used : List ℕ) (i id : ℕ) (t : Text) → i < length used → id ≡ get_or used i id → slice_get names id ≡ Some t → slice_get (map (name_text names) used) i ≡ Some t
table_at names used i id t lt id_is is =
    let inside : i < length (map (name_text names) used) = omega (arith, length-map used (name_text names)) in
    slice_get-get_or (map (name_text names) used) i [] inside
    ∙ ap Some (get_or-map (name_text names) used i id [] lt ∙ ap (name_text names) (sym id_is) ∙ get_or_from_slice_get names id t [] is)

-- the section of a record
abbrev pub root_section : (s : Struct) → Value Datum s → Section
root_section s r = section_of (table_of s r) s (numbers_of s r)

table_object : (table : List Text) → 8 * length table ≤ length (texts_laid table).object
unfolding texts_laid
table_object [] = omega arith
table_object (t ∷ ts) =
    let all = map text_laid (t ∷ ts) in
    omega (arith, length-append (pointer_section 0 all) (objects all), length-pointer_section 0 all, length-map (t ∷ ts) text_laid)

more : (x : Laid) (xs : List Laid) (n : ℕ) → n ≤ length (objects xs) → n ≤ length (objects (x ∷ xs))
more x xs n le = omega (arith, length-append x.object (objects xs))

-- the string table is among the objects
table_objects : (table : List Text) (ps : Pointers) (v : Parts ℕ ps) → has_table ps ≡ true → 8 * length table ≤ length (objects (all_laid table ps v))
unfolding all_laid
table_objects table no_more v h = absurd cc
table_objects table (text c ps) v h = more (text_laid v.0) (all_laid table ps v.1) (8 * length table) (table_objects table ps v.1 h)
table_objects table (texts c ps) v h = more (texts_laid v.0) (all_laid table ps v.1) (8 * length table) (table_objects table ps v.1 h)
table_objects table (numbers c target kind ps) v h = more (numbers_laid v.0) (all_laid table ps v.1) (8 * length table) (table_objects table ps v.1 h)
table_objects table (struct c s ps) v h = more (struct_laid (section_of table s v.0)) (all_laid table ps v.1) (8 * length table) (table_objects table ps v.1 h)
table_objects table (struct_or_none c s ps) v h = more (option_laid (section_of table s) v.0) (all_laid table ps v.1) (8 * length table) (table_objects table ps v.1 h)
table_objects table (boxed c kind inner s ps) v h = more (boxed_laid (map (section_of table s) v.0)) (all_laid table ps v.1) (8 * length table) (table_objects table ps v.1 h)
table_objects table (structs c target s ps) v h = more (structs_laid (map (section_of table s) v.0)) (all_laid table ps v.1) (8 * length table) (table_objects table ps v.1 h)
table_objects table (branches c kind fields ps) v h = more (structs_laid (branch_sections v.0)) (all_laid table ps v.1) (8 * length table) (table_objects table ps v.1 h)
table_objects table (string_table c ps) v h = omega (arith, table_object table, length-append (texts_laid table).object (objects (all_laid table ps v)))
table_objects table (unread c ps) v h = more nothing_laid (all_laid table ps v) (8 * length table) (table_objects table ps v h)

section_has_table : (table : List Text) (s : Struct) (v : Value ℕ s) → IsRoot s → 8 * length table ≤ length (objects (section_of table s v).behind)
unfolding section_of
section_has_table table (struct_of c fields ps) v h = table_objects table ps v.1 h

long_segment : (s : Struct) (r : Value Datum s) → length (segment_for s r) ≡ 8 + length (section_bytes 0 (root_section s r)) + length (objects (root_section s r).behind)
unfolding segment_for
long_segment s r =
    let e = root_section s r in
    let word = little_bytes 8 ((struct_laid e).pointer 0) in
    omega (arith, length-append word (section_bytes 0 e ++ objects e.behind), length-append (section_bytes 0 e) (objects e.behind), length-bytes_low_first 0 8 ((struct_laid e).pointer 0))

too_long_by_words : (s : Struct) (r : Value Datum s) → 2 ^ 30 ≤ length (segment_for s r) → is_too_long s r ≡ true
unfolding is_too_long
too_long_by_words s r le = let many : nat_le too_many_words (length (segment_for s r) / 8) ≡ true = le-leb too_many_words (length (segment_for s r) / 8) (omega arith) in rw many refl

too_long_by_fit : (s : Struct) (r : Value Datum s) → all_fit (root_section s r).behind ≡ false → is_too_long s r ≡ true
unfolding is_too_long
too_long_by_fit s r unfit = go (nat_le too_many_words (length (segment_for s r) / 8)) (all_fit (root_section s r).behind) unfit
  where
    go : (a b : Bool) → b ≡ false → (a || not b) ≡ true
    go true b e = refl
    go false true e = absurd cc
    go false false e = refl

-- a message with too many texts is too long
pub many_texts : (s : Struct) (r : Value Datum s) → IsRoot s → 2 ^ 27 ≤ length (table_of s r) → is_too_long s r ≡ true
many_texts s r root many = too_long_by_words s r (omega (arith, long_segment s r, section_has_table (table_of s r) s (numbers_of s r) root))

-- the section by the string table that was made
by_table : (s : Struct) (r : Value Datum s) (table : List Text) → table ≡ table_of s r → section_of table s (numbered (place_in table) s r) ≡ root_section s r
by_table s r table same = ap (λ (t : List Text). section_of t s (numbered (place_in t) s r)) same

pub root_refused : (d n : ℕ) (s : Struct) (r : Value Datum s) (table : List Text) → table ≡ table_of s r → IsWide d n (section_of table s (numbered (place_in table) s r))
    → NoRoom (section_of table s (numbered (place_in table) s r)).behind (root_segment d n) → is_too_long s r ≡ true
root_refused d n s r table same wide refused =
    let e = root_section s r in
    let is = by_table s r table same in
    let wide2 : IsWide d n e = subst (IsWide d n) is wide in
    go wide2 (subst (λ (x : Section). NoRoom x.behind (root_segment d n)) is refused)
  where
    go : IsWide d n (root_section s r) → NoRoom (root_section s r).behind (root_segment d n) → is_too_long s r ≡ true
    go wide (inl many) =
        let word = little_bytes 8 (root_pointer d n) in
        let Z : List ℕ = replicate (8 * (d + n)) 0 in
        too_long_by_words s r (omega (arith, long_segment s r, length-section_bytes 0 d n (root_section s r) wide, length-append word Z, length-bytes_low_first 0 8 (root_pointer d n), length-replicate {A = ℕ} (8 * (d + n)) 0))
    go wide (inr unfit) = too_long_by_fit s r unfit

-- what was written is the segment of the record
pub root_written : (d n : ℕ) (s : Struct) (r : Value Datum s) (table : List Text) (S : List ℕ) → table ≡ table_of s r → IsWide d n (section_of table s (numbered (place_in table) s r))
    → HasWritten 1 (section_of table s (numbered (place_in table) s r)) (root_segment d n) S → S ≡ segment_for s r
unfolding segment_for
root_written d n s r table S same wide h =
    let e = section_of table s (numbered (place_in table) s r) in
    h.made ∙ root_laid d n e wide ∙ ap (λ (x : Section). little_bytes 8 ((struct_laid x).pointer 0) ++ (struct_laid x).object) (by_table s r table same)

pub encoding_is : (s : Struct) (r : Value Datum s) → frame_bytes (segment_for s r) ≡ encoding s r
unfolding encoding
encoding_is s r = refl

pub not_too_long : (s : Struct) (r : Value Datum s) (table : List Text) (S : List ℕ) → table ≡ table_of s r → S ≡ segment_for s r → IsSegment S
    → all_fit (section_of table s (numbered (place_in table) s r)).behind ≡ true → is_too_long s r ≡ false
unfolding is_too_long
not_too_long s r table S same is segment fit =
    let few : nat_le too_many_words (length (segment_for s r) / 8) ≡ false = lt-leb too_many_words (length (segment_for s r) / 8) (omega (arith, ap length is, segment.few)) in
    let fits : all_fit (root_section s r).behind ≡ true = sym (ap (λ (x : Section). all_fit x.behind) (by_table s r table same)) ∙ fit in
    rw (few, fits) refl
