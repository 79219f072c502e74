-- A number is in its list where it fits it: what the reader is told of the lists (their sizes) agrees with the lists.
use Prim.Native.String.{String}
use Rattle.std.proofs.Common.{◌≡◌, ℕ, zero, suc, List, [], ◌∷◌, map, length, Bool, true, false, Result, Ok, Err, refl, sym, ap, ◌∙◌}
use Rattle.std.specs.Prelude.{◌&&◌, ◌==◌, codes, if◌then◌else◌, slice_index, nat_lt}
use Rattle.std.specs.List.{list_all}
use Rattle.std.proofs.lemmas.Bool.{and_parts}
use Rattle.std.proofs.lemmas.List.{length-map}
use Rattle.ix_frame.specs.Result.{◌>>=◌}
use Rattle.ix_message.specs.Shape.{Text, Target, Kind, Field, Pointers, Parts, nowhere, strings, site_types, tile_types, wires, bel_pins, tile_wires, number, flag, nothing, choice, name, index, site_of_tile, by_tag, no_more, text, texts, numbers, struct, struct_or_none, boxed, structs, branches, string_table, unread}
use Rattle.ix_message.specs.Names.{Datum, kind_in, datum_of, data_of}
use Rattle.ix_message.specs.Indexes.{Step, Entry, Lists, asked as step_asked, fits, ask_row, ask_all, number_entry, entry_of, with_list, within, entry_at, outwards}
use Rattle.ix_device_read.specs.Finish.{Sizes, Stopped, bad, place_of, device_kinds, field_at, is_in, asked, finish_row, each_alone, with_size, inner_sizes}
use Rattle.ix_device_read.specs.Sizes.{finished_as}
use Rattle.ix_device_read.proofs.Walked.{first_from, counts_after, made_of}

-- ---- the kinds that a device has

-- a list that a number of a device leads into
abbrev pub is_device_list : Target → Bool
is_device_list site_types = true
is_device_list tile_types = true
is_device_list wires = true
is_device_list bel_pins = true
is_device_list tile_wires = true
is_device_list _ = false

-- the kind of a number in a list of numbers
abbrev pub is_listed_kind : Kind → Bool
is_listed_kind number = true
is_listed_kind flag = true
is_listed_kind nothing = true
is_listed_kind (choice most) = true
is_listed_kind name = true
is_listed_kind (index target) = is_device_list target
is_listed_kind _ = false

-- the kind of a data field
abbrev pub is_field_kind : Kind → Bool
is_field_kind site_of_tile = true
is_field_kind (by_tag slot value here there) = is_field_kind here && is_field_kind there
is_field_kind kind = is_listed_kind kind

abbrev pub has_field_kind : Field → Bool
has_field_kind f = is_field_kind f.kind

-- a list that comes in force in one struct
abbrev pub is_inner_list : Target → Bool
is_inner_list nowhere = true
is_inner_list strings = true
is_inner_list bel_pins = true
is_inner_list tile_wires = true
is_inner_list _ = false

abbrev pub has_inner_lists : Pointers → Bool
has_inner_lists no_more = true
has_inner_lists (text c ps) = has_inner_lists ps
has_inner_lists (texts c ps) = has_inner_lists ps
has_inner_lists (numbers c target kind ps) = is_inner_list target && has_inner_lists ps
has_inner_lists (struct c s ps) = has_inner_lists ps
has_inner_lists (struct_or_none c s ps) = has_inner_lists ps
has_inner_lists (boxed c kind inner s ps) = has_inner_lists ps
has_inner_lists (structs c target s ps) = is_inner_list target && has_inner_lists ps
has_inner_lists (branches c kind fields ps) = has_inner_lists ps
has_inner_lists (string_table c ps) = has_inner_lists ps
has_inner_lists (unread c ps) = has_inner_lists ps

-- ---- sizes and lists

abbrev pub site_types_of : Entry → ℕ
site_types_of e = slice_index e.lengths 0

-- the sizes are those of the lists, and the struct around is of this tile type
pub record Agrees (table names : List Text) (z : Sizes) (l : Lists) (tile_type : ℕ) : Type 0 where
  pub table_is : z.table ≡ table
  pub names_are : z.names ≡ names
  pub strings_are : length table ≡ l.table
  pub site_types_are : z.site_types ≡ length l.site_type_list
  pub tile_types_are : z.tile_types ≡ map site_types_of l.tile_type_list
  pub wires_are : z.wires ≡ length l.wire_list
  pub bel_pins_are : z.bel_pins ≡ length l.bel_pin_list
  pub tile_wires_are : z.tile_wires ≡ length l.tile_wire_list
  pub tile_type_is : z.tile_type ≡ tile_type

with_one : {table names : List Text} {z : Sizes} {l : Lists} {tile_type : ℕ} (target : Target) (n : ℕ) (es : List Entry) → is_inner_list target ≡ true → n ≡ length es
    → Agrees table names z l tile_type → Agrees table names (with_size target n z) (with_list target es l) tile_type
with_one nowhere n es t e a = a
with_one strings n es t e a = a
with_one bel_pins n es t e a = record { table_is = a.table_is; names_are = a.names_are; strings_are = a.strings_are; site_types_are = a.site_types_are; tile_types_are = a.tile_types_are; wires_are = a.wires_are; bel_pins_are = e; tile_wires_are = a.tile_wires_are; tile_type_is = a.tile_type_is }
with_one tile_wires n es t e a = record { table_is = a.table_is; names_are = a.names_are; strings_are = a.strings_are; site_types_are = a.site_types_are; tile_types_are = a.tile_types_are; wires_are = a.wires_are; bel_pins_are = a.bel_pins_are; tile_wires_are = e; tile_type_is = a.tile_type_is }
with_one _ n es t e a = absurd cc

-- around a struct of another tile type
pub at_tile_type : {table names : List Text} {z : Sizes} {l : Lists} {before : ℕ} (tile_type : ℕ) → Agrees table names z l before → Agrees table names (record z { tile_type = tile_type }) l tile_type
at_tile_type tile_type a = record { table_is = a.table_is; names_are = a.names_are; strings_are = a.strings_are; site_types_are = a.site_types_are; tile_types_are = a.tile_types_are; wires_are = a.wires_are; bel_pins_are = a.bel_pins_are; tile_wires_are = a.tile_wires_are; tile_type_is = refl }

-- inside a struct they still agree
pub inner_agrees : {table names : List Text} {tile_type : ℕ} (ps : Pointers) (v : Parts ℕ ps) (z : Sizes) (l : Lists) → has_inner_lists ps ≡ true
    → Agrees table names z l tile_type → Agrees table names (inner_sizes ps v z) (within ps v l) tile_type
inner_agrees no_more v z l t a = a
inner_agrees (text c ps) v z l t a = inner_agrees ps v.1 z l t a
inner_agrees (texts c ps) v z l t a = inner_agrees ps v.1 z l t a
inner_agrees (numbers c target kind ps) v z l t a =
    let both = and_parts (is_inner_list target) (has_inner_lists ps) t in
    inner_agrees ps v.1 _ _ both.1 (with_one target (length v.0) (map number_entry v.0) both.0 (sym (length-map v.0 number_entry)) a)
inner_agrees (struct c s ps) v z l t a = inner_agrees ps v.1 z l t a
inner_agrees (struct_or_none c s ps) v z l t a = inner_agrees ps v.1 z l t a
inner_agrees (boxed c kind inner s ps) v z l t a = inner_agrees ps v.1 z l t a
inner_agrees (structs c target s ps) v z l t a =
    let both = and_parts (is_inner_list target) (has_inner_lists ps) t in
    inner_agrees ps v.1 _ _ both.1 (with_one target (length v.0) (map (entry_of s) v.0) both.0 (sym (length-map v.0 (entry_of s))) a)
inner_agrees (branches c kind fields ps) v z l t a = inner_agrees ps v.1 z l t a
inner_agrees (string_table c ps) v z l t a = inner_agrees ps v z l t a
inner_agrees (unread c ps) v z l t a = inner_agrees ps v z l t a

-- ---- a number

-- how many types the sites of a tile type have, from the list of tile types
site_types_at : (es : List Entry) (i : ℕ) → slice_index (map site_types_of es) i ≡ site_types_of (entry_at es i)
site_types_at [] i = refl
site_types_at (e ∷ es) zero = refl
site_types_at (e ∷ es) (suc i) = site_types_at es i

listed_fits : {table names : List Text} {z : Sizes} {l : Lists} {tile_type : ℕ} (around : List Entry) (row : List ℕ) (k : Kind) (n : ℕ) → is_listed_kind k ≡ true
    → Agrees table names z l tile_type → is_in z k n ≡ fits l around row k n
listed_fits around row number n t a = refl
listed_fits around row flag n t a = refl
listed_fits around row nothing n t a = refl
listed_fits around row (choice most) n t a = refl
listed_fits around row name n t a = ap (nat_lt n) (ap length a.table_is ∙ a.strings_are)
listed_fits around row (index site_types) n t a = ap (nat_lt n) a.site_types_are
listed_fits {l = l} around row (index tile_types) n t a = ap (nat_lt n) (ap length a.tile_types_are ∙ length-map l.tile_type_list site_types_of)
listed_fits around row (index wires) n t a = ap (nat_lt n) a.wires_are
listed_fits around row (index bel_pins) n t a = ap (nat_lt n) a.bel_pins_are
listed_fits around row (index tile_wires) n t a = ap (nat_lt n) a.tile_wires_are
listed_fits around row (index _) n t a = absurd cc
listed_fits around row _ n t a = absurd cc

either_fits : (b : Bool) (z : Sizes) (here there : Kind) (n : ℕ) (x y : Bool) → is_in z here n ≡ x → is_in z there n ≡ y → is_in z (if b then here else there) n ≡ (if b then x else y)
either_fits true z here there n x y h t = h
either_fits false z here there n x y h t = t

-- a field of a struct, in the struct around it
field_fits : {table names : List Text} {z : Sizes} {l : Lists} (here : Entry) (around : List Entry) (row : List ℕ) (k : Kind) (n : ℕ) → is_field_kind k ≡ true
    → Agrees table names z l (slice_index (outwards around 0).row 1) → is_in z (kind_in row k) n ≡ fits l (here ∷ around) row k n
field_fits {l = l} here around row site_of_tile n t a =
    ap (nat_lt n) ((λ i. slice_index (a.tile_types_are i) (a.tile_type_is i)) ∙ site_types_at l.tile_type_list (slice_index (outwards around 0).row 1))
field_fits {z = z} {l = l} here around row (by_tag slot value k m) n t a =
    let both = and_parts (is_field_kind k) (is_field_kind m) t in
    either_fits (slice_index row slot == value) z (kind_in row k) (kind_in row m) n _ _ (field_fits here around row k n both.0 a) (field_fits here around row m n both.1 a)
field_fits here around row number n t a = listed_fits (here ∷ around) row number n t a
field_fits here around row flag n t a = listed_fits (here ∷ around) row flag n t a
field_fits here around row nothing n t a = listed_fits (here ∷ around) row nothing n t a
field_fits here around row (choice most) n t a = listed_fits (here ∷ around) row (choice most) n t a
field_fits here around row name n t a = listed_fits (here ∷ around) row name n t a
field_fits here around row (index target) n t a = listed_fits (here ∷ around) row (index target) n t a
field_fits here around row _ n t a = absurd cc

-- ---- the numbers of a struct

-- a number is asked, and others after it
answered : (held fit : Bool) (counts : List ℕ) (kind called : String) (found d : Datum) (rest : Result (List Datum) Stopped) (xs : List Step) (ds : List Datum)
    → held ≡ fit → found ≡ d → rest ≡ finished_as (first_from counts xs) ds
    → ((if held then Ok found else Err (bad (field_at counts (place_of device_kinds kind) (codes kind) (codes called)))) >>= λ x. rest >>= λ y. Ok (x ∷ y))
    ≡ finished_as (first_from counts (step_asked kind called fit ∷ xs)) (d ∷ ds)
unfolding first_from
answered true true counts kind called found d rest xs ds e is h = rw (is, h) (made_of (first_from counts xs) ds (λ y. d ∷ y))
answered false false counts kind called found d rest xs ds e is h = refl
answered true false counts kind called found d rest xs ds e is h = absurd cc
answered false true counts kind called found d rest xs ds e is h = absurd cc

pub row_finished : {table names : List Text} (z : Sizes) (l : Lists) (here : Entry) (around : List Entry) (counts : List ℕ) (kind : String) (row : List ℕ) (fields : List Field) (ns : List ℕ)
    → list_all has_field_kind fields ≡ true → Agrees table names z l (slice_index (outwards around 0).row 1)
    → finish_row z counts kind row fields ns ≡ finished_as (first_from counts (ask_row l (here ∷ around) kind row fields ns)) (data_of table row fields ns)
unfolding finish_row first_from
row_finished z l here around counts kind row [] ns t a = refl
row_finished z l here around counts kind row (f ∷ fs) [] t a = refl
row_finished {table = table} z l here around counts kind row (f ∷ fs) (n ∷ ns) t a =
    let both = and_parts (has_field_kind f) (list_all has_field_kind fs) t in
    let k = kind_in row f.kind in
    let found = ap (λ (strings : List Text). datum_of strings k n) a.table_is in
    answered (is_in z k n) (fits l (here ∷ around) row f.kind n) counts kind f.called (datum_of z.table k n) (datum_of table k n) (finish_row z counts kind row fs ns) (ask_row l (here ∷ around) kind row fs ns) (data_of table row fs ns) (field_fits here around row f.kind n both.0 a) found (row_finished z l here around counts kind row fs ns both.1 a)

pub numbers_finished : {table names : List Text} {tile_type : ℕ} (z : Sizes) (l : Lists) (around : List Entry) (counts : List ℕ) (kind called : String) (k : Kind) (ns : List ℕ)
    → is_listed_kind k ≡ true → Agrees table names z l tile_type
    → each_alone (asked z counts kind called k) ns ≡ finished_as (first_from counts (ask_all l around kind called k ns)) (map (datum_of table k) ns)
unfolding each_alone first_from
numbers_finished z l around counts kind called k [] t a = refl
numbers_finished {table = table} z l around counts kind called k (n ∷ ns) t a =
    let found = ap (λ (strings : List Text). datum_of strings k n) a.table_is in
    answered (is_in z k n) (fits l around [] k n) counts kind called (datum_of z.table k n) (datum_of table k n) (each_alone (asked z counts kind called k) ns) (ask_all l around kind called k ns) (map (datum_of table k) ns) (listed_fits around [] k n t a) found (numbers_finished z l around counts kind called k ns t a)

-- asking begins no struct
pub row_counts : (l : Lists) (around : List Entry) (counts : List ℕ) (kind : String) (row : List ℕ) (fields : List Field) (ns : List ℕ) → counts_after counts (ask_row l around kind row fields ns) ≡ counts
unfolding counts_after
row_counts l around counts kind row [] ns = refl
row_counts l around counts kind row (f ∷ fs) [] = refl
row_counts l around counts kind row (f ∷ fs) (n ∷ ns) = row_counts l around counts kind row fs ns

pub numbers_counts : (l : Lists) (around : List Entry) (counts : List ℕ) (kind called : String) (k : Kind) (ns : List ℕ) → counts_after counts (ask_all l around kind called k ns) ≡ counts
unfolding counts_after
numbers_counts l around counts kind called k [] = refl
numbers_counts l around counts kind called k (n ∷ ns) = numbers_counts l around counts kind called k ns
