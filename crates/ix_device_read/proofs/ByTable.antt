-- What is done struct by struct is what the definitions of a message say: by induction over the table.
use Prim.Native.String.{String}
use Rattle.std.proofs.Common.{◌≡◌, ℕ, ◌-◌, ◌^◌, ◌<◌, List, [], ◌∷◌, length, map, replicate, Bool, true, false, Option, Some, None, Result, Ok, refl, sym, ap, ◌∙◌, subst, arith}
use Rattle.std.specs.Prelude.{◌&&◌, IsSome, slice_index}
use Rattle.std.specs.List.{AllByRecursion, list_all, flat_map, sum_by}
use Rattle.std.proofs.lemmas.Bool.{and_parts}
use Rattle.std.proofs.lemmas.List.{length-map}
use Rattle.std.proofs.lemmas.Simd.{map-map}
use Rattle.ix_frame.specs.Result.{◌>>=◌}
use Rattle.ix_strings.specs.Names.{number_of}
use Rattle.ix_message.specs.Device.{device, tile_type, site_type, wire}
use Rattle.ix_message.specs.Indexes.{Item, Entry, Lists, outwards, only_table, within, lists_of, lengths_of, entry_of, steps, part_steps, ask_row, ask_all, option_steps, first_bad}
use Rattle.ix_message.specs.Names.{data_of, datum_of, record_of, parts_of, option_with}
use Rattle.ix_message.specs.Shape.{Text, Field, Struct, Pointers, Value, Parts, struct_of, no_more, text, texts, numbers, struct, struct_or_none, boxed, structs, branches, string_table, unread}
use Rattle.ix_device_read.specs.Finish.{Sizes, Stopped, begin, device_kinds, known, when_known, asked, finish_row, each_alone, finish_at, finish_parts, finish_each, finish_option, inner_sizes}
use Rattle.ix_device_read.specs.Premises.{IsKnown, TextsKnown, PartsKnown, structs_in, parts_in, if_there}
use Rattle.ix_device_read.specs.Sizes.{device_finished, device_sizes, finished_as}
use Rattle.ix_device_read.proofs.Walked.{first_from, counts_after, made_of, asked_and_rest, and_rest, Finishes, each_finished, option_finished}
use Rattle.ix_device_read.proofs.Agreeing.{Agrees, site_types_of, has_field_kind, is_listed_kind, has_inner_lists, at_tile_type, inner_agrees, row_finished, row_counts, numbers_finished, numbers_counts}
use Rattle.ix_device_read.proofs.Tallied.{has_kind, Begins, same_first, none_counted, one_begins, asked_begin, both_begin, each_begins, option_begins, row_begins, numbers_begin}

-- ---- what holds of each struct of a device but the root

abbrev mutual
  pub is_inner : Struct → Bool
  is_inner (struct_of kind fields ps) = has_kind device_kinds kind && (list_all has_field_kind fields && (has_inner_lists ps && are_inner ps))

  pub are_inner : Pointers → Bool
  are_inner no_more = true
  are_inner (text c ps) = are_inner ps
  are_inner (texts c ps) = are_inner ps
  are_inner (numbers c target kind ps) = is_listed_kind kind && are_inner ps
  are_inner (struct c s ps) = is_inner s && are_inner ps
  are_inner (struct_or_none c s ps) = is_inner s && are_inner ps
  are_inner (boxed c kind inner s ps) = is_inner s && are_inner ps
  are_inner (structs c target s ps) = is_inner s && are_inner ps
  are_inner (branches c kind fields ps) = false
  are_inner (string_table c ps) = are_inner ps
  are_inner (unread c ps) = are_inner ps

-- ---- how many structs are begun

mutual
  unfolding steps part_steps structs_in parts_in

  struct_begins : (s : Struct) (l : Lists) (around : List Entry) (v : Value ℕ s) → is_inner s ≡ true → Begins (steps s l around v) (structs_in s v)
  struct_begins (struct_of kind fields ps) l around v t =
      let here = record { row = v.0; lists = lists_of ps v.1; lengths = lengths_of ps v.1 } ∷ around in
      let known = and_parts (has_kind device_kinds kind) (list_all has_field_kind fields && (has_inner_lists ps && are_inner ps)) t in
      let inner = and_parts (has_inner_lists ps) (are_inner ps) (and_parts (list_all has_field_kind fields) (has_inner_lists ps && are_inner ps) known.1).1 in
      let parts = parts_begin ps kind (within ps v.1 l) here v.1 known.0 inner.1 in
      one_begins kind _ (parts_in ps v.1) known.0 (asked_begin (ask_row l here kind v.0 fields v.0) _ (parts_in ps v.1) (row_begins l here kind v.0 fields v.0 known.0) parts)

  parts_begin : (ps : Pointers) (kind : String) (l : Lists) (around : List Entry) (v : Parts ℕ ps) → has_kind device_kinds kind ≡ true → are_inner ps ≡ true → Begins (part_steps ps kind l around v) (parts_in ps v)
  parts_begin no_more kind l around v h t = record { of_kinds = tt; many = refl }
  parts_begin (text c ps) kind l around v h t = parts_begin ps kind l around v.1 h t
  parts_begin (texts c ps) kind l around v h t = parts_begin ps kind l around v.1 h t
  parts_begin (numbers c target k ps) kind l around v h t =
      let both = and_parts (is_listed_kind k) (are_inner ps) t in
      asked_begin (ask_all l around kind c k v.0) (part_steps ps kind l around v.1) (parts_in ps v.1) (numbers_begin l around kind c k v.0 h) (parts_begin ps kind l around v.1 h both.1)
  parts_begin (struct c s ps) kind l around v h t =
      let both = and_parts (is_inner s) (are_inner ps) t in
      both_begin (steps s l around v.0) (part_steps ps kind l around v.1) (structs_in s v.0) (parts_in ps v.1) (struct_begins s l around v.0 both.0) (parts_begin ps kind l around v.1 h both.1)
  parts_begin (struct_or_none c s ps) kind l around v h t =
      let both = and_parts (is_inner s) (are_inner ps) t in
      both_begin (option_steps (steps s l around) v.0) (part_steps ps kind l around v.1) (if_there (structs_in s) v.0) (parts_in ps v.1) (option_begins (steps s l around) (structs_in s) (λ x. struct_begins s l around x both.0) v.0) (parts_begin ps kind l around v.1 h both.1)
  parts_begin (boxed c box inner s ps) kind l around v h t =
      let both = and_parts (is_inner s) (are_inner ps) t in
      both_begin (flat_map (steps s l around) v.0) (part_steps ps kind l around v.1) (sum_by (structs_in s) v.0) (parts_in ps v.1) (each_begins (steps s l around) (structs_in s) (λ x. struct_begins s l around x both.0) v.0) (parts_begin ps kind l around v.1 h both.1)
  parts_begin (structs c target s ps) kind l around v h t =
      let both = and_parts (is_inner s) (are_inner ps) t in
      both_begin (flat_map (steps s l around) v.0) (part_steps ps kind l around v.1) (sum_by (structs_in s) v.0) (parts_in ps v.1) (each_begins (steps s l around) (structs_in s) (λ x. struct_begins s l around x both.0) v.0) (parts_begin ps kind l around v.1 h both.1)
  parts_begin (branches c k fields ps) kind l around v h t = absurd cc
  parts_begin (string_table c ps) kind l around v h t = parts_begin ps kind l around v h t
  parts_begin (unread c ps) kind l around v h t = parts_begin ps kind l around v h t

-- ---- a struct is finished as its record, or stops at its first bad field

text_known : {names : List Text} (z : Sizes) (t : Text) → z.names ≡ names → IsKnown names t → known z t ≡ Ok t
text_known z t e h = go (number_of z.names t) (subst (λ (ns : List Text). IsKnown ns t) (sym e) h)
  where
    go : (o : Option ℕ) → IsSome o → when_known o t ≡ Ok t
    go (Some id) i = refl
    go None i = absurd cc

texts_known : {names : List Text} (z : Sizes) (ts : List Text) → z.names ≡ names → AllByRecursion (IsKnown names) ts → each_alone (known z) ts ≡ Ok ts
unfolding each_alone
texts_known z [] e h = refl
texts_known z (t ∷ ts) e h = rw (text_known z t e h.0, texts_known z ts e h.1) refl

-- the data fields of a struct, then what is behind its pointers
struct_of_parts : (table : List Text) (kind : String) (fields : List Field) (ps : Pointers) (z : Sizes) (l : Lists) (around : List Entry) (v : Value ℕ (struct_of kind fields ps)) (counts : List ℕ)
    → let here = entry_of (struct_of kind fields ps) v ∷ around in
    let asked_first = ask_row l here kind v.0 fields v.0 in
    let behind = part_steps ps kind (within ps v.1 l) here v.1 in
    finish_row z (begin kind counts) kind v.0 fields v.0 ≡ finished_as (first_from (begin kind counts) asked_first) (data_of table v.0 fields v.0)
    → finish_parts ps kind (inner_sizes ps v.1 (record z { tile_type = slice_index v.0 1 })) v.1 (begin kind counts) ≡ finished_as (first_from (begin kind counts) behind) (parts_of table ps v.1, counts_after (begin kind counts) behind)
    → finish_at (struct_of kind fields ps) z v counts ≡ finished_as (first_from counts (steps (struct_of kind fields ps) l around v)) (record_of table (struct_of kind fields ps) v, counts_after counts (steps (struct_of kind fields ps) l around v))
unfolding finish_at steps record_of first_from counts_after
struct_of_parts table kind fields ps z l around v counts row parts =
    let here = entry_of (struct_of kind fields ps) v ∷ around in
    asked_and_rest (begin kind counts) (ask_row l here kind v.0 fields v.0) (part_steps ps kind (within ps v.1 l) here v.1) (data_of table v.0 fields v.0) (parts_of table ps v.1) (λ x y. (x, y))
    (finish_row z (begin kind counts) kind v.0 fields v.0) (finish_parts ps kind (inner_sizes ps v.1 (record z { tile_type = slice_index v.0 1 })) v.1 (begin kind counts))
    (row_counts l here (begin kind counts) kind v.0 fields v.0) row parts

mutual
  unfolding finish_at finish_parts steps part_steps record_of parts_of TextsKnown PartsKnown first_from counts_after

  struct_finished : {table names : List Text} (s : Struct) (z : Sizes) (l : Lists) (around : List Entry) (v : Value ℕ s) → is_inner s ≡ true → Agrees table names z l (slice_index (outwards around 0).row 1) → TextsKnown names s v
      → Finishes (finish_at s z) (steps s l around) (record_of table s) v
  struct_finished {table = table} (struct_of kind fields ps) z l around v t a k counts =
      let fitting = and_parts (list_all has_field_kind fields) (has_inner_lists ps && are_inner ps) (and_parts (has_kind device_kinds kind) (list_all has_field_kind fields && (has_inner_lists ps && are_inner ps)) t).1 in
      let inner = and_parts (has_inner_lists ps) (are_inner ps) fitting.1 in
      let agrees = inner_agrees ps v.1 (record z { tile_type = slice_index v.0 1 }) l inner.0 (at_tile_type (slice_index v.0 1) a) in
      struct_of_parts table kind fields ps z l around v counts (row_finished z l (entry_of (struct_of kind fields ps) v) around (begin kind counts) kind v.0 fields v.0 fitting.0 a) (parts_finished ps kind (inner_sizes ps v.1 (record z { tile_type = slice_index v.0 1 })) (within ps v.1 l) (entry_of (struct_of kind fields ps) v ∷ around) v.1 inner.1 agrees k (begin kind counts))

  parts_finished : {table names : List Text} (ps : Pointers) (kind : String) (z : Sizes) (l : Lists) (around : List Entry) (v : Parts ℕ ps) → are_inner ps ≡ true → Agrees table names z l (slice_index (outwards around 0).row 1) → PartsKnown names ps v
      → Finishes (finish_parts ps kind z) (part_steps ps kind l around) (parts_of table ps) v
  parts_finished no_more kind z l around v t a k counts = refl
  parts_finished {table = table} (text c ps) kind z l around v t a k counts =
      asked_and_rest counts [] (part_steps ps kind l around v.1) v.0 (parts_of table ps v.1) (λ x y. (x, y)) (known z v.0) (finish_parts ps kind z v.1 counts) refl (text_known z v.0 a.names_are k.0) (parts_finished ps kind z l around v.1 t a k.1 counts)
  parts_finished {table = table} (texts c ps) kind z l around v t a k counts =
      asked_and_rest counts [] (part_steps ps kind l around v.1) v.0 (parts_of table ps v.1) (λ x y. (x, y)) (each_alone (known z) v.0) (finish_parts ps kind z v.1 counts) refl (texts_known z v.0 a.names_are k.0) (parts_finished ps kind z l around v.1 t a k.1 counts)
  parts_finished {table = table} (numbers c target kd ps) kind z l around v t a k counts =
      let both = and_parts (is_listed_kind kd) (are_inner ps) t in
      asked_and_rest counts (ask_all l around kind c kd v.0) (part_steps ps kind l around v.1) (map (datum_of table kd) v.0) (parts_of table ps v.1) (λ x y. (x, y)) (each_alone (asked z counts kind c kd) v.0) (finish_parts ps kind z v.1 counts)
      (numbers_counts l around counts kind c kd v.0) (numbers_finished z l around counts kind c kd v.0 both.0 a) (parts_finished ps kind z l around v.1 both.1 a k counts)
  parts_finished {table = table} (struct c s ps) kind z l around v t a k counts =
      let both = and_parts (is_inner s) (are_inner ps) t in
      and_rest counts (steps s l around v.0) (part_steps ps kind l around v.1) (record_of table s v.0) (parts_of table ps v.1) (λ x y. (x, y)) (finish_at s z v.0 counts) (finish_parts ps kind z v.1)
      (struct_finished s z l around v.0 both.0 a k.0 counts) (parts_finished ps kind z l around v.1 both.1 a k.1 (counts_after counts (steps s l around v.0)))
  parts_finished {table = table} {names = names} (struct_or_none c s ps) kind z l around v t a k counts =
      let both = and_parts (is_inner s) (are_inner ps) t in
      let first = option_steps (steps s l around) v.0 in
      and_rest counts first (part_steps ps kind l around v.1) (option_with (record_of table s) v.0) (parts_of table ps v.1) (λ x y. (x, y)) (finish_option (finish_at s z) v.0 counts) (finish_parts ps kind z v.1)
      (option_finished (TextsKnown names s) (finish_at s z) (steps s l around) (record_of table s) (λ x h. struct_finished s z l around x both.0 a h) v.0 k.0 counts) (parts_finished ps kind z l around v.1 both.1 a k.1 (counts_after counts first))
  parts_finished {table = table} {names = names} (boxed c box inner s ps) kind z l around v t a k counts =
      let both = and_parts (is_inner s) (are_inner ps) t in
      let first = flat_map (steps s l around) v.0 in
      and_rest counts first (part_steps ps kind l around v.1) (map (record_of table s) v.0) (parts_of table ps v.1) (λ x y. (x, y)) (finish_each (finish_at s z) v.0 counts) (finish_parts ps kind z v.1)
      (each_finished (TextsKnown names s) (finish_at s z) (steps s l around) (record_of table s) (λ x h. struct_finished s z l around x both.0 a h) v.0 k.0 counts) (parts_finished ps kind z l around v.1 both.1 a k.1 (counts_after counts first))
  parts_finished {table = table} {names = names} (structs c target s ps) kind z l around v t a k counts =
      let both = and_parts (is_inner s) (are_inner ps) t in
      let first = flat_map (steps s l around) v.0 in
      and_rest counts first (part_steps ps kind l around v.1) (map (record_of table s) v.0) (parts_of table ps v.1) (λ x y. (x, y)) (finish_each (finish_at s z) v.0 counts) (finish_parts ps kind z v.1)
      (each_finished (TextsKnown names s) (finish_at s z) (steps s l around) (record_of table s) (λ x h. struct_finished s z l around x both.0 a h) v.0 k.0 counts) (parts_finished ps kind z l around v.1 both.1 a k.1 (counts_after counts first))
  parts_finished (branches c kd fields ps) kind z l around v t a k counts = absurd cc
  parts_finished (string_table c ps) kind z l around v t a k counts = parts_finished ps kind z l around v t a k counts
  parts_finished (unread c ps) kind z l around v t a k counts = parts_finished ps kind z l around v t a k counts

-- ---- the root, whose lists are in force from the start

abbrev pointers_of : Struct → Pointers
pointers_of (struct_of kind fields ps) = ps

root_agrees : (table names : List Text) (v : Value ℕ device)
    → Agrees table names (inner_sizes (pointers_of device) v.1 (record (device_sizes table names v) { tile_type = slice_index v.0 1 })) (within (pointers_of device) v.1 (only_table (length table))) (slice_index v.0 1)
root_agrees table names v = record {
  table_is = refl;
  names_are = refl;
  strings_are = refl;
  site_types_are = sym (length-map v.1.1.0 (entry_of site_type));
  tile_types_are = sym (map-map site_types_of (entry_of tile_type) v.1.1.1.0);
  wires_are = sym (length-map v.1.1.1.1.1.0 (entry_of wire));
  bel_pins_are = refl;
  tile_wires_are = refl;
  tile_type_is = refl;
}

root_finished : (table names : List Text) (v : Value ℕ device) → TextsKnown names device v → Finishes (finish_at device (device_sizes table names v)) (steps device (only_table (length table)) []) (record_of table device) v
unfolding finish_row TextsKnown first_from
root_finished table names v known counts =
    struct_of_parts table "Device" [] (pointers_of device) (device_sizes table names v) (only_table (length table)) [] v counts refl
    (parts_finished (pointers_of device) "Device" (inner_sizes (pointers_of device) v.1 (record (device_sizes table names v) { tile_type = slice_index v.0 1 })) (within (pointers_of device) v.1 (only_table (length table))) (entry_of device v ∷ []) v.1 refl (root_agrees table names v) known (begin "Device" counts))

root_begins : (l : Lists) (v : Value ℕ device) → Begins (steps device l [] v) (structs_in device v)
unfolding steps structs_in
root_begins l v = one_begins "Device" (part_steps (pointers_of device) "Device" (within (pointers_of device) v.1 l) (entry_of device v ∷ []) v.1) (parts_in (pointers_of device) v.1) refl (parts_begin (pointers_of device) "Device" (within (pointers_of device) v.1 l) (entry_of device v ∷ []) v.1 refl refl)

without_counts : {A : Type 0} (first : Option Item) (made : A) (counts : List ℕ) (given : Result (A × List ℕ) Stopped) → given ≡ finished_as first (made, counts) → (given >>= λ x. Ok x.0) ≡ finished_as first made
without_counts first made counts given h = rw h (made_of first (made, counts) (λ x. x.0))

pub device_finished_is_reading : (names table : List Text) (v : Value ℕ device) → TextsKnown names device v → structs_in device v < 2 ^ 32 - 1
    → device_finished table names v ≡ finished_as (first_bad device (length table) v) (record_of table device v)
device_finished_is_reading names table v known few =
    let all = steps device (only_table (length table)) [] v in
    let begins = root_begins (only_table (length table)) v in
    let finished = without_counts (first_from (replicate 29 0) all) (record_of table device v) (counts_after (replicate 29 0) all) (finish_at device (device_sizes table names v) v (replicate 29 0)) (root_finished table names v known (replicate 29 0)) in
    finished ∙ ap (λ (first : Option Item). finished_as first (record_of table device v)) (same_first all (replicate 29 0) [] (none_counted 29 refl) begins.of_kinds (omega (arith, begins.many, few)))
