-- From the numbers of a message to its record: what the reader does after the whole message was
-- read, struct by struct in reading order.
use Prim.Native.String.{String}
use Rattle.std.specs.Prelude.{ℕ, ◌+◌, ◌-◌, ◌^◌, min, List, [], ◌∷◌, length, Bool, true, false}
use Rattle.std.specs.Prelude.{nat_lt, codes, Option, Some, None, Result, Ok, Err, if◌then◌else◌}
use Rattle.std.specs.Prelude.{slice_index, slice_set}
use Rattle.ix_frame.specs.Result.{◌>>=◌}
use Rattle.ix_message.specs.Shape.{Text, Target, Kind, Field, field, Struct, Pointers, Value, Parts}
use Rattle.ix_message.specs.Shape.{site_types, tile_types, wires, bel_pins, tile_wires, nothing}
use Rattle.ix_message.specs.Shape.{choice, name, index, site_of_tile, by_tag, struct_of, no_more}
use Rattle.ix_message.specs.Shape.{text, texts, numbers, struct, struct_or_none, boxed, structs}
use Rattle.ix_message.specs.Shape.{branches, string_table, unread, ends}
use Rattle.ix_message.specs.Names.{Datum, the_number, same_text, kind_in, datum_of}
use Rattle.ix_message.specs.Indexes.{Item}
use Rattle.ix_strings.specs.Names.{number_of}

-- how many there are in each list that an index leads into, the texts of the string table and of
-- the names, and the type of the tile around
pub record Sizes : Type 0 where
  pub table : List Text
  pub names : List Text
  pub site_types : ℕ
  pub tile_types : List ℕ
  pub wires : ℕ
  pub bel_pins : ℕ
  pub tile_wires : ℕ
  pub tile_type : ℕ

-- the number is in its list
abbrev pub is_in : Sizes → Kind → ℕ → Bool
is_in z (choice most) n = nat_lt n most
is_in z name n = nat_lt n (length z.table)
is_in z (index site_types) n = nat_lt n z.site_types
is_in z (index tile_types) n = nat_lt n (length z.tile_types)
is_in z (index wires) n = nat_lt n z.wires
is_in z (index bel_pins) n = nat_lt n z.bel_pins
is_in z (index tile_wires) n = nat_lt n z.tile_wires
is_in z (index _) n = false
is_in z site_of_tile n = nat_lt n (slice_index z.tile_types z.tile_type)
is_in z _ n = true

-- The kinds of structs, each with a place among the counts.
abbrev pub device_kinds : List String
device_kinds = "BELPin" ∷ "SitePin" ∷ "BEL" ∷ "SitePIP" ∷ "SiteWire" ∷ "SiteType"
    ∷ "SiteTypeInTileType" ∷ "PIP" ∷ "WireConstantSources" ∷ "TileType" ∷ "Site" ∷ "Tile" ∷ "Wire"
    ∷ "Node" ∷ "SiteTypeBelEntry" ∷ "CellBelPinEntry" ∷ "CommonCellBelPinMaps" ∷ "CellBelMapping"
    ∷ "PackagePin" ∷ "Package" ∷ "SiteConstantSource" ∷ "NodeConstantSource" ∷ "Constants"
    ∷ "LutCell" ∷ "LutBel" ∷ "LutElement" ∷ "SiteTypeLutElements" ∷ "LutDefinitions" ∷ "Device" ∷ []

abbrev pub place_of : List String → String → ℕ
place_of [] kind = 0
place_of (k ∷ ks) kind = if same_text (codes k) (codes kind) then 0 else place_of ks kind + 1

-- one more struct of this kind was begun; a count stays at the greatest number of 32 bits
abbrev pub with_one_more : List ℕ → ℕ → List ℕ
with_one_more counts kind = slice_set counts kind (min (slice_index counts kind + 1) (2 ^ 32 - 1))

abbrev pub begin : String → List ℕ → List ℕ
begin kind counts = with_one_more counts (place_of device_kinds kind)

-- Why there is no record: a number is out of its list, or a text isn't one of the names.
pub data Stopped : Type 0 where
  bad : Item → Stopped
  unnamed : Stopped

-- the field of the last struct of this kind
abbrev pub field_at : List ℕ → ℕ → Text → Text → Item
field_at counts place kind called = record {
  kind = kind;
  field = called;
  index = slice_index counts place - 1;
}

-- the number, where it is below this
abbrev pub below : List ℕ → ℕ → Text → Text → ℕ → ℕ → Result Datum Stopped
below counts place kind called limit n = if nat_lt n limit then Ok (the_number n)
    else Err (bad (field_at counts place kind called))

abbrev pub asked_at : Sizes → List ℕ → ℕ → Text → Text → Kind → ℕ → Result Datum Stopped
asked_at z counts place kind called k n =
    if is_in z k n then Ok (datum_of z.table k n) else Err (bad (field_at counts place kind called))

abbrev pub asked : Sizes → List ℕ → String → String → Kind → ℕ → Result Datum Stopped
asked z counts kind called k n = asked_at z counts (place_of device_kinds kind) (codes kind)
    (codes called) k n

-- the data fields of a struct, in order
unfoldable pub finish_row : Sizes → List ℕ → String → List ℕ → List Field → List ℕ
    → Result (List Datum) Stopped
finish_row z counts kind row (f ∷ fs) (n ∷ ns) = do
  first ← asked z counts kind f.called (kind_in row f.kind) n
  others ← finish_row z counts kind row fs ns
  Ok (first ∷ others)
finish_row z counts kind row [] ns = Ok []
finish_row z counts kind row (f ∷ fs) [] = Ok []

-- The fields of a BEL from its inversion's tag on, and those of a package pin from its site's tag
-- on.
abbrev pub inversion_asked : Sizes → List ℕ → ℕ → ℕ → ℕ → Result (List Datum) Stopped
inversion_asked z counts tag a b =
    finish_row z counts "BEL" (0 ∷ 0 ∷ tag ∷ a ∷ b ∷ []) (field "inversion_tag" (choice 2)
    ∷ field "nonInvertingPin" (by_tag 2 1 (index bel_pins) nothing)
    ∷ field "invertingPin" (by_tag 2 1 (index bel_pins) nothing) ∷ []) (tag ∷ a ∷ b ∷ [])

abbrev pub site_asked : Sizes → List ℕ → ℕ → ℕ → Result (List Datum) Stopped
site_asked z counts tag site =
    finish_row z counts "PackagePin" (0 ∷ tag ∷ site ∷ []) (field "site_tag" (choice 2)
    ∷ field "site" (by_tag 1 1 name nothing) ∷ []) (tag ∷ site ∷ [])

-- each item of a list
unfoldable pub each_alone : {A B : Type 0} → (A → Result B Stopped) → List A
    → Result (List B) Stopped
each_alone ask [] = Ok []
each_alone ask (x ∷ xs) = do
  first ← ask x
  others ← each_alone ask xs
  Ok (first ∷ others)

-- a text is one of the names
abbrev pub when_known : Option ℕ → Text → Result Text Stopped
when_known (Some id) t = Ok t
when_known None t = Err unnamed

abbrev pub known : Sizes → Text → Result Text Stopped
known z t = when_known (number_of z.names t) t

-- each struct of a list, with the counts so far
unfoldable pub finish_each : {A B : Type 0} → (A → List ℕ → Result (B × List ℕ) Stopped) → List A
    → List ℕ → Result (List B × List ℕ) Stopped
finish_each finish [] counts = Ok ([], counts)
finish_each finish (x ∷ xs) counts = do
  first ← finish x counts
  others ← finish_each finish xs first.1
  Ok (first.0 ∷ others.0, others.1)

unfoldable pub finish_option : {A B : Type 0} → (A → List ℕ → Result (B × List ℕ) Stopped)
    → Option A → List ℕ → Result (Option B × List ℕ) Stopped
finish_option finish None counts = Ok (None, counts)
finish_option finish (Some x) counts = do
  one ← finish x counts
  Ok (Some one.0, one.1)

-- the lists of a struct that indexes within it lead into
abbrev pub with_size : Target → ℕ → Sizes → Sizes
with_size bel_pins n z = record z { bel_pins = n }
with_size tile_wires n z = record z { tile_wires = n }
with_size _ n z = z

abbrev pub inner_sizes : (ps : Pointers) → Parts ℕ ps → Sizes → Sizes
inner_sizes no_more v z = z
inner_sizes (text c ps) v z = inner_sizes ps v.1 z
inner_sizes (texts c ps) v z = inner_sizes ps v.1 z
inner_sizes (numbers c target kind ps) v z = inner_sizes ps v.1 (with_size target (length v.0) z)
inner_sizes (struct c s ps) v z = inner_sizes ps v.1 z
inner_sizes (struct_or_none c s ps) v z = inner_sizes ps v.1 z
inner_sizes (boxed c kind inner s ps) v z = inner_sizes ps v.1 z
inner_sizes (structs c target s ps) v z = inner_sizes ps v.1 (with_size target (length v.0) z)
inner_sizes (branches c kind fields ps) v z = inner_sizes ps v.1 z
inner_sizes (string_table c ps) v z = inner_sizes ps v z
inner_sizes (unread c ps) v z = inner_sizes ps v z

-- A struct: its data fields before what is behind its pointers.
unfoldable mutual
  pub finish_at : (s : Struct) → Sizes → Value ℕ s → List ℕ
      → Result (Value Datum s × List ℕ) Stopped
  finish_at (struct_of kind fields ps) z v counts = do
    row ← finish_row z (begin kind counts) kind v.0 fields v.0
    parts ← finish_parts ps kind (inner_sizes ps v.1 (record z { tile_type = slice_index v.0 1 }))
        v.1 (begin kind counts)
    Ok ((row, parts.0), parts.1)

  pub finish_parts : (ps : Pointers) → String → Sizes → Parts ℕ ps → List ℕ
      → Result (Parts Datum ps × List ℕ) Stopped
  finish_parts no_more kind z v counts = Ok (tt, counts)
  finish_parts (text c ps) kind z v counts = do
    here ← known z v.0
    rest ← finish_parts ps kind z v.1 counts
    Ok ((here, rest.0), rest.1)
  finish_parts (texts c ps) kind z v counts = do
    here ← each_alone (known z) v.0
    rest ← finish_parts ps kind z v.1 counts
    Ok ((here, rest.0), rest.1)
  finish_parts (numbers c target k ps) kind z v counts = do
    here ← each_alone (asked z counts kind c k) v.0
    rest ← finish_parts ps kind z v.1 counts
    Ok ((here, rest.0), rest.1)
  finish_parts (struct c s ps) kind z v counts = do
    here ← finish_at s z v.0 counts
    rest ← finish_parts ps kind z v.1 here.1
    Ok ((here.0, rest.0), rest.1)
  finish_parts (struct_or_none c s ps) kind z v counts = do
    here ← finish_option (finish_at s z) v.0 counts
    rest ← finish_parts ps kind z v.1 here.1
    Ok ((here.0, rest.0), rest.1)
  finish_parts (boxed c box inner s ps) kind z v counts = do
    here ← finish_each (finish_at s z) v.0 counts
    rest ← finish_parts ps kind z v.1 here.1
    Ok ((here.0, rest.0), rest.1)
  finish_parts (structs c target s ps) kind z v counts = do
    here ← finish_each (finish_at s z) v.0 counts
    rest ← finish_parts ps kind z v.1 here.1
    Ok ((here.0, rest.0), rest.1)
  finish_parts (branches c k fields ps) kind z v counts = do
    rest ← finish_parts ps kind z v.1 counts
    Ok ((ends, rest.0), rest.1)
  finish_parts (string_table c ps) kind z v counts = finish_parts ps kind z v counts
  finish_parts (unread c ps) kind z v counts = finish_parts ps kind z v counts
