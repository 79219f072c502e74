-- How the text of a bus bit is taken apart.
use Rattle.std.specs.Prelude.{◌≡◌, ◌≢◌, ◌<◌, ◌^◌, ℕ, List, [], ◌∷◌, ◌++◌, Option, Some, None}
use Rattle.std.specs.Prelude.{slice_index_or}
use Rattle.std.specs.Fmt.{decimal}
use Rattle.ix_message.specs.Shape.{Text}
use Rattle.ix_rec.specs.declared.netlist.Port.{Port}
use Rattle.ix_hierarchy.specs.Hierarchy.{width, written}

-- the text of a bus bit whose index is written so
abbrev pub bit_written : (name digits : Text) → Text
bit_written name digits = name ++ (91 ∷ (digits ++ (93 ∷ [])))

-- digits are a number of 32 bits as it is written, or they are none
abbrev pub IsNumberOf : Text → Option ℕ → Type 0
IsNumberOf digits (Some index) = digits ≡ decimal index
IsNumberOf digits None = (index : ℕ) → index < 2 ^ 32 → digits ≢ decimal index

-- a name is the written name of the port's bit with this index; none where no bit is written so
abbrev pub IsIndexIn : List Text → Port → (name : ℕ) → Option ℕ → Type 0
IsIndexIn names port name (Some index) =
    (index < width port) × (slice_index_or names name [] ≡ written names port index)
IsIndexIn names port name None = (index : ℕ) → index < width port
    → slice_index_or names name [] ≢ written names port index

-- the same of a bus and a text
abbrev pub bus_written : List Text → Port → (index : ℕ) → Text
bus_written names port index = bit_written (slice_index_or names port.name []) (decimal index)

abbrev pub IsBusIndexIn : List Text → Port → Text → Option ℕ → Type 0
IsBusIndexIn names port text (Some index) =
    (index < width port) × (text ≡ bus_written names port index)
IsBusIndexIn names port text None =
    (index : ℕ) → index < width port → text ≢ bus_written names port index
