-- The bits of an element's table that a LUT forces, value by value.
use Rattle.std.specs.Prelude.{◌≡◌, ◌<◌, ◌+◌, ◌↔◌, ℕ, List, Contains, slice_index, Bool}
use Rattle.std.specs.Prelude.{bit_and, nat_eq, not}
use Rattle.std.specs.Int.{bit_at}
use Rattle.ix_lut.specs.Places.{LineNumber, LutPlace, Held, ElementBits, Agrees, Allows, Forces}
use Rattle.ix_lut.specs.Tables.{TableBits, InputPlace, InputValues, spelled}
use Rattle.ix_fill_tables.specs.declared.forcing.ForcedBits.{ForcedBits}

-- a bit is forced both ways
abbrev pub clashes : ForcedBits → Bool
clashes forced = not (nat_eq (bit_and forced.ones forced.zeros) 0)

-- an input is used, or its value agrees with what holds its line
abbrev pub AgreesAt : List LineNumber → List InputPlace → Held → InputValues → InputPlace → Type 0
AgreesAt lines places held v j = (Contains places j → ⊥)
    → Allows (held (slice_index lines j)) (bit_at v j)

-- A word has bits of a table that are forced so: all that are by the values below a number.
pub record HasForced (on : LutPlace) (table : TableBits) (held : Held) (upto bit : ℕ)
    (word : ElementBits) : Type 0 where
  pub only : (at : ℕ) → bit_at word at ≡ 1 → Forces on table held at bit
  pub every : (v : InputValues) → v < upto → Agrees on held v
      → bit_at table (spelled on.places v) ≡ bit → bit_at word (on.low + v) ≡ 1

-- those to 1, and those to 0
pub record AreForcedBelow (on : LutPlace) (table : TableBits) (held : Held) (upto : ℕ)
    (forced : ForcedBits) : Type 0 where
  pub ones : HasForced on table held upto 1 forced.ones
  pub zeros : HasForced on table held upto 0 forced.zeros

-- exactly the bits that a LUT forces
pub record AreForcedBits (on : LutPlace) (table : TableBits) (held : Held) (forced : ForcedBits)
    : Type 0 where
  pub ones : (at : ℕ) → (bit_at forced.ones at ≡ 1) ↔ Forces on table held at 1
  pub zeros : (at : ℕ) → (bit_at forced.zeros at ≡ 1) ↔ Forces on table held at 0
