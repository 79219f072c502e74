-- A LUT on a BEL of a LUT element: the bits that it forces, and its function.
use Rattle.std.specs.Prelude.{◌≡◌, ℕ, ◌+◌, ◌^◌, ◌<◌, List, length, Contains, slice_index}
use Rattle.std.specs.Int.{bit_at}
use Rattle.ix_lut.specs.Tables.{TableBits, InputValues, InputPlace, spelled}
use Rattle.ix_lut.specs.declared.shape.Tie.{Tie}
use Rattle.ix_lut.specs.declared.shape.Tie.TheVariants.{Free, Vcc, Gnd}

-- a line of an element, by number
abbrev pub LineNumber : Type 0
LineNumber = ℕ

-- the bits of an element's table, as a number
abbrev pub ElementBits : Type 0
ElementBits = ℕ

-- what holds each line of an element: a constant, or none
abbrev pub Held : Type 0
Held = LineNumber → Tie

-- a LUT on a BEL: the bit of the element's table from which the BEL reads, the line of each of the
-- BEL's inputs, and for each input of the cell its place among the BEL's inputs
pub record LutPlace : Type 0 where
  pub low : ℕ
  pub lines : List LineNumber
  pub places : List InputPlace

-- a wire that is so held may have this value
abbrev pub Allows : Tie → ℕ → Type 0
Allows Free value = Unit {0}
Allows Vcc value = value ≡ 1
Allows Gnd value = value ≡ 0

-- the values `v` of all the BEL's inputs agree with the constants that hold the lines of the inputs
-- that the cell doesn't use
pub record Agrees (lut : LutPlace) (held : Held) (v : InputValues) : Type 0 where
  pub within : v < 2 ^ length lut.lines
  pub unused : (j : InputPlace) → j < length lut.lines → (Contains lut.places j → ⊥) →
      Allows (held (slice_index lut.lines j)) (bit_at v j)

-- for the cell to have this table as its function, the bit `at` of the element's table has to be
-- `bit`: it is read at some values that agree with the constants
pub record Forces (lut : LutPlace) (table : TableBits) (held : Held) (at bit : ℕ) : Type 0 where
  pub v : InputValues
  pub agrees : Agrees lut held v
  pub read : lut.low + v ≡ at
  pub value : bit_at table (spelled lut.places v) ≡ bit

-- with these bits of the element the cell has this table as its function: whatever the values of
-- the inputs that it doesn't use, as long as they agree with the constants
abbrev pub GivesFunction : LutPlace → Held → ElementBits → TableBits → Type 0
GivesFunction lut held bits table = (v : InputValues) → Agrees lut held v →
    bit_at bits (lut.low + v) ≡ bit_at table (spelled lut.places v)

-- the cell has no function: two of the bits that it reads for one value of its own inputs differ
pub record HasNoFunction (lut : LutPlace) (held : Held) (bits : ElementBits) : Type 0 where
  pub v : InputValues
  pub w : InputValues
  pub v_agrees : Agrees lut held v
  pub w_agrees : Agrees lut held w
  pub same_inputs : spelled lut.places v ≡ spelled lut.places w
  pub zero : bit_at bits (lut.low + v) ≡ 0
  pub one : bit_at bits (lut.low + w) ≡ 1
