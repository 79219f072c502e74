-- Truth tables, and the values of inputs.
use Rattle.std.specs.Prelude.{◌≢◌, ℕ, ◌+◌, ◌*◌, ◌^◌, ◌<◌, List, [], ◌∷◌, length}
use Rattle.std.specs.Prelude.{slice_index}
use Rattle.std.specs.Int.{bit_at}

-- the bits of a table: bit `n` is the output where the inputs spell `n`, input 0 least significant
abbrev pub TableBits : Type 0
TableBits = ℕ

-- the values of some inputs, as the number that they spell: bit `i` is the value of input `i`
abbrev pub InputValues : Type 0
InputValues = ℕ

-- the place of an input among a BEL's inputs
abbrev pub InputPlace : Type 0
InputPlace = ℕ

-- a truth table of this many inputs
abbrev pub IsTable : ℕ → TableBits → Type 0
IsTable inputs bits = bits < 2 ^ (2 ^ inputs)

-- what the inputs at these places spell, the first of them least significant, where all inputs
-- have the values `v`
abbrev pub spelled : List InputPlace → InputValues → InputValues
spelled [] v = 0
spelled (place ∷ places) v = bit_at v place + 2 * spelled places v

-- no number is twice in the list
abbrev pub AllDiffer : List ℕ → Type 0
AllDiffer xs = (a b : ℕ) → a < b → b < length xs → slice_index xs a ≢ slice_index xs b

-- different places of `inputs` inputs
pub record ArePlaces (inputs : ℕ) (places : List InputPlace) : Type 0 where
  pub within : (i : ℕ) → i < length places → slice_index places i < inputs
  pub differ : AllDiffer places
