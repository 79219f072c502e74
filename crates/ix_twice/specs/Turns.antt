-- The rule N2 in cells, in the order of their declarations.
use Rattle.std.specs.Prelude.{◌≡◌, ◌⊎◌, ◌<◌, ℕ, List, slice_get, Some}
use Rattle.ix_message.specs.Shape.{Text}
use Rattle.ix_rec.specs.declared.netlist.Cell.{Cell}
use Rattle.ix_rec.specs.declared.netlist.NetlistRec.{NetlistRec}
use Rattle.ix_hierarchy.specs.Broken.{IsOnTwo, IsWrittenTwice}
use Rattle.ix_hierarchy.specs.Lists.{first_cell}

-- a net of a cell has a port bit that is on two nets, or the second bit of one written name
abbrev pub IsTwice : List Text → NetlistRec → Cell → (net : ℕ) → Type 0
IsTwice names design cell net = IsOnTwo cell net ⊎ IsWrittenTwice names design cell net

-- the same, by the cell's place in the netlist's list
abbrev pub IsTwiceAt : List Text → NetlistRec → (place net : ℕ) → Type 0
IsTwiceAt names design place net = (cell : Cell)
    × (slice_get design.cell_list place ≡ Some cell) × IsTwice names design cell net

-- no cell of the first so many declarations has such a net
abbrev pub NoneTwice : List Text → NetlistRec → (met : List ℕ) → (turns : ℕ) → Type 0
NoneTwice names design met turns = (turn declaration place net : ℕ) → turn < turns
    → slice_get met turn ≡ Some declaration → first_cell design declaration ≡ Some place
    → ¬ IsTwiceAt names design place net

-- the first cell that has one, and its first such net
pub record IsFirstTwice (names : List Text) (design : NetlistRec) (met : List ℕ)
    (place net : ℕ) : Type 0 where
  pub turn : ℕ
  pub declaration : ℕ
  pub met_is : slice_get met turn ≡ Some declaration
  pub cell_is : first_cell design declaration ≡ Some place
  pub earlier : NoneTwice names design met turn
  pub twice : IsTwiceAt names design place net
  pub first : (other : ℕ) → other < net → ¬ IsTwiceAt names design place other
