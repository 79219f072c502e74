-- The order of a LUT cell's inputs: by the ports of its declaration, and behind them those inputs
-- that the declaration has no pin for, in the order of the LUT type.
use Rattle.std.specs.Prelude.{◌≡◌, ◌⊎◌, ◌<◌, ℕ, List, Bool, true, length, slice_get, Option}
use Rattle.std.specs.Prelude.{Some, None}
use Rattle.ix_message.specs.Shape.{Text}
use Rattle.ix_rec.specs.declared.netlist.NetlistRec.{NetlistRec}
use Rattle.ix_rec.specs.declared.netlist.Port.{Port}
use Rattle.ix_hierarchy.specs.Hierarchy.{PortNumber, width, written}

-- the bit with this index of the port at this place is written so
pub record IsWrittenAt (names : List Text) (design : NetlistRec) (ports : List PortNumber)
    (place index : ℕ) (text : Text) : Type 0 where
  pub number : PortNumber
  pub which : slice_get ports place ≡ Some number
  pub port : Port
  pub port_is : slice_get design.port_list number ≡ Some port
  pub within : index < width port
  pub text_is : text ≡ written names port index

-- where the input with this number and this written name stands
abbrev pub IsStanding : List Text → NetlistRec → List PortNumber → (input : ℕ) → Text
    → (place index : ℕ) → Type 0
IsStanding names design ports input text place index =
    IsWrittenAt names design ports place index text
    ⊎ (((p i : ℕ) → ¬ IsWrittenAt names design ports p i text) × (place ≡ length ports)
    × (index ≡ input))

abbrev pub IsEarlier : (place index other_place other_index : ℕ) → Type 0
IsEarlier place index other_place other_index =
    (place < other_place) ⊎ ((place ≡ other_place) × (index < other_index))

-- an input of these that is open, by its number, its name and where it stands
pub record StandsOpen (names : List Text) (design : NetlistRec) (ports : List PortNumber)
    (pins : List ℕ) (unjoined : List Bool) (name place index : ℕ) : Type 0 where
  pub input : ℕ
  pub pin : slice_get pins input ≡ Some name
  pub is_open : slice_get unjoined input ≡ Some true
  pub text : Text
  pub named : slice_get names name ≡ Some text
  pub stands : IsStanding names design ports input text place index

-- no open input stands before this one
pub record IsFirstOpen (names : List Text) (design : NetlistRec) (ports : List PortNumber)
    (pins : List ℕ) (unjoined : List Bool) (name : ℕ) : Type 0 where
  pub place : ℕ
  pub index : ℕ
  pub here : StandsOpen names design ports pins unjoined name place index
  pub first : (other p i : ℕ) → StandsOpen names design ports pins unjoined other p i
      → ¬ IsEarlier p i place index

-- which input is told, by its name
abbrev pub AnswersOpen : List Text → NetlistRec → List PortNumber → (pins : List ℕ) → List Bool
    → Option ℕ → Type 0
AnswersOpen names design ports pins unjoined None =
    (input : ℕ) → input < length pins → slice_get unjoined input ≡ Some true → ⊥
AnswersOpen names design ports pins unjoined (Some name) =
    IsFirstOpen names design ports pins unjoined name
