-- Where inputs stand, as the code has it.
use Rattle.std.specs.Prelude.{◌≡◌, ◌⊎◌, ◌<◌, ◌&&◌, ◌||◌, ℕ, List, Bool, true, nat_eq, nat_lt}
use Rattle.std.specs.Prelude.{slice_get, Option, Some, None}
use Rattle.ix_message.specs.Shape.{Text}
use Rattle.ix_rec.specs.declared.netlist.NetlistRec.{NetlistRec}
use Rattle.ix_hierarchy.specs.Hierarchy.{PortNumber}
use Rattle.ix_open_inputs.specs.declared.first.Best.{Best}
use Rattle.ix_open_inputs.specs.declared.first.Standing.{Standing}
use Rattle.ix_open_inputs.specs.Standings.{IsEarlier, IsStanding, StandsOpen}

abbrev pub is_earlier : Standing → Standing → Bool
is_earlier one other = nat_lt one.place other.place
    || (nat_eq one.place other.place && nat_lt one.index other.index)

-- an input stands here, and nowhere before
pub record IsFirstStanding (names : List Text) (design : NetlistRec) (ports : List PortNumber)
    (input : ℕ) (text : Text) (at : Standing) : Type 0 where
  pub stands : IsStanding names design ports input text at.place at.index
  pub first : (place index : ℕ) → IsStanding names design ports input text place index
      → ¬ IsEarlier place index at.place at.index

-- the one of two that stands first
abbrev pub IsBetter : Option Best → (other result : Best) → Type 0
IsBetter None other result = result ≡ other
IsBetter (Some best) other result =
    ((result ≡ other) × (is_earlier other.at best.at ≡ true))
    ⊎ ((result ≡ best) × ¬ (is_earlier other.at best.at ≡ true))

-- the best of the first so many inputs
pub record IsBestOf (names : List Text) (design : NetlistRec) (ports : List PortNumber)
    (pins : List ℕ) (unjoined : List Bool) (count : ℕ) (best : Best) : Type 0 where
  pub here : StandsOpen names design ports pins unjoined best.name best.at.place best.at.index
  pub first : (name place index : ℕ)
      → (other : StandsOpen names design ports pins unjoined name place index)
      → other.input < count → ¬ IsEarlier place index best.at.place best.at.index

abbrev pub IsBest : List Text → NetlistRec → List PortNumber → (pins : List ℕ) → List Bool
    → (count : ℕ) → Option Best → Type 0
IsBest names design ports pins unjoined count None =
    (input : ℕ) → input < count → slice_get unjoined input ≡ Some true → ⊥
IsBest names design ports pins unjoined count (Some best) =
    IsBestOf names design ports pins unjoined count best
