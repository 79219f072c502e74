-- Which inputs of a LUT cell are on nets that have sinks.
use Rattle.std.specs.Prelude.{◌≡◌, ◌<◌, ℕ, List, Bool, true, false, not, length, slice_get}
use Rattle.std.specs.Prelude.{Option, Some}
use Rattle.ix_message.specs.Shape.{Text}
use Rattle.ix_rec.specs.declared.device.Constants.{Constants}
use Rattle.ix_rec.specs.declared.netlist.CellInstance.{CellInstance}
use Rattle.ix_rec.specs.declared.netlist.NetlistRec.{NetlistRec}
use Rattle.ix_hierarchy.specs.Hierarchy.{IsLeaf, Path}
use Rattle.ix_hierarchy.specs.Broken.{IsJoined as IsPinJoined}
use Rattle.ix_joined.specs.declared.joined.Joined.{Joined}
use Rattle.ix_joined.specs.declared.pin.LeafPin.{LeafPin}
use Rattle.ix_joined.specs.declared.state.NetState.{NetState}
use Rattle.ix_joined.specs.Joining.{Known, IsJoined}
use Rattle.ix_joined.specs.States.{AreNetStates}

-- a leaf at a path, by its number in preorder, of a design of which this is known
pub record IsGiven (known : Known) (design : NetlistRec) (constants : Option Constants)
    (joined : Joined) (states : List NetState) (instance : ℕ) (path : Path) : Type 0 where
  pub joined_is : IsJoined known design joined
  pub constants_are : constants ≡ known.device.constants
  pub many : length states ≡ length joined.firsts.items
  pub are_states : AreNetStates known design joined states
  pub below : 0 < instance
  pub path_is : slice_get known.paths instance ≡ Some path
  pub inst : CellInstance
  pub leaf : IsLeaf design path inst

-- whether a pin of the leaf with this name is on such a net
abbrev pub IsPin : Known → NetlistRec → Path → Text → Bool → Type 0
IsPin known design path text true = IsPinJoined known.device known.names design path text
IsPin known design path text false = ¬ IsPinJoined known.device known.names design path text

-- inputs by their names: marked are those that are on none
abbrev pub AreOpen : Known → NetlistRec → Path → (inputs : List ℕ) → List Bool → Type 0
AreOpen known design path inputs marks = (input name : ℕ) (text : Text)
    → slice_get inputs input ≡ Some name → slice_get known.names name ≡ Some text
    → (mark : Bool) × (slice_get marks input ≡ Some mark)
    × IsPin known design path text (not mark)

-- whether a pin has a name and is on a net that has a sink
abbrev pub IsFound : List NetState → LeafPin → (name : ℕ) → Bool → Type 0
IsFound states pin name true = (pin.name ≡ name)
    × ((state : NetState) × (slice_get states pin.net ≡ Some state) × (state.has_sink ≡ true))
IsFound states pin name false = pin.name ≡ name → (state : NetState)
    → slice_get states pin.net ≡ Some state → state.has_sink ≡ true → ⊥
