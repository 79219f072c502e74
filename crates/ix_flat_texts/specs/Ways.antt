-- Ways through the hierarchy: to an instance, and up from one.
use Rattle.std.specs.Prelude.{◌≡◌, ◌<◌, ℕ, List, [], ◌∷◌, ◌++◌, map, slice_get, Some, Bool}
use Rattle.std.specs.Prelude.{if◌then◌else◌, codes}
use Rattle.ix_message.specs.Shape.{Text}
use Rattle.ix_rec.specs.declared.netlist.CellInstance.{CellInstance}
use Rattle.ix_rec.specs.declared.netlist.NetlistRec.{NetlistRec}
use Rattle.ix_hierarchy.specs.declared.instance.Instance.{Instance}
use Rattle.ix_hierarchy.specs.Hierarchy.{Path, along}

-- the instances on a path, by their numbers in the netlist's list
pub record IsWayTo (design : NetlistRec) (path : Path) (way : List ℕ) : Type 0 where
  pub insts : List CellInstance
  pub are_along : along design design.top_inst path ≡ Some insts
  pub numbers : map (slice_get design.inst_list) way ≡ map (λ inst. Some inst) insts

-- What private contracts need.

-- each is in the next one, from the first up to the last, which isn't listed
abbrev pub IsUp : List Instance → (from : ℕ) → List ℕ → (to : ℕ) → Type 0
IsUp all from [] to = from ≡ to
IsUp all from (at ∷ way) to = (one : Instance) × (at ≡ from) × (0 < from)
    × (slice_get all from ≡ Some one) × IsUp all one.parent way to

-- a name behind a slash, where it isn't the first
abbrev pub behind : (first : Bool) → Text → Text → Text
behind first text name = if first then text ++ name else text ++ codes "/" ++ name
