-- Leaves by their numbers.
use Rattle.std.specs.Prelude.{◌≡◌, ℕ, slice_get, Some}
use Rattle.ix_rec.specs.declared.netlist.CellInstance.{CellInstance}
use Rattle.ix_rec.specs.declared.netlist.NetlistRec.{NetlistRec}
use Rattle.ix_hierarchy.specs.Hierarchy.{Path}
use Rattle.ix_hierarchy.specs.Pins.{IsPlainLeaf}
use Rattle.ix_joined.specs.declared.joined.Joined.{Joined}
use Rattle.ix_joined.specs.Joining.{Known, IsJoined}

-- a leaf that is a cell, by its number in preorder
pub record IsPlainAt (known : Known) (design : NetlistRec) (joined : Joined) (instance : ℕ)
    (path : Path) (inst : CellInstance) (ty : ℕ) : Type 0 where
  pub joined_is : IsJoined known design joined
  pub path_is : slice_get known.paths instance ≡ Some path
  pub plain : IsPlainLeaf known.device design path inst ty
