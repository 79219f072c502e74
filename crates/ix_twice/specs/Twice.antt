-- The rule N2 in the walk.
use Rattle.std.specs.Prelude.{◌≡◌, ℕ, List, slice_get, Some}
use Rattle.ix_message.specs.Shape.{Text}
use Rattle.ix_rec.specs.declared.netlist.Cell.{Cell}
use Rattle.ix_rec.specs.declared.netlist.Net.{Net}
use Rattle.ix_rec.specs.declared.netlist.NetlistRec.{NetlistRec}
use Rattle.ix_hierarchy.specs.Hierarchy.{Path, inside_at}
use Rattle.ix_hierarchy.specs.Walk.{Spot, NetAt, IsFirst}
use Rattle.ix_hierarchy.specs.Broken.{BreaksN2}

-- No net breaks the rule.
abbrev pub NoneBroken : List Text → NetlistRec → Type 0
NoneBroken names design = (spot : Spot) → ¬ BreaksN2 names design spot

-- The first net in the walk that breaks the rule, by its cell and its place there.
pub record IsFirstBroken (names : List Text) (design : NetlistRec) (place net : ℕ) : Type 0 where
  pub path : Path
  pub cell : Cell
  pub cell_is : slice_get design.cell_list place ≡ Some cell
  pub inside : inside_at design path ≡ Some cell
  pub of_net : Net
  pub net_is : slice_get cell.nets net ≡ Some of_net
  pub first : IsFirst (BreaksN2 names design) (NetAt path net)
