use Rattle.std.proofs.Common.{◌≡◌, ◌≤◌, ℕ, Some}
use Rattle.std.specs.Prelude.{slice_get}
use Rattle.ix_rec.specs.declared.netlist.CellInstance.{CellInstance}
use Rattle.ix_hierarchy.specs.Hierarchy.{Path}
use Rattle.ix_hierarchy.specs.Pins.{IsPlainLeaf}
use Rattle.ix_joined.specs.Joining.{Known}
use Rattle.ix_flat_pins.specs.Items.{Adds, IsReady, IsRowPin, Parts}
use Rattle.ix_flat_pins.proofs.leaves.put_leaf.Given as goal

abbrev pub invariant-loop-place : goal.invariant-loop-place
invariant-loop-place l = record {
  from : l.start ≤ l.place;
  adds : (known : Known) (parts : Parts) (path : Path) (inst : CellInstance) (ty : ℕ)
      → IsReady known l.rec l.joined l.constants l.states l.numbers parts
      → slice_get known.paths l.instance ≡ Some path → IsPlainLeaf known.device l.rec path inst ty
      → Adds known l.rec parts (IsRowPin l.joined path l.start l.place l.cell) l.initial.items.items l.items.items;
}
