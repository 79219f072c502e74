-- The net inside an instance that names the same port bit as a net around it.
use Rattle.std.specs.Prelude.{◌≡◌, ◌≤◌, ℕ, List, length, true, slice_get, Option, Some, None}
use Rattle.ix_rec.specs.declared.netlist.Cell.{Cell}
use Rattle.ix_rec.specs.declared.netlist.CellInstance.{CellInstance}
use Rattle.ix_rec.specs.declared.netlist.Net.{Net}
use Rattle.ix_rec.specs.declared.netlist.NetlistRec.{NetlistRec}
use Rattle.ix_hierarchy.specs.declared.row.Row.{Row}
use Rattle.ix_hierarchy.specs.Hierarchy.{PortBit, inside}
use Rattle.ix_hierarchy.specs.Nets.{names_own}
use Rattle.ix_hierarchy.specs.Broken.{Reaches}
use Rattle.ix_hierarchy.specs.Lists.{bit_in}

-- a net of a declaration's cell that names a bit of the cell itself
pub record NamesInside (design : NetlistRec) (declaration : ℕ) (bit : PortBit) (net : ℕ) : Type 0
  where
    pub cell : Cell
    pub cell_is : inside design declaration ≡ Some cell
    pub of_net : Net
    pub net_is : slice_get cell.nets net ≡ Some of_net
    pub names : names_own of_net bit ≡ true

-- the first net inside a declaration that names the bit, where there is one
abbrev pub IsInner : NetlistRec → (declaration : ℕ) → PortBit → Option ℕ → Type 0
IsInner design declaration bit (Some net) = NamesInside design declaration bit net
    × ((other : ℕ) → NamesInside design declaration bit other → net ≤ other)
IsInner design declaration bit None = (net : ℕ) → ¬ NamesInside design declaration bit net

-- for each row of an instance that the top reaches the net inside it
pub record AreInner (design : NetlistRec) (rows : List Row) (inner : List (Option ℕ)) : Type 0 where
  pub many : length inner ≡ length rows
  pub each : (k : ℕ) (row : Row) (net : Option ℕ) (inst : CellInstance)
      → slice_get rows k ≡ Some row → slice_get inner k ≡ Some net
      → slice_get design.inst_list row.instance ≡ Some inst
      → Reaches design design.top_inst.cell inst.cell
      → IsInner design inst.cell (bit_in row) net
