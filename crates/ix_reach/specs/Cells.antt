-- The cells of each declaration, as a table: the first one, and behind each the next one.
use Rattle.std.specs.Prelude.{◌≡◌, ℕ, ◌+◌, ◌<◌, ◌≤◌, List, length, slice_get, Option, Some, None}
use Rattle.ix_rec.specs.declared.netlist.Cell.{Cell}
use Rattle.ix_rec.specs.declared.netlist.CellInstance.{CellInstance}
use Rattle.ix_rec.specs.declared.netlist.NetlistRec.{NetlistRec}
use Rattle.ix_hierarchy.specs.Broken.{HasTwoCells}

-- numbers of declarations and of instances are in their lists
pub record CellsFit (design : NetlistRec) : Type 0 where
  pub within : (k : ℕ) (cell : Cell) → slice_get design.cell_list k ≡ Some cell
      → cell.index < length design.cell_decls

pub record DesignFits (design : NetlistRec) : Type 0 where
  pub cells : CellsFit design
  pub top : design.top_inst.cell < length design.cell_decls
  pub has : (k q instance : ℕ) (cell : Cell) → slice_get design.cell_list k ≡ Some cell
      → slice_get cell.insts q ≡ Some instance → instance < length design.inst_list
  pub inner : (i : ℕ) (inst : CellInstance) → slice_get design.inst_list i ≡ Some inst
      → inst.cell < length design.cell_decls

-- a cell of the declaration stands at the place
abbrev pub IsCellAt : NetlistRec → (declaration place : ℕ) → Type 0
IsCellAt design declaration place =
    (cell : Cell) × (slice_get design.cell_list place ≡ Some cell) × (cell.index ≡ declaration)

-- the first cell of the declaration from a place on, where there is one
abbrev pub IsFirstFrom : NetlistRec → (from declaration : ℕ) → Option ℕ → Type 0
IsFirstFrom design from declaration None =
    (k : ℕ) → from ≤ k → IsCellAt design declaration k → ⊥
IsFirstFrom design from declaration (Some place) = (from ≤ place)
    × IsCellAt design declaration place
    × ((k : ℕ) → from ≤ k → k < place → IsCellAt design declaration k → ⊥)

-- the table, of the cells from a place on
pub record AreCellsFrom (design : NetlistRec) (from : ℕ) (first next : List (Option ℕ)) : Type 0
  where
    pub first_many : length first ≡ length design.cell_decls
    pub next_many : length next ≡ length design.cell_list
    pub first_is : (declaration : ℕ) (place : Option ℕ) → slice_get first declaration ≡ Some place
        → IsFirstFrom design from declaration place
    pub next_is : (k declaration : ℕ) (place : Option ℕ) → from ≤ k
        → IsCellAt design declaration k → slice_get next k ≡ Some place
        → IsFirstFrom design (k + 1) declaration place

abbrev pub AreCells : NetlistRec → (first next : List (Option ℕ)) → Type 0
AreCells design first next = AreCellsFrom design 0 first next

abbrev pub IsLeastWithTwo : NetlistRec → Option ℕ → Type 0
IsLeastWithTwo design None = (declaration : ℕ) → HasTwoCells design declaration → ⊥
IsLeastWithTwo design (Some declaration) = HasTwoCells design declaration
    × ((other : ℕ) → other < declaration → HasTwoCells design other → ⊥)
