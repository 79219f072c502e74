-- Which declarations are leaves of unknown type or have one in them.
use Rattle.std.specs.Prelude.{◌≡◌, ◌<◌, ◌⊎◌, ◌↔◌, ℕ, List, [], ◌∷◌, slice_get, Some, Bool, true}
use Rattle.std.specs.Prelude.{length, cond, nat_eq, suc}
use Rattle.ix_rec.specs.declared.netlist.Cell.{Cell}
use Rattle.ix_rec.specs.declared.netlist.CellInstance.{CellInstance}
use Rattle.ix_rec.specs.declared.netlist.NetlistRec.{NetlistRec}
use Rattle.ix_hierarchy.specs.declared.kind.Kind.{Kind}
use Rattle.ix_hierarchy.specs.declared.kind.Kind.TheVariants.{Unknown}
use Rattle.ix_hierarchy.specs.Hierarchy.{Path, inside}

-- the instance at a place of a cell
pub record IsPlaced (design : NetlistRec) (cell : Cell) (place : ℕ) (inst : CellInstance) : Type 0
  where
    pub number : ℕ
    pub which : slice_get cell.insts place ≡ Some number
    pub in_list : slice_get design.inst_list number ≡ Some inst

-- its declaration is marked
pub record IsMarked (design : NetlistRec) (marks : List Bool) (cell : Cell) (place : ℕ) : Type 0
  where
    pub inst : CellInstance
    pub placed : IsPlaced design cell place inst
    pub marked : slice_get marks inst.cell ≡ Some true

-- a leaf of unknown type is on a path below a declaration
abbrev pub IsUnknownAt : NetlistRec → List Kind → (declaration : ℕ) → Path → Type 0
IsUnknownAt design kinds declaration [] = slice_get kinds declaration ≡ Some Unknown
IsUnknownAt design kinds declaration (place ∷ path) = (cell : Cell) × (inst : CellInstance)
    × (inside design declaration ≡ Some cell) × IsPlaced design cell place inst
    × IsUnknownAt design kinds inst.cell path

abbrev pub HasUnknown : NetlistRec → List Kind → (declaration : ℕ) → Type 0
HasUnknown design kinds declaration = (path : Path) × IsUnknownAt design kinds declaration path

-- it is one itself, or what is at a place of its cell is marked
abbrev pub HasMarked : NetlistRec → List Kind → List Bool → (declaration : ℕ) → Type 0
HasMarked design kinds marks declaration = (slice_get kinds declaration ≡ Some Unknown)
    ⊎ ((cell : Cell) × (place : ℕ) × (inside design declaration ≡ Some cell)
    × IsMarked design marks cell place)

-- so many of these declarations are marked where they have such a leaf, and only there
pub record AreMarked (design : NetlistRec) (kinds : List Kind) (closed : List ℕ)
    (marks : List Bool) (count : ℕ) : Type 0 where
  pub many : length marks ≡ length kinds
  pub each : (i declaration : ℕ) → i < count → slice_get closed i ≡ Some declaration
      → (slice_get marks declaration ≡ Some true) ↔ HasUnknown design kinds declaration

-- none of the places before one is marked
abbrev pub NoneMarked : NetlistRec → List Bool → Cell → (count : ℕ) → Type 0
NoneMarked design marks cell count =
    (place : ℕ) → place < count → ¬ IsMarked design marks cell place

-- the first place of a number in a list
abbrev pub place_of : (n : ℕ) → List ℕ → ℕ
place_of n [] = 0
place_of n (x ∷ xs) = cond (nat_eq x n) 0 (suc (place_of n xs))
