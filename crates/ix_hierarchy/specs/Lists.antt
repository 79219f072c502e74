-- A design in lists by number, as the steps of flattening hand it on: cells of declarations, what
-- declarations are, the port bits that nets name, the instances and the occurrences of nets.
use Rattle.std.specs.Prelude.{◌≡◌, ◌⊎◌, ◌<◌, ◌≤◌, ◌+◌, ◌-◌, ◌↔◌, ℕ, List, [], ◌∷◌, ◌++◌, length}
use Rattle.std.specs.Prelude.{Option, Some, None, slice_get, take, drop, nat_eq, true, Contains}
use Rattle.std.specs.List.{list_any, position}
use Rattle.ix_message.specs.Shape.{Text}
use Rattle.ix_rec.specs.declared.device.DeviceRec.{DeviceRec}
use Rattle.ix_rec.specs.declared.netlist.Cell.{Cell}
use Rattle.ix_rec.specs.declared.netlist.CellDeclaration.{CellDeclaration}
use Rattle.ix_rec.specs.declared.netlist.CellInstance.{CellInstance}
use Rattle.ix_rec.specs.declared.netlist.Net.{Net}
use Rattle.ix_rec.specs.declared.netlist.NetlistRec.{NetlistRec}
use Rattle.ix_hierarchy.specs.declared.instance.Instance.{Instance}
use Rattle.ix_hierarchy.specs.declared.kind.Kind.{Kind}
use Rattle.ix_hierarchy.specs.declared.kind.Kind.TheVariants.{Inside, Constant, Plain, Unknown}
use Rattle.ix_hierarchy.specs.declared.row.Row.{Row}
use Rattle.ix_hierarchy.specs.Hierarchy.{DeclarationNumber, Path, PortBit, inside_at, instance_at}
use Rattle.ix_hierarchy.specs.Hierarchy.{written_bit}
use Rattle.ix_hierarchy.specs.Walk.{InstanceAt, IsBefore, IsLess}
use Rattle.ix_hierarchy.specs.Nets.{Occurrence, Occurs, AreOneNet, IsFirstOf, names_own, names_of}
use Rattle.ix_hierarchy.specs.Pins.{constant_of_type}
use Rattle.ix_hierarchy.specs.Broken.{Contains as IsIn, Reaches, IsUnknownType}

-- Cells.

-- the place of the first cell of a declaration
abbrev pub first_cell : NetlistRec → DeclarationNumber → Option ℕ
first_cell design declaration = position (λ cell. nat_eq cell.index declaration) design.cell_list

-- the first cell of each declaration
pub record AreFirstCells (design : NetlistRec) (cells : List (Option ℕ)) : Type 0 where
  pub many : length cells ≡ length design.cell_decls
  pub each : (declaration : ℕ) → declaration < length design.cell_decls
      → slice_get cells declaration ≡ Some (first_cell design declaration)

-- The declarations that the top reaches, each once, and each behind all that it contains.
pub record AreClosed (design : NetlistRec) (closed : List ℕ) : Type 0 where
  pub reached : (declaration : ℕ)
      → Contains closed declaration ↔ Reaches design design.top_inst.cell declaration
  pub differ : (i j declaration : ℕ) → slice_get closed i ≡ Some declaration
      → slice_get closed j ≡ Some declaration → i ≡ j
  pub behind : (i outer inner : ℕ) → slice_get closed i ≡ Some outer → IsIn design outer inner
      → Contains (take i closed) inner

-- The first instance of a declaration in the walk: no instance of these declarations stands before
-- it.
pub record IsFirstOfThese (design : NetlistRec) (these : List ℕ) (declaration : ℕ) (path : Path)
    : Type 0 where
  pub inst : CellInstance
  pub is : instance_at design path ≡ Some inst
  pub of_it : inst.cell ≡ declaration
  pub first : (other : Path) (one : CellInstance) → instance_at design other ≡ Some one
      → Contains these one.cell → (path ≡ other) ⊎ IsBefore (InstanceAt path) (InstanceAt other)

-- The declarations that the top reaches, each once, in the order in which the walk meets them: each
-- has an instance before all instances of those behind it.
pub record AreMet (design : NetlistRec) (met : List ℕ) : Type 0 where
  pub reached : (declaration : ℕ)
      → Contains met declaration ↔ Reaches design design.top_inst.cell declaration
  pub differ : (i j declaration : ℕ) → slice_get met i ≡ Some declaration
      → slice_get met j ≡ Some declaration → i ≡ j
  pub first : (n declaration : ℕ) → slice_get met n ≡ Some declaration
      → (path : Path) × IsFirstOfThese design (drop n met) declaration path

-- Kinds.

abbrev pub IsLeafType : NetlistRec → (declaration ty : ℕ) → Type 0
IsLeafType design declaration ty = (first_cell design declaration ≡ None)
    × ((declared : CellDeclaration) × (slice_get design.cell_decls declaration ≡ Some declared)
    × (declared.name ≡ ty))

-- the device's map has the type
abbrev pub IsMapped : DeviceRec → (ty : ℕ) → Type 0
IsMapped rec ty = list_any (λ m. nat_eq m.cell ty) rec.cell_bel_map ≡ true

abbrev pub IsKind : DeviceRec → NetlistRec → (declaration : ℕ) → Kind → Type 0
IsKind rec design declaration (Inside cell) = first_cell design declaration ≡ Some cell
IsKind rec design declaration (Constant constant) = (ty : ℕ) × IsLeafType design declaration ty
    × (constant_of_type rec ty ≡ Some constant)
IsKind rec design declaration Plain = (ty : ℕ) × IsLeafType design declaration ty
    × (constant_of_type rec ty ≡ None) × IsMapped rec ty
IsKind rec design declaration Unknown =
    (ty : ℕ) × IsLeafType design declaration ty × IsUnknownType rec ty

-- what each declaration is
pub record AreKinds (rec : DeviceRec) (design : NetlistRec) (kinds : List Kind) : Type 0 where
  pub many : length kinds ≡ length design.cell_decls
  pub each : (declaration : ℕ) (kind : Kind) → slice_get kinds declaration ≡ Some kind
      → IsKind rec design declaration kind

-- Rows.

abbrev pub bit_in : Row → PortBit
bit_in row = record { port = row.port; index = row.index }

-- a net of the cell names this bit of the cell itself
abbrev pub IsOwnRow : Cell → Row → Type 0
IsOwnRow cell row = (row.instance ≡ 0)
    × ((net : Net) × (slice_get cell.nets row.net ≡ Some net)
    × (names_own net (bit_in row) ≡ true))

-- a net of the cell names this bit of an instance in it
abbrev pub IsOuterRow : Cell → Row → Type 0
IsOuterRow cell row = (net : Net) × (slice_get cell.nets row.net ≡ Some net)
    × (names_of row.instance net (bit_in row) ≡ true)

abbrev pub row_key : Row → List ℕ
row_key row = row.instance ∷ row.port ∷ row.index ∷ row.net ∷ []

-- all of these rows, each once and rising
pub record AreAllRows (Is : Row → Type 0) (rows : List Row) : Type 0 where
  pub each : (k : ℕ) (row : Row) → slice_get rows k ≡ Some row → Is row
  pub all : (row : Row) → Is row → (k : ℕ) × (slice_get rows k ≡ Some row)
  pub rise : (j k : ℕ) (a b : Row) → j < k → slice_get rows j ≡ Some a
      → slice_get rows k ≡ Some b → IsLess (row_key a) (row_key b)

-- The rows of the cells of declarations that the top reaches, cell by cell: where each one's begin
-- and end.
pub record AreRowsOf (design : NetlistRec) (Is : Cell → Row → Type 0) (rows : List Row)
    (starts ends : List ℕ) : Type 0 where
  pub starts_many : length starts ≡ length design.cell_list
  pub ends_many : length ends ≡ length design.cell_list
  pub ordered : (place start end : ℕ) → slice_get starts place ≡ Some start
      → slice_get ends place ≡ Some end → (start ≤ end) × (end ≤ length rows)
  pub each : (declaration place start end : ℕ) (cell : Cell)
      → Reaches design design.top_inst.cell declaration
      → first_cell design declaration ≡ Some place → slice_get design.cell_list place ≡ Some cell
      → slice_get starts place ≡ Some start → slice_get ends place ≡ Some end
      → AreAllRows (Is cell) (take (end - start) (drop start rows))
  -- no row stands outside
  pub some_cell : (k : ℕ) → k < length rows → (declaration : ℕ) × (place : ℕ) × (start : ℕ)
      × (end : ℕ) × Reaches design design.top_inst.cell declaration
      × (first_cell design declaration ≡ Some place) × (slice_get starts place ≡ Some start)
      × (slice_get ends place ≡ Some end) × (start ≤ k) × (k < end)

-- the written name of each row's bit, as a number of a name
pub record AreWritten (names : List Text) (design : NetlistRec) (rows : List Row)
    (written : List ℕ) : Type 0 where
  pub many : length written ≡ length rows
  pub each : (k : ℕ) (row : Row) (name : ℕ) → slice_get rows k ≡ Some row
      → slice_get written k ≡ Some name
      → (text : Text) × (slice_get names name ≡ Some text)
      × (written_bit names design (bit_in row) ≡ Some text)

-- Instances and occurrences.

-- how many nets an instance of a declaration has itself
abbrev pub nets_in : NetlistRec → (declaration : ℕ) → ℕ
nets_in design declaration = nets_of (first_cell design declaration)
  where
    nets_at : Option Cell → ℕ
    nets_at None = 0
    nets_at (Some cell) = length cell.nets

    nets_of : Option ℕ → ℕ
    nets_of None = 0
    nets_of (Some place) = nets_at (slice_get design.cell_list place)

-- The instance at a path, and where it is: the top, or at a place of the instance that it is in.
abbrev pub IsOf : NetlistRec → (paths : List Path) → Path → Instance → Type 0
IsOf design paths path one = ((path ≡ []) × (one.number ≡ 0) × (one.parent ≡ 0) × (one.place ≡ 0)
    × (one.declaration ≡ design.top_inst.cell)) ⊎ IsBelow design paths path one
  where
    IsBelow : NetlistRec → List Path → Path → Instance → Type 0
    IsBelow design paths path one = (parent : Path) × (cell : Cell) × (inst : CellInstance)
        × (slice_get paths one.parent ≡ Some parent) × (path ≡ parent ++ one.place ∷ [])
        × (inside_at design parent ≡ Some cell)
        × (slice_get cell.insts one.place ≡ Some one.number)
        × (slice_get design.inst_list one.number ≡ Some inst) × (inst.cell ≡ one.declaration)

-- All instances in preorder, with their paths, each once; an occurrence of a net has the number of
-- its instance's first one and the net's place on top of it.
pub record AreInstances (design : NetlistRec) (all : List Instance) (paths : List Path) (nets : ℕ)
    : Type 0 where
  pub many : length paths ≡ length all
  pub top : slice_get paths 0 ≡ Some []
  pub each : (i : ℕ) (path : Path) (one : Instance) → slice_get paths i ≡ Some path
      → slice_get all i ≡ Some one → IsOf design paths path one
  pub parents : (i : ℕ) (one : Instance) → 0 < i → slice_get all i ≡ Some one → one.parent < i
  pub rise : (i j : ℕ) (a b : Path) → i < j → slice_get paths i ≡ Some a
      → slice_get paths j ≡ Some b → IsBefore (InstanceAt a) (InstanceAt b)
  pub every : (path : Path) (inst : CellInstance) → instance_at design path ≡ Some inst
      → Contains paths path
  pub first_at : (one : Instance) → slice_get all 0 ≡ Some one → one.first_net ≡ 0
  pub nets_next : (i : ℕ) (one next : Instance) → slice_get all i ≡ Some one
      → slice_get all (i + 1) ≡ Some next
      → next.first_net ≡ one.first_net + nets_in design one.declaration
  pub nets_end : (one : Instance) → slice_get all (length all - 1) ≡ Some one
      → nets ≡ one.first_net + nets_in design one.declaration

-- the number of an occurrence
pub record IsNumber (design : NetlistRec) (all : List Instance) (paths : List Path)
    (at : Occurrence) (number : ℕ) : Type 0 where
  pub cell : Cell
  pub net : Net
  pub occurs : Occurs design at cell net
  pub instance : ℕ
  pub path_is : slice_get paths instance ≡ Some at.path
  pub one : Instance
  pub one_is : slice_get all instance ≡ Some one
  pub number_is : number ≡ one.first_net + at.net

-- for each occurrence the number of the first one of its net
pub record AreFirsts (design : NetlistRec) (all : List Instance) (paths : List Path)
    (firsts : List ℕ) : Type 0 where
  pub each : (at : Occurrence) (number : ℕ) → IsNumber design all paths at number
      → (first : Occurrence) × (least : ℕ) × (slice_get firsts number ≡ Some least)
      × IsNumber design all paths first least × AreOneNet design first at
      × IsFirstOf design first
