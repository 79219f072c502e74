-- The walk that lists the instances of a design.
use Rattle.std.specs.Prelude.{◌≡◌, ◌<◌, ◌≤◌, ◌+◌, ◌-◌, ◌*◌, ◌^◌, ℕ, List, [], ◌∷◌, ◌++◌, length}
use Rattle.std.specs.Prelude.{Option, Some, None, slice_get, slice_index_or, Contains}
use Rattle.std.specs.List.{AllByRecursion}
use Rattle.ix_rec.specs.declared.device.DeviceRec.{DeviceRec}
use Rattle.ix_rec.specs.declared.netlist.Cell.{Cell}
use Rattle.ix_rec.specs.declared.netlist.CellInstance.{CellInstance}
use Rattle.ix_rec.specs.declared.netlist.NetlistRec.{NetlistRec}
use Rattle.ix_hierarchy.specs.declared.instance.Instance.{Instance}
use Rattle.ix_hierarchy.specs.declared.kind.Kind.{Kind}
use Rattle.ix_hierarchy.specs.Hierarchy.{Path, inside, instance_at}
use Rattle.ix_hierarchy.specs.Fits.{NetlistFits}
use Rattle.ix_hierarchy.specs.Walk.{Spot, TopBit, NetAt, InstanceAt, PinAt, IsLess}
use Rattle.ix_hierarchy.specs.Broken.{IsCounted, AllDiffer}
use Rattle.ix_hierarchy.specs.Lists.{AreInstances, AreKinds, IsOf, first_cell, nets_in}
use Rattle.ix_instances.specs.declared.instances.Step.{Step}

-- the netlist's numbers are in its lists
abbrev pub IsInRange : NetlistRec → Type 0
IsInRange design = (names : ℕ) × NetlistFits names design

-- what each declaration is, on a device
abbrev pub HasKinds : NetlistRec → List Kind → Type 0
HasKinds design kinds = (device : DeviceRec) × AreKinds device design kinds

-- all instances, with their paths
abbrev pub AreAll : NetlistRec → (all : List Instance) → (nets : ℕ) → Type 0
AreAll design all nets = (paths : List Path) × AreInstances design all paths nets

-- the path of an instance, by those of the instances before it; the first is the top's
abbrev pub path_behind : (paths : List Path) → Instance → Path
path_behind [] one = []
path_behind (top ∷ paths) one = slice_index_or (top ∷ paths) one.parent [] ++ one.place ∷ []

abbrev pub paths_behind : (paths : List Path) → List Instance → List Path
paths_behind paths [] = paths
paths_behind paths (one ∷ all) = paths_behind (paths ++ path_behind paths one ∷ []) all

-- the paths of listed instances
unfoldable pub paths_of : List Instance → List Path
paths_of all = paths_behind [] all

-- the cell of this number is the declaration's, and it has the place
pub record HasPlace (design : NetlistRec) (declaration place number : ℕ) : Type 0 where
  pub first : first_cell design declaration ≡ Some number
  pub cell : Cell
  pub cell_is : slice_get design.cell_list number ≡ Some cell
  pub has : place < length cell.insts

-- no cell of the declaration has the place
abbrev pub HasNoPlace : NetlistRec → (declaration place : ℕ) → Type 0
HasNoPlace design declaration place =
    (cell : Cell) → inside design declaration ≡ Some cell → length cell.insts ≤ place

-- the instance or net of a cell that stands at a spot is that of a path
abbrev pub path_at : Spot → Path
path_at (TopBit place index) = []
path_at (NetAt path net) = path
path_at (InstanceAt path) = path
path_at (PinAt path place index) = path

-- so many counted places of instances with these paths
pub record HasSpots (design : NetlistRec) (paths : List Path) (count : ℕ) : Type 0 where
  pub spots : List Spot
  pub differ : AllDiffer spots
  pub counted : AllByRecursion (IsCounted design) spots
  pub inside : (k : ℕ) (spot : Spot) → slice_get spots k ≡ Some spot
      → Contains paths (path_at spot)
  pub many : length spots ≡ count

-- what holds of the instances listed so far
pub record AreListed (design : NetlistRec) (all : List Instance) (paths : List Path) (nets : ℕ)
    : Type 0 where
  pub many : length paths ≡ length all
  pub top : slice_get paths 0 ≡ Some []
  pub each : (i : ℕ) (path : Path) (one : Instance) → slice_get paths i ≡ Some path
      → slice_get all i ≡ Some one → IsOf design paths path one
  pub parents : (i : ℕ) (one : Instance) → 0 < i → slice_get all i ≡ Some one
      → (one.parent < i) × (one.place < i)
  pub rise : (i j : ℕ) (a b : Path) → i < j → slice_get paths i ≡ Some a
      → slice_get paths j ≡ Some b → IsLess a b
  pub first_at : (one : Instance) → slice_get all 0 ≡ Some one → one.first_net ≡ 0
  pub nets_next : (i : ℕ) (one next : Instance) → slice_get all i ≡ Some one
      → slice_get all (i + 1) ≡ Some next
      → next.first_net ≡ one.first_net + nets_in design one.declaration
  pub nets_end : (one : Instance) → slice_get all (length all - 1) ≡ Some one
      → nets ≡ one.first_net + nets_in design one.declaration
  pub spots : HasSpots design paths (length all + nets - 1)
  pub few : length all + nets ≤ 2 ^ 22 + 1

-- Where the walk stands: all instances before this place of this instance are listed, and none
-- behind it.
pub record IsPoint (design : NetlistRec) (paths : List Path) (instance place : ℕ) : Type 0 where
  pub at : Path
  pub at_is : slice_get paths instance ≡ Some at
  pub few : place < length paths
  pub before : (i : ℕ) (path : Path) → slice_get paths i ≡ Some path
      → IsLess path (at ++ place ∷ [])
  pub every : (path : Path) (inst : CellInstance) → instance_at design path ≡ Some inst
      → IsLess path (at ++ place ∷ []) → Contains paths path

pub record IsWalk (design : NetlistRec) (all : List Instance) (nets instance place : ℕ) : Type 0
  where
    pub listed : AreListed design all (paths_of all) nets
    pub point : IsPoint design (paths_of all) instance place

-- how many steps the walk goes at most
abbrev pub work : List Instance → (instance : ℕ) → ℕ
work all instance =
    2 * (2 ^ 22 + 1 - length all) + length (slice_index_or (paths_of all) instance [])

-- where the walk stands, or all are listed
abbrev pub IsUnderWay : NetlistRec → List Instance → (nets : ℕ) → Option Step → Type 0
IsUnderWay design all nets None =
    AreAll design all nets × (length all + nets ≤ 2 ^ 22 + 1)
IsUnderWay design all nets (Some step) = IsWalk design all nets step.instance step.place

abbrev pub work_left : List Instance → Option Step → ℕ
work_left all None = 0
work_left all (Some step) = 1 + work all step.instance

-- the place behind an instance in the one that it is in; none behind the top
abbrev pub IsBehind : List Instance → (instance : ℕ) → Option Step → Type 0
IsBehind all instance None = instance ≡ 0
IsBehind all instance (Some next) = (0 < instance) × ((one : Instance)
    × (slice_get all instance ≡ Some one) × (next.instance ≡ one.parent)
    × (next.place ≡ one.place + 1))
