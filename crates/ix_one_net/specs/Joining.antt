-- Roots of numbers of occurrences, while these are joined.
use Rattle.std.specs.Prelude.{◌≡◌, ◌<◌, ◌≤◌, ◌+◌, ℕ, List, length, slice_get, Option, Some}
use Rattle.ix_rec.specs.declared.device.DeviceRec.{DeviceRec}
use Rattle.ix_rec.specs.declared.netlist.NetlistRec.{NetlistRec}
use Rattle.ix_hierarchy.specs.declared.instance.Instance.{Instance}
use Rattle.ix_hierarchy.specs.declared.kind.Kind.{Kind}
use Rattle.ix_hierarchy.specs.declared.row.Row.{Row}
use Rattle.ix_hierarchy.specs.Hierarchy.{Path}
use Rattle.ix_hierarchy.specs.Lists.{IsNumber}
use Rattle.ix_hierarchy.specs.Nets.{Occurrence, Enters, AreOneNet}
use Rattle.ix_bit_rows.specs.Table.{RowTable}
use Rattle.ix_roots.specs.Forest.{IsForest}
use Rattle.ix_instance_lists.specs.Listed.{AreNumbered}
use Rattle.ix_one_net.specs.Joinable.{AreJoinable}

-- numbers of one root are of one net
abbrev pub AreSound : NetlistRec → List Instance → List Path → (root : ℕ → ℕ) → Type 0
AreSound design all paths root = (a b : Occurrence) (x y : ℕ) → IsNumber design all paths a x
    → IsNumber design all paths b y → root x ≡ root y → AreOneNet design a b

-- what was joined stays so
abbrev pub AreKept : (before now : ℕ → ℕ) → Type 0
AreKept before now = (x y : ℕ) → before x ≡ before y → now x ≡ now y

-- what crosses into the instance is joined
abbrev pub AreCovered : NetlistRec → List Instance → List Path → (instance : ℕ)
    → (root : ℕ → ℕ) → Type 0
AreCovered design all paths instance root = (upper lower : Occurrence) (x y : ℕ)
    → Enters design upper lower → slice_get paths instance ≡ Some lower.path
    → IsNumber design all paths upper x → IsNumber design all paths lower y → root x ≡ root y

-- roots in a table, all of them sound
pub record AreRoots (design : NetlistRec) (all : List Instance) (paths : List Path)
    (above : List ℕ) (root : ℕ → ℕ) : Type 0 where
  pub forest : IsForest above root
  pub sound : AreSound design all paths root

-- the pairs of numbers at the rows from one place to another are joined
abbrev pub ArePaired : (rows : List Row) (inner : List (Option ℕ)) (start end : ℕ)
    → (outer_first inner_first : ℕ) → (root : ℕ → ℕ) → Type 0
ArePaired rows inner start end outer_first inner_first root = (k : ℕ) (row : Row) (net : ℕ)
    → start ≤ k → k < end → slice_get rows k ≡ Some row → slice_get inner k ≡ Some (Some net)
    → root (outer_first + row.net) ≡ root (inner_first + net)

-- a design that can be joined, with the order of its numbers
pub record AreKnown (design : NetlistRec) (device : DeviceRec) (kinds : List Kind)
    (outer : RowTable) (inner : List (Option ℕ)) (all : List Instance) (paths : List Path)
    (nets : ℕ) : Type 0 where
  pub joinable : AreJoinable design device kinds outer inner all paths nets
  pub numbered : AreNumbered design all paths nets

-- a design that can be joined, of so many nets
abbrev pub IsJoinable : List Kind → RowTable → List (Option ℕ) → List Instance → (nets : ℕ)
    → Type 0
IsJoinable kinds outer inner all nets = (design : NetlistRec) × (device : DeviceRec)
    × (paths : List Path) × AreJoinable design device kinds outer inner all paths nets

abbrev pub IsKnown : List Kind → RowTable → List (Option ℕ) → List Instance → (nets : ℕ)
    → Type 0
IsKnown kinds outer inner all nets = (design : NetlistRec) × (device : DeviceRec)
    × (paths : List Path) × AreKnown design device kinds outer inner all paths nets

-- Joined into an instance: behind roots that were sound there are sound ones that are joined there.
abbrev pub CrossesInto : List Kind → RowTable → List (Option ℕ) → List Instance → (nets : ℕ)
    → (before now : List ℕ) (instance : ℕ) → Type 0
CrossesInto kinds outer inner all nets before now instance =
    (design : NetlistRec) (device : DeviceRec) (paths : List Path)
    → AreKnown design device kinds outer inner all paths nets
    → (root : ℕ → ℕ) → AreRoots design all paths before root
    → (next : ℕ → ℕ) × AreRoots design all paths now next × AreKept root next
    × AreCovered design all paths instance next

-- Instances are joined one after another.
pub record AreJoined (kinds : List Kind) (outer : RowTable) (inner : List (Option ℕ))
    (all : List Instance) (nets : ℕ) (above : List ℕ) (instance : ℕ) : Type 0 where
  pub many : length above ≡ nets
  pub each : (design : NetlistRec) (device : DeviceRec) (paths : List Path)
      → AreKnown design device kinds outer inner all paths nets
      → (root : ℕ → ℕ) × AreRoots design all paths above root
      × ((other : ℕ) → 0 < other → other < instance → AreCovered design all paths other root)
