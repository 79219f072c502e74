-- The stages of flattening: what is known of a design once it is listed, and once it is judged.
use Rattle.std.specs.Prelude.{◌≡◌, ◌≢◌, ◌+◌, ◌<◌, ℕ, List, map, slice_get}
use Rattle.std.specs.Prelude.{Option, Some, None, option_and_then}
use Rattle.std.specs.FinMap.{FinMap, get}
use Rattle.std.specs.Ordering.{nat_cmp}
use Rattle.ix_message.specs.Shape.{Text}
use Rattle.ix_rec.specs.declared.device.DeviceRec.{DeviceRec}
use Rattle.ix_rec.specs.declared.flow.TruthTable.{TruthTable}
use Rattle.ix_rec.specs.declared.netlist.NetlistRec.{NetlistRec}
use Rattle.ix_hierarchy.specs.declared.instance.Instance.{Instance}
use Rattle.ix_hierarchy.specs.Hierarchy.{Path}
use Rattle.ix_hierarchy.specs.Broken.{KeepsAll}
use Rattle.ix_joined.specs.declared.joined.Joined.{Joined}
use Rattle.ix_joined.specs.Joining.{Known, IsJoined, AreTopBits}
use Rattle.ix_joined.specs.States.{AreStates, AreNetStates}
use Rattle.ix_flat_lists.specs.Listed.{ArePortNames}
use Rattle.ix_flat_lists.specs.Naming.{IsNamed}
use Rattle.ix_flat_laws.specs.Laws.{AreJoined}
use Rattle.ix_lut_tables.specs.Tables.{table_of_instance}
use Rattle.ix_flatten.specs.declared.listing.Listed.{Listed}

-- it keeps N1, N2, N9 and N10, and this is known of its instances, nets and names
pub record IsListed (known : Known) (design : NetlistRec) (listed : Listed) : Type 0 where
  pub joined_is : IsJoined known design listed.joined
  pub top : AreTopBits design listed.joined.instances.items known.paths listed.joined.firsts.items
      listed.bits.items
  pub by_number : AreStates known design listed.joined listed.states.items
  pub by_net : AreNetStates known design listed.joined listed.states.items
  pub types_are : ArePortNames known.names listed.types
  pub named_is : IsNamed known design listed.joined listed.named

abbrev pub AreListed : List Text → DeviceRec → NetlistRec → Listed → Type 0
AreListed names device design listed = (paths : List Path)
    × IsListed record { names = names; device = device; paths = paths } design listed

-- It keeps all rules, the inputs of its LUT cells are on nets, and these are the tables of its
-- instances.
pub record IsJudged (names : List Text) (device : DeviceRec) (design : NetlistRec)
    (tables : List (Option TruthTable)) : Type 0 where
  pub keeps : KeepsAll names device design
  pub joined : AreJoined names device design
  pub tables_are : tables ≡ map (table_of_instance names device design) design.inst_list

-- both
pub record IsBuilt (known : Known) (device : DeviceRec) (design : NetlistRec) (listed : Listed)
    (tables : List (Option TruthTable)) : Type 0 where
  pub device_is : known.device ≡ device
  pub is_listed : IsListed known design listed
  pub is_judged : IsJudged known.names known.device design tables

-- the instance of each of these leaves has a place among so many
abbrev pub AreLeafTables : Joined → (leaves : List ℕ) → (count : ℕ) → Type 0
AreLeafTables joined leaves count = (k instance : ℕ) → slice_get leaves k ≡ Some instance
    → (one : Instance) × (slice_get joined.instances.items instance ≡ Some one)
    × (one.number < count)

-- a map with a cell's table, where there is one
pub record IsWithTable (old : FinMap nat_cmp TruthTable) (cell : ℕ) (table : Option TruthTable)
    (new : FinMap nat_cmp TruthTable) : Type 0 where
  pub here : get old cell ≡ None → get new cell ≡ table
  pub others : (other : ℕ) → other ≢ cell → get new other ≡ get old other

-- the table of the instance of a leaf
abbrev pub leaf_table : Joined → List (Option TruthTable) → (instance : ℕ) → Option TruthTable
leaf_table joined tables instance = option_and_then (λ (one : Instance).
    option_and_then (λ table. table) (slice_get tables one.number))
    (slice_get joined.instances.items instance)

-- the tables of leaves, whose cells stand behind so many port cells
pub record AreCellTables (joined : Joined) (ports : ℕ) (leaves : List ℕ)
    (tables : List (Option TruthTable)) (of_cells : FinMap nat_cmp TruthTable) : Type 0 where
  pub none : (cell : ℕ) → cell < ports → get of_cells cell ≡ None
  pub each : (k : ℕ) → get of_cells (ports + k)
      ≡ option_and_then (leaf_table joined tables) (slice_get leaves k)
