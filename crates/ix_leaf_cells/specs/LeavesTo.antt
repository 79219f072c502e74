-- The leaves among the first instances.
use Rattle.std.specs.Prelude.{◌≡◌, ◌<◌, ◌++◌, ℕ, List, length, map, slice_get, Some}
use Rattle.ix_message.specs.Shape.{Text}
use Rattle.ix_rec.specs.declared.flow.FlatCell.{FlatCell}
use Rattle.ix_rec.specs.declared.netlist.CellDeclaration.{CellDeclaration}
use Rattle.ix_rec.specs.declared.netlist.CellInstance.{CellInstance}
use Rattle.ix_rec.specs.declared.netlist.NetlistRec.{NetlistRec}
use Rattle.ix_hierarchy.specs.declared.instance.Instance.{Instance}
use Rattle.ix_hierarchy.specs.Hierarchy.{Path}
use Rattle.ix_hierarchy.specs.FlatDesign.{LeafCell, leaf_texts}
use Rattle.ix_hierarchy.specs.Pins.{IsPlainLeaf}
use Rattle.ix_joined.specs.declared.joined.Joined.{Joined}
use Rattle.ix_joined.specs.Joining.{Known}
use Rattle.ix_port_cells.specs.CellTexts.{AreCells}

-- the type of an instance, by the name of its declaration
pub record IsTypeOf (design : NetlistRec) (joined : Joined) (instance ty : ℕ) : Type 0 where
  pub one : Instance
  pub one_is : slice_get joined.instances.items instance ≡ Some one
  pub declared : CellDeclaration
  pub declared_is : slice_get design.cell_decls one.declaration ≡ Some declared
  pub type_is : ty ≡ declared.name

-- instances below a count that are plain leaves, with these as leaves
pub record AreListedTo (known : Known) (design : NetlistRec) (count : ℕ) (leaves : List ℕ)
    (list : List LeafCell) : Type 0 where
  pub many : length leaves ≡ length list
  pub each : (k instance : ℕ) (leaf : LeafCell) → slice_get leaves k ≡ Some instance
      → slice_get list k ≡ Some leaf → (instance < count)
      × (slice_get known.paths instance ≡ Some leaf.path)
      × IsPlainLeaf known.device design leaf.path leaf.inst leaf.ty
  pub rise : (j k a b : ℕ) → j < k → slice_get leaves j ≡ Some a → slice_get leaves k ≡ Some b
      → a < b
  pub all : (instance : ℕ) (path : Path) (inst : CellInstance) (ty : ℕ) → instance < count
      → slice_get known.paths instance ≡ Some path → IsPlainLeaf known.device design path inst ty
      → (k : ℕ) × (slice_get leaves k ≡ Some instance)
      × (slice_get list k ≡ Some record { path = path; inst = inst; ty = ty })

-- with their cells behind others
pub record AreTo (known : Known) (design : NetlistRec) (names : List Text)
    (texts : List (Text × Text)) (count : ℕ) (leaves : List ℕ) (cells : List FlatCell) : Type 0
  where
    pub list : List LeafCell
    pub listed : AreListedTo known design count leaves list
    pub cells_are : AreCells names cells (texts ++ map (leaf_texts names design) list)
