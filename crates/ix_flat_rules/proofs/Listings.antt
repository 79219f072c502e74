-- What the lists of a design say of a leaf.
use Rattle.std.proofs.Common.{◌≡◌, ◌<◌, ap, sym, subst, ◌∙◌, ℕ, List, slice_get, slice_index_or}
use Rattle.std.proofs.Common.{Some, arith, length}
use Rattle.std.proofs.Common.{zero, suc, []}
use Rattle.std.specs.Option.{option_map, unwrap_or}
use Rattle.std.proofs.lemmas.Option.{same_Some, slice_get-get_or, slice_get_within}
use Rattle.ix_rec.specs.declared.device.DeviceRec.{DeviceRec}
use Rattle.ix_rec.specs.declared.netlist.CellDeclaration.{CellDeclaration}
use Rattle.ix_rec.specs.declared.netlist.CellInstance.{CellInstance}
use Rattle.ix_rec.specs.declared.netlist.NetlistRec.{NetlistRec}
use Rattle.ix_hierarchy.specs.declared.instance.Instance.{Instance}
use Rattle.ix_hierarchy.specs.Hierarchy.{Path, ports_of}
use Rattle.ix_hierarchy.specs.FlatDesign.{LeafCell}
use Rattle.ix_hierarchy.specs.Pins.{IsPlainLeaf, type_of}
use Rattle.ix_joined.specs.declared.joined.Joined.{Joined}
use Rattle.ix_joined.specs.Joining.{Known, IsJoined}
use Rattle.ix_flat_lists.specs.Listed.{AreLeaves}
use Rattle.ix_flat_rules.specs.Leaves.{IsPlainAt}
use Rattle.ix_flat_rules.proofs.Finds.{is_placed, item_at, mapped, none_last}

-- its instance, its record and its declaration
pub record IsListed (design : NetlistRec) (joined : Joined) (instance : ℕ) (inst : CellInstance)
    (ty : ℕ) : Type 0 where
  pub one : Instance
  pub one_is : slice_get joined.instances.items instance ≡ Some one
  pub cell_is : inst.cell ≡ one.declaration
  pub number_is : slice_get design.inst_list one.number ≡ Some inst
  pub declared : CellDeclaration
  pub declared_is : slice_get design.cell_decls one.declaration ≡ Some declared
  pub type_is : declared.name ≡ ty

-- the instance of a path is there
pub instance_there : (known : Known) (design : NetlistRec) (joined : Joined) (i : ℕ) (path : Path)
    → IsJoined known design joined → slice_get known.paths i ≡ Some path
    → i < length joined.instances.items
instance_there known design joined i path are at =
    let many : length known.paths ≡ length joined.instances.items = are.are_instances.many in
    let less : i < length known.paths = slice_get_within known.paths i path at in
    omega arith

pub listed : (known : Known) (design : NetlistRec) (joined : Joined) (i : ℕ) (path : Path)
    (inst : CellInstance) (ty : ℕ) → IsPlainAt known design joined i path inst ty
    → IsListed design joined i inst ty
listed known design joined i path inst ty is =
    let one = item_at joined.instances.items i
    (instance_there known design joined i path is.joined_is is.path_is) in
    let leaf = is.plain.leaf.leaf in
    let placed = is_placed design joined.instances.items known.paths (length joined.firsts.items) i
    path one.0 leaf.parent leaf.place is.joined_is.are_instances is.path_is one.1 leaf.below in
    let insts : placed.inst ≡ inst = same_Some placed.inst inst (sym placed.at_path ∙ leaf.is) in
    let cells : inst.cell ≡ one.0.declaration =
    ap (λ (x : CellInstance). x.cell) (sym insts) ∙ placed.of_it in
    let declared = mapped (λ (d : CellDeclaration). d.name) (slice_get design.cell_decls inst.cell)
    ty is.plain.leaf.type_is in
    record {
      one = one.0;
      one_is = one.1;
      cell_is = cells;
      number_is = placed.listed ∙ ap Some insts;
      declared = declared.0;
      declared_is = ap (slice_get design.cell_decls) (sym cells) ∙ declared.1;
      type_is = declared.2;
    }

-- its ports are those of its declaration
pub ports_are : (design : NetlistRec) (joined : Joined) (i : ℕ) (inst : CellInstance) (ty : ℕ)
    → (is : IsListed design joined i inst ty) → ports_of design inst.cell ≡ is.declared.ports
ports_are design joined i inst ty is =
    ap (λ o. unwrap_or (option_map (λ (d : CellDeclaration). d.ports) o) [])
    (ap (slice_get design.cell_decls) is.cell_is ∙ is.declared_is)

-- what the code reads
pub same_one : (design : NetlistRec) (joined : Joined) (i : ℕ) (inst : CellInstance) (ty : ℕ)
    (one : Instance) → (is : IsListed design joined i inst ty)
    → slice_get joined.instances.items i ≡ Some one → one ≡ is.one
same_one design joined i inst ty one is h = same_Some one is.one (sym h ∙ is.one_is)

pub same_declared : (design : NetlistRec) (joined : Joined) (i : ℕ) (inst : CellInstance) (ty : ℕ)
    (one : Instance) (declared : CellDeclaration) → (is : IsListed design joined i inst ty)
    → slice_get joined.instances.items i ≡ Some one
    → slice_get design.cell_decls one.declaration ≡ Some declared → declared ≡ is.declared
same_declared design joined i inst ty one declared is h d =
    same_Some declared is.declared (sym d
    ∙ ap (λ (o : Instance). slice_get design.cell_decls o.declaration)
    (same_one design joined i inst ty one is h) ∙ is.declared_is)

-- a leaf has one record and one type
pub same_leaf : (rec : DeviceRec) (design : NetlistRec) (path : Path) (a b : CellInstance)
    (s t : ℕ) → IsPlainLeaf rec design path a s → IsPlainLeaf rec design path b t
    → (a ≡ b) × (s ≡ t)
same_leaf rec design path a b s t x y =
    let insts : a ≡ b = same_Some a b (sym x.leaf.leaf.is ∙ y.leaf.leaf.is) in
    (insts, same_Some s t (sym x.leaf.type_is ∙ ap (type_of design) insts ∙ y.leaf.type_is))

-- the leaf at a place among those that are cells
pub record IsLeafAt (known : Known) (design : NetlistRec) (joined : Joined) (cells : List LeafCell)
    (k instance : ℕ) : Type 0 where
  pub leaf : LeafCell
  pub leaf_is : slice_get cells k ≡ Some leaf
  pub plain : IsPlainAt known design joined instance leaf.path leaf.inst leaf.ty

pub leaf_at : (known : Known) (design : NetlistRec) (joined : Joined) (leaves : List ℕ)
    (cells : List LeafCell) (k : ℕ) → IsJoined known design joined
    → AreLeaves known design leaves cells → k < length leaves
    → IsLeafAt known design joined cells k (slice_index_or leaves k 0)
leaf_at known design joined leaves cells k are is less =
    let many : length leaves ≡ length cells = is.many in
    let leaf = item_at cells k (omega arith) in
    let at = slice_get-get_or leaves k 0 less in
    record {
      leaf = leaf.0;
      leaf_is = leaf.1;
      plain = record {
        joined_is = are;
        path_is = is.each k (slice_index_or leaves k 0) leaf.0 at leaf.1;
        plain = is.are.each k leaf.0 leaf.1;
      };
    }

-- it isn't the top
pub below_top : (known : Known) (design : NetlistRec) (joined : Joined) (i : ℕ) (path : Path)
    (inst : CellInstance) (ty : ℕ) → IsPlainAt known design joined i path inst ty → 0 < i
below_top known design joined zero path inst ty is =
    let leaf = is.plain.leaf.leaf in
    let top : [] ≡ path = same_Some [] path (sym is.joined_is.are_instances.top ∙ is.path_is) in
    absurd (none_last leaf.parent leaf.place (top ∙ leaf.below))
below_top known design joined (suc i) path inst ty is = omega arith

-- its declaration is there
pub declared_there : (known : Known) (design : NetlistRec) (joined : Joined) (i : ℕ) (path : Path)
    (inst : CellInstance) (ty : ℕ) (one : Instance)
    → IsPlainAt known design joined i path inst ty → slice_get joined.instances.items i ≡ Some one
    → one.declaration < length design.cell_decls
declared_there known design joined i path inst ty one is h =
    let list = listed known design joined i path inst ty is in
    subst (λ (o : Instance). o.declaration < length design.cell_decls)
    (sym (same_one design joined i inst ty one list h))
    (slice_get_within design.cell_decls list.one.declaration list.declared list.declared_is)

-- and its record
pub number_there : (known : Known) (design : NetlistRec) (joined : Joined) (i : ℕ) (path : Path)
    (inst : CellInstance) (ty : ℕ) (one : Instance)
    → IsPlainAt known design joined i path inst ty → slice_get joined.instances.items i ≡ Some one
    → slice_get design.inst_list one.number ≡ Some inst
number_there known design joined i path inst ty one is h =
    let list = listed known design joined i path inst ty is in
    ap (λ (o : Instance). slice_get design.inst_list o.number)
    (same_one design joined i inst ty one list h) ∙ list.number_is
