-- The instances of leaves that are cells, in the netlist's list.
use Rattle.std.proofs.Common.{◌≡◌, ◌<◌, ap, refl, sym, subst, ◌∙◌, ℕ, zero, suc, List, [], ◌∷◌}
use Rattle.std.proofs.Common.{◌++◌, slice_get, Option, Some, None, arith, length, inl, inr, map}
use Rattle.std.specs.Option.{option_and_then}
use Rattle.std.proofs.lemmas.Option.{none-some, same_Some, option_and_then_some, slice_get_within}
use Rattle.ix_rec.specs.declared.flow.TruthTable.{TruthTable}
use Rattle.ix_rec.specs.declared.netlist.CellInstance.{CellInstance}
use Rattle.ix_rec.specs.declared.netlist.NetlistRec.{NetlistRec}
use Rattle.ix_hierarchy.specs.declared.instance.Instance.{Instance}
use Rattle.ix_hierarchy.specs.Hierarchy.{Path, child, child_of, inside, instance_at, reached}
use Rattle.ix_hierarchy.specs.Lists.{AreInstances}
use Rattle.ix_hierarchy.specs.Pins.{IsPlainLeaf}
use Rattle.ix_hierarchy.specs.FlatDesign.{LeafCell, lut_of_type, table_of, table_of_leaf}
use Rattle.ix_joined.specs.declared.joined.Joined.{Joined}
use Rattle.ix_joined.specs.Joining.{Known, IsJoined}
use Rattle.ix_flat_lists.specs.Listed.{AreLeaves}
use Rattle.ix_lut_tables.specs.Tables.{table_of_instance}
use Rattle.ix_flatten.specs.Stages.{AreLeafTables, leaf_table}

-- an item that is there
pub item_at : {A : Type 0} (xs : List A) (i : ℕ) → i < length xs
    → (x : A) × (slice_get xs i ≡ Some x)
item_at [] i lt = absurd (omega arith)
item_at (x ∷ xs) zero lt = (x, refl)
item_at (x ∷ xs) (suc i) lt = item_at xs i (omega arith)

-- an item of a mapped list
table_at : {A B : Type 0} (f : A → B) (xs : List A) (i : ℕ) (x : A) → slice_get xs i ≡ Some x
    → slice_get (map f xs) i ≡ Some (f x)
table_at f [] i x h = absurd (none-some x h)
table_at f (y ∷ xs) zero x h = ap (λ z. Some (f z)) (same_Some y x h)
table_at f (y ∷ xs) (suc i) x h = table_at f xs i x h

none_last : (xs : List ℕ) (x : ℕ) → [] ≡ xs ++ x ∷ [] → ⊥
none_last [] x e = absurd (cc)
none_last (y ∷ xs) x e = absurd (cc)

-- one more step
reached_next : (design : NetlistRec) (from : CellInstance) (path : Path) (place : ℕ)
    (at inst : CellInstance) → reached design from path ≡ Some at
    → child design at place ≡ Some inst → reached design from (path ++ place ∷ []) ≡ Some inst
unfolding reached
reached_next design from [] place at inst h c =
    let same : from ≡ at = same_Some from at h in
    ap (option_and_then (λ i. reached design i []))
    (ap (λ f. child design f place) same ∙ c)
reached_next design from (step ∷ path) place at inst h c =
    by (child design from step) h (λ next. reached_next design next path place at inst)
  where
    by : (o : Option CellInstance) → option_and_then (λ i. reached design i path) o ≡ Some at
        → ((next : CellInstance) → reached design next path ≡ Some at
        → child design at place ≡ Some inst → reached design next (path ++ place ∷ []) ≡ Some inst)
        → option_and_then (λ i. reached design i (path ++ place ∷ [])) o ≡ Some inst
    by None e again = absurd (none-some at e)
    by (Some next) e again = again next e c

-- an instance below the top is that of its number, and stands at its path
record IsPlaced (design : NetlistRec) (path : Path) (one : Instance) : Type 0 where
  inst : CellInstance
  at_path : instance_at design path ≡ Some inst
  listed : slice_get design.inst_list one.number ≡ Some inst

is_placed : (design : NetlistRec) (all : List Instance) (paths : List Path) (nets i : ℕ)
    (path : Path) (one : Instance) (parent : Path) (place : ℕ)
    → AreInstances design all paths nets → slice_get paths i ≡ Some path
    → slice_get all i ≡ Some one → path ≡ parent ++ place ∷ [] → IsPlaced design path one
is_placed design all paths nets i path one parent place are at is ends =
    elim (are.each i path one at is) [
      | inl top ↦ absurd (none_last parent place (sym top.0 ∙ ends))
      | inr below ↦ option_and_then_some (λ (up : CellInstance). inside design up.cell)
          (instance_at design below.0) below.1 below.5 (λ up r within.
          let here : child design up one.place ≡ Some below.2 =
          ap (option_and_then (λ c. child_of design c one.place)) within
          ∙ ap (option_and_then (slice_get design.inst_list)) below.6 ∙ below.7 in
          record {
            inst = below.2;
            at_path = ap (reached design design.top_inst) below.4
                ∙ reached_next design design.top_inst below.0 one.place up below.2 r here;
            listed = below.7;
          })
    ]

-- an instance of the design, and where it stands in the netlist's list
pub record IsAt (design : NetlistRec) (joined : Joined) (instance : ℕ) (inst : CellInstance)
    : Type 0 where
  pub one : Instance
  pub one_is : slice_get joined.instances.items instance ≡ Some one
  pub number_is : slice_get design.inst_list one.number ≡ Some inst

is_at : (known : Known) (design : NetlistRec) (joined : Joined) (i : ℕ) (path : Path)
    (inst : CellInstance) (ty : ℕ) → IsJoined known design joined
    → slice_get known.paths i ≡ Some path → IsPlainLeaf known.device design path inst ty
    → IsAt design joined i inst
is_at known design joined i path inst ty are at plain =
    let many : length known.paths ≡ length joined.instances.items = are.are_instances.many in
    let less : i < length known.paths = slice_get_within known.paths i path at in
    let there : i < length joined.instances.items = omega arith in
    let one = item_at joined.instances.items i there in
    let leaf = plain.leaf.leaf in
    let placed = is_placed design joined.instances.items known.paths (length joined.firsts.items) i
    path one.0 leaf.parent leaf.place are.are_instances at one.1 leaf.below in
    let insts : placed.inst ≡ inst = same_Some placed.inst inst (sym placed.at_path ∙ leaf.is) in
    record { one = one.0; one_is = one.1; number_is = placed.listed ∙ ap Some insts }

-- a leaf by its place among the cells
pub record IsLeafAt (known : Known) (design : NetlistRec) (joined : Joined)
    (cells : List LeafCell) (k instance : ℕ) : Type 0 where
  pub leaf : LeafCell
  pub leaf_is : slice_get cells k ≡ Some leaf
  pub plain : IsPlainLeaf known.device design leaf.path leaf.inst leaf.ty
  pub at : IsAt design joined instance leaf.inst

pub leaf_at : (known : Known) (design : NetlistRec) (joined : Joined) (leaves : List ℕ)
    (cells : List LeafCell) (k instance : ℕ) → IsJoined known design joined
    → AreLeaves known design leaves cells → slice_get leaves k ≡ Some instance
    → IsLeafAt known design joined cells k instance
leaf_at known design joined leaves cells k instance are is at =
    let less : k < length leaves = slice_get_within leaves k instance at in
    let many : length leaves ≡ length cells = is.many in
    let there : k < length cells = omega arith in
    let leaf = item_at cells k there in
    let plain = is.are.each k leaf.0 leaf.1 in record {
      leaf = leaf.0;
      leaf_is = leaf.1;
      plain = plain;
      at = is_at known design joined instance leaf.0.path leaf.0.inst leaf.0.ty are
          (is.each k instance leaf.0 at leaf.1) plain;
    }

-- its number is that of an instance of the netlist's list
pub leaf_tables : (known : Known) (design : NetlistRec) (joined : Joined) (leaves : List ℕ)
    (cells : List LeafCell) (count : ℕ) → IsJoined known design joined
    → AreLeaves known design leaves cells → count ≡ length design.inst_list
    → AreLeafTables joined leaves count
leaf_tables known design joined leaves cells count are is many = λ k instance h.
    let at = (leaf_at known design joined leaves cells k instance are is h) in (
      at.at.one,
      at.at.one_is,
      subst (λ n. at.at.one.number < n) (sym many)
          (slice_get_within design.inst_list at.at.one.number at.leaf.inst at.at.number_is),
    )

-- the table of a leaf is that of its instance
same_table : (known : Known) (design : NetlistRec) (joined : Joined) (cells : List LeafCell)
    (tables : List (Option TruthTable)) (k instance : ℕ)
    → (is : IsLeafAt known design joined cells k instance)
    → tables ≡ map (table_of_instance known.names known.device design) design.inst_list
    → leaf_table joined tables instance ≡ table_of_leaf known.device known.names is.leaf
same_table known design joined cells tables k instance is are =
    let there : slice_get tables is.at.one.number
    ≡ Some (table_of_instance known.names known.device design is.leaf.inst) =
    ap (λ (ts : List (Option TruthTable)). slice_get ts is.at.one.number) are
    ∙ table_at (table_of_instance known.names known.device design) design.inst_list
    is.at.one.number is.leaf.inst is.at.number_is in
    ap (option_and_then (λ (one : Instance).
    option_and_then (λ (table : Option TruthTable). table) (slice_get tables one.number)))
    is.at.one_is
    ∙ ap (option_and_then (λ (table : Option TruthTable). table)) there
    ∙ ap (option_and_then (λ ty. option_and_then (λ lut. table_of known.names lut is.leaf.inst)
    (lut_of_type known.device ty))) is.plain.leaf.type_is

pub tables_same : (known : Known) (design : NetlistRec) (joined : Joined) (leaves : List ℕ)
    (cells : List LeafCell) (tables : List (Option TruthTable)) (k : ℕ)
    → IsJoined known design joined → AreLeaves known design leaves cells
    → tables ≡ map (table_of_instance known.names known.device design) design.inst_list
    → option_and_then (leaf_table joined tables) (slice_get leaves k)
    ≡ option_and_then (table_of_leaf known.device known.names) (slice_get cells k)
tables_same known design joined leaves cells tables k are is tables_are =
    by (slice_get leaves k) refl
  where
    past : (o : Option LeafCell) → slice_get cells k ≡ o → slice_get leaves k ≡ None
        → None ≡ option_and_then (table_of_leaf known.device known.names) o
    past None e none = refl
    past (Some leaf) e none =
        let less : k < length cells = slice_get_within cells k leaf e in
        let many : length leaves ≡ length cells = is.many in
        let there : k < length leaves = omega arith in
        let item = item_at leaves k there in
        absurd (none-some item.0 (sym none ∙ item.1))

    by : (o : Option ℕ) → slice_get leaves k ≡ o
        → option_and_then (leaf_table joined tables) (slice_get leaves k)
        ≡ option_and_then (table_of_leaf known.device known.names) (slice_get cells k)
    by None e = ap (option_and_then (leaf_table joined tables)) e
        ∙ past (slice_get cells k) refl e
    by (Some instance) e =
        let at = leaf_at known design joined leaves cells k instance are is e in
        ap (option_and_then (leaf_table joined tables)) e
        ∙ same_table known design joined cells tables k instance at tables_are
        ∙ ap (option_and_then (table_of_leaf known.device known.names)) (sym at.leaf_is)
