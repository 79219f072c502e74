-- What instances are, by the kinds of their declarations.
use Rattle.std.proofs.Common.{◌≡◌, ◌<◌, ap, refl, sym, subst, ◌∙◌, ℕ, List}
use Rattle.std.proofs.Common.{slice_get, Some, None, length, inl, inr}
use Rattle.std.specs.Option.{option_map}
use Rattle.std.proofs.lemmas.Option.{none-some, same_Some}
use Rattle.ix_rec.specs.declared.device.DeviceRec.{DeviceRec}
use Rattle.ix_rec.specs.declared.netlist.CellDeclaration.{CellDeclaration}
use Rattle.ix_rec.specs.declared.netlist.CellInstance.{CellInstance}
use Rattle.ix_rec.specs.declared.netlist.NetlistRec.{NetlistRec}
use Rattle.ix_hierarchy.specs.declared.instance.Instance.{Instance}
use Rattle.ix_hierarchy.specs.Hierarchy.{Path, IsLeaf, inside}
use Rattle.ix_hierarchy.specs.Fits.{NetlistFits, InstanceFits}
use Rattle.ix_hierarchy.specs.Pins.{IsLeafOf, IsPlainLeaf, constant_of_type, type_of}
use Rattle.ix_hierarchy.specs.Lists.{AreInstances, IsLeafType, first_cell}
use Rattle.std.proofs.Common.{Bool, true, false, not, IsTrue, ◌↔◌}
use Rattle.ix_hierarchy.specs.declared.kind.Kind.{Kind}
use Rattle.ix_hierarchy.specs.declared.kind.Kind.TheVariants.{Inside, Constant, Plain, Unknown}
use Rattle.ix_hierarchy.specs.Walk.{InstanceAt}
use Rattle.ix_hierarchy.specs.Lists.{IsKind}
use Rattle.ix_joined.specs.declared.joined.Joined.{Joined}
use Rattle.ix_joined.specs.Joining.{Known, IsJoined}
use Rattle.ix_joined.specs.Kinds.{has_inside, is_plain}
use Rattle.ix_pins.proofs.Finds.{at_place, inside_none, inside_there, is_placed, IsPlaced, not_top}

-- the declaration of each instance is there
pub declared : (names : ℕ) (design : NetlistRec) (all : List Instance) (paths : List Path)
    (nets i : ℕ) (path : Path) (one : Instance) → NetlistFits names design
    → AreInstances design all paths nets → slice_get paths i ≡ Some path
    → slice_get all i ≡ Some one → one.declaration < length design.cell_decls
declared names design all paths nets i path one fits are at is =
    elim (are.each i path one at is) [
      | inl top ↦ subst (λ d. d < length design.cell_decls) (sym top.4) fits.top.cell
      | inr below ↦ subst (λ d. d < length design.cell_decls) below.8
          (at_place (InstanceFits names design) design.inst_list one.number below.2 fits.insts
          below.7).cell
    ]

-- a leaf, where the declaration has no cell
pub is_leaf : (design : NetlistRec) (all : List Instance) (paths : List Path) (nets i : ℕ)
    (path : Path) (one : Instance) (placed : IsPlaced design path one)
    → AreInstances design all paths nets → 0 < i → slice_get paths i ≡ Some path
    → slice_get all i ≡ Some one → first_cell design one.declaration ≡ None
    → IsLeaf design path placed.inst
is_leaf design all paths nets i path one placed are lt at is none =
    elim (are.each i path one at is) [
      | inl top ↦ absurd (not_top design all paths nets i are lt (at ∙ ap Some top.0))
      | inr below ↦ record {
        parent = below.0;
        place = one.place;
        below = below.4;
        is = placed.at_path;
        no_inside = ap (inside design) placed.of_it ∙ inside_none design one.declaration none;
      }
    ]

-- none, where it has one
pub no_leaf : (design : NetlistRec) (path : Path) (one : Instance) (inst : CellInstance)
    (place : ℕ) → IsPlaced design path one → first_cell design one.declaration ≡ Some place
    → IsLeaf design path inst → ⊥
no_leaf design path one inst place placed some leaf =
    let same : placed.inst ≡ inst = same_Some placed.inst inst (sym placed.at_path ∙ leaf.is) in
    let there = inside_there design one.declaration place some in
    none-some there.0 (sym leaf.no_inside ∙ ap (λ (i : CellInstance). inside design i.cell)
    (sym same) ∙ ap (inside design) placed.of_it ∙ there.2)

-- its type
pub type_told : (design : NetlistRec) (path : Path) (one : Instance) (ty : ℕ)
    (placed : IsPlaced design path one) → IsLeafType design one.declaration ty
    → type_of design placed.inst ≡ Some ty
type_told design path one ty placed is =
    ap (λ d. option_map (λ (declared : CellDeclaration). declared.name)
    (slice_get design.cell_decls d)) placed.of_it
    ∙ ap (option_map (λ (declared : CellDeclaration). declared.name)) is.1.1
    ∙ ap Some is.1.2

-- the type that a leaf has is that of its kind
pub same_type : (design : NetlistRec) (path : Path) (one : Instance) (ty other : ℕ)
    (inst : CellInstance) → IsPlaced design path one → IsLeafType design one.declaration ty
    → IsLeafOf design path inst other → ty ≡ other
same_type design path one ty other inst placed is leaf =
    let same : placed.inst ≡ inst =
    same_Some placed.inst inst (sym placed.at_path ∙ leaf.leaf.is) in
    same_Some ty other (sym (type_told design path one ty placed is)
    ∙ ap (type_of design) same ∙ leaf.type_is)

-- What kinds tell.

-- all that is said of an instance at its number
pub record IsThere (known : Known) (design : NetlistRec) (joined : Joined) (i : ℕ) (path : Path)
    (kind : Kind) : Type 0 where
  pub are : IsJoined known design joined
  pub below : 0 < i
  pub path_is : slice_get known.paths i ≡ Some path
  pub one : Instance
  pub one_is : slice_get joined.instances.items i ≡ Some one
  pub kind_is : slice_get joined.kinds.items one.declaration ≡ Some kind

-- no cell, where the kind isn't of one with an inside
not_inside : (device : DeviceRec) (design : NetlistRec) (declaration : ℕ) (kind : Kind)
    → IsKind device design declaration kind → has_inside kind ≡ false
    → (ty : ℕ) × IsLeafType design declaration ty
not_inside device design declaration (Inside cell) is h = absurd (cc)
not_inside device design declaration (Constant constant) is h = (is.0, is.1)
not_inside device design declaration Plain is h = (is.0, is.1)
not_inside device design declaration Unknown is h = (is.0, is.1)

with_inside : (device : DeviceRec) (design : NetlistRec) (declaration : ℕ) (kind : Kind)
    → IsKind device design declaration kind → has_inside kind ≡ true
    → (place : ℕ) × (first_cell design declaration ≡ Some place)
with_inside device design declaration (Inside cell) is h = (cell, is)
with_inside device design declaration (Constant constant) is h = absurd (cc)
with_inside device design declaration Plain is h = absurd (cc)
with_inside device design declaration Unknown is h = absurd (cc)

pub leaf_told : (known : Known) (design : NetlistRec) (joined : Joined) (i : ℕ) (path : Path)
    (kind : Kind) → IsThere known design joined i path kind
    → IsTrue (not (has_inside kind)) ↔ ((inst : CellInstance) × IsLeaf design path inst)
leaf_told known design joined i path kind there = by (has_inside kind) refl
  where
    is : IsKind known.device design there.one.declaration kind
    is = there.are.are_kinds.each there.one.declaration kind there.kind_is

    placed : IsPlaced design path there.one
    placed = is_placed design joined.instances.items known.paths (length joined.firsts.items) i path
        there.one there.are.are_instances there.path_is there.one_is

    by : (b : Bool) → has_inside kind ≡ b
        → IsTrue (not b) ↔ ((inst : CellInstance) × IsLeaf design path inst)
    by true h =
        let cell = with_inside known.device design there.one.declaration kind is h in (
          λ e. absurd (cc),
          λ leaf. absurd (no_leaf design path there.one leaf.0 cell.0 placed cell.1 leaf.1),
        )
    by false h =
        let ty = not_inside known.device design there.one.declaration kind is h in (
          λ e. (
            placed.inst,
            is_leaf design joined.instances.items known.paths
                (length joined.firsts.items) i path there.one placed there.are.are_instances there.below
                there.path_is there.one_is ty.1.0,
          ),
          λ leaf. refl,
        )

pub plain_told : (known : Known) (design : NetlistRec) (joined : Joined) (i : ℕ) (path : Path)
    (kind : Kind) → IsThere known design joined i path kind
    → IsTrue (is_plain kind)
    ↔ ((inst : CellInstance) × (ty : ℕ) × IsPlainLeaf known.device design path inst ty)
plain_told known design joined i path kind there =
    by kind (there.are.are_kinds.each there.one.declaration kind there.kind_is)
  where
    placed : IsPlaced design path there.one
    placed = is_placed design joined.instances.items known.paths (length joined.firsts.items) i path
        there.one there.are.are_instances there.path_is there.one_is

    leaf_of : (ty : ℕ) → IsLeafType design there.one.declaration ty
        → IsLeafOf design path placed.inst ty
    leaf_of ty is = record {
      leaf = is_leaf design joined.instances.items known.paths (length joined.firsts.items) i path
          there.one placed there.are.are_instances there.below there.path_is there.one_is is.0;
      type_is = type_told design path there.one ty placed is;
    }

    by : (k : Kind) → IsKind known.device design there.one.declaration k
        → IsTrue (is_plain k)
        ↔ ((inst : CellInstance) × (ty : ℕ) × IsPlainLeaf known.device design path inst ty)
    by (Inside cell) is = (
      λ e. absurd (cc),
      λ leaf. absurd (no_leaf design path there.one leaf.0 cell placed is
          leaf.2.leaf.leaf),
    )
    by (Constant constant) is = (
      λ e. absurd (cc),
      λ leaf.
          let same : is.0 ≡ leaf.1 =
          same_type design path there.one is.0 leaf.1 leaf.0 placed is.1 leaf.2.leaf in
          absurd (none-some constant (sym leaf.2.plain
          ∙ ap (constant_of_type known.device) (sym same) ∙ is.2)),
    )
    by Plain is =
        (λ e. (placed.inst, is.0, record { leaf = leaf_of is.0 is.1; plain = is.2 }), λ leaf. refl)
    by Unknown is = (
      λ e. absurd (cc),
      λ leaf. absurd (there.are.keeps.0.1 (InstanceAt path)
          (placed.inst, is.0, leaf_of is.0 is.1, is.2)),
    )
