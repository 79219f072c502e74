-- Instances by their paths, and leaves of unknown type.
use Rattle.std.proofs.Common.{◌≡◌, ◌<◌, ◌≤◌, ◌∙◌, ℕ, List, [], ◌∷◌, ◌++◌, length}
use Rattle.std.proofs.Common.{Option, Some, None, slice_get, nat_eq}
use Rattle.std.proofs.Common.{refl, sym, ap, subst, arith}
use Rattle.std.specs.Prelude.{option_and_then, option_map, cond, nat_lt}
use Rattle.std.specs.List.{position_or_len}
use Rattle.std.proofs.lemmas.Bool.Decides.{nat_tests}
use Rattle.std.proofs.lemmas.List.Folds.{find_at}
use Rattle.std.proofs.lemmas.Option.{same_Some, none-some, cond_some, slice_get_past}
use Rattle.ix_rec.specs.declared.device.DeviceRec.{DeviceRec}
use Rattle.ix_rec.specs.declared.netlist.Cell.{Cell}
use Rattle.ix_rec.specs.declared.netlist.CellDeclaration.{CellDeclaration}
use Rattle.ix_rec.specs.declared.netlist.CellInstance.{CellInstance}
use Rattle.ix_rec.specs.declared.netlist.NetlistRec.{NetlistRec}
use Rattle.ix_hierarchy.specs.declared.kind.Kind.{Kind}
use Rattle.ix_hierarchy.specs.declared.kind.Kind.TheVariants.{Inside, Constant, Plain, Unknown}
use Rattle.ix_hierarchy.specs.Hierarchy.{Path, IsLeaf, inside, child, child_of, reached}
use Rattle.ix_hierarchy.specs.Hierarchy.{instance_at}
use Rattle.ix_hierarchy.specs.Fits.{NetlistFits, InstanceFits}
use Rattle.ix_hierarchy.specs.Pins.{type_of, constant_of_type}
use Rattle.ix_hierarchy.specs.Walk.{InstanceAt}
use Rattle.ix_hierarchy.specs.Broken.{Contains as IsIn, BreaksN9, IsUnknownType}
use Rattle.ix_hierarchy.specs.Lists.{AreKinds, IsKind, IsMapped, first_cell}
use Rattle.ix_unknown.specs.Marked.{IsPlaced, IsUnknownAt}
use Rattle.ix_unknown.proofs.Parts.{gets_at, all_at, found_at}

pub first_some : (design : NetlistRec) (declaration place : ℕ)
    → first_cell design declaration ≡ Some place
    → inside design declaration ≡ slice_get design.cell_list place
first_some design declaration place h =
    find_at (λ cell. nat_eq cell.index declaration) design.cell_list
    ∙ ap (slice_get design.cell_list) (cond_some _ _ _ h).1

not_below : (k n : ℕ) → cond (nat_lt k n) (Some k) None ≡ None → n ≤ k
not_below k n e = grind (arith, nat_tests)

pub first_none : (design : NetlistRec) (declaration : ℕ)
    → first_cell design declaration ≡ None → inside design declaration ≡ None
first_none design declaration h =
    find_at (λ cell. nat_eq cell.index declaration) design.cell_list
    ∙ slice_get_past design.cell_list _
    (not_below (position_or_len (λ cell. nat_eq cell.index declaration) design.cell_list)
    (length design.cell_list) h)

pub first_within : (design : NetlistRec) (declaration cell : ℕ)
    → first_cell design declaration ≡ Some cell → cell < length design.cell_list
first_within design declaration cell h =
    let w = cond_some _ _ _ h in
    let e : position_or_len (λ (c : Cell). nat_eq c.index declaration) design.cell_list ≡ cell =
    w.1 in
    let b = w.0 in
    grind (arith, nat_tests)

not_inside : (device : DeviceRec) (design : NetlistRec) (declaration : ℕ) (kind : Kind)
    → IsKind device design declaration kind → ((cell : ℕ) → kind ≡ Inside cell → ⊥)
    → first_cell design declaration ≡ None
not_inside device design declaration (Inside cell) h leaf = absurd (leaf cell refl)
not_inside device design declaration (Constant constant) h leaf = h.1.0
not_inside device design declaration Plain h leaf = h.1.0
not_inside device design declaration Unknown h leaf = h.1.0

pub kind_leaf : (device : DeviceRec) (design : NetlistRec) (kinds : List Kind)
    (declaration : ℕ) (kind : Kind) → AreKinds device design kinds
    → slice_get kinds declaration ≡ Some kind → ((cell : ℕ) → kind ≡ Inside cell → ⊥)
    → inside design declaration ≡ None
kind_leaf device design kinds declaration kind K h leaf =
    first_none design declaration
    (not_inside device design declaration kind (K.each declaration kind h) leaf)

-- what is at a place of a declaration's cell
pub placed_child : (design : NetlistRec) (from inst : CellInstance) (cell : Cell) (place : ℕ)
    → inside design from.cell ≡ Some cell → IsPlaced design cell place inst
    → child design from place ≡ Some inst
placed_child design from inst cell place a P =
    ap (option_and_then (λ cell. child_of design cell place)) a
    ∙ ap (option_and_then (slice_get design.inst_list)) P.which ∙ P.in_list

pub child_placed : (design : NetlistRec) (from inst : CellInstance) (place : ℕ)
    → child design from place ≡ Some inst
    → (cell : Cell) × (inside design from.cell ≡ Some cell) × IsPlaced design cell place inst
child_placed design from inst place h = by (inside design from.cell) refl h
  where
    in_cell : (cell : Cell) → inside design from.cell ≡ Some cell → (o : Option ℕ)
        → slice_get cell.insts place ≡ o
        → option_and_then (slice_get design.inst_list) o ≡ Some inst
        → (cell : Cell) × (inside design from.cell ≡ Some cell)
        × IsPlaced design cell place inst
    in_cell cell e None f g = absurd cc
    in_cell cell e (Some number) f g =
        (cell, e, record { number = number; which = f; in_list = g })

    by : (o : Option Cell) → inside design from.cell ≡ o
        → option_and_then (λ cell. child_of design cell place) o ≡ Some inst
        → (cell : Cell) × (inside design from.cell ≡ Some cell)
        × IsPlaced design cell place inst
    by None e f = absurd cc
    by (Some cell) e f = in_cell cell e (slice_get cell.insts place) refl f

pub placed_in : (design : NetlistRec) (declaration place : ℕ) (cell : Cell)
    (inst : CellInstance) → inside design declaration ≡ Some cell
    → IsPlaced design cell place inst → IsIn design declaration inst.cell
placed_in design declaration place cell inst e P =
    let at = found_at (λ (c : Cell). nat_eq c.index declaration) design.cell_list cell e in
    record {
      place = at.0;
      cell = cell;
      cell_is = at.1;
      of_outer = grind (arith, nat_tests, at.2);
      position = place;
      instance = P.number;
      has = P.which;
      inst = inst;
      inst_is = P.in_list;
      of_inner = refl;
    }

-- a child on the way
on_way : (design : NetlistRec) (from inst : CellInstance) (place : ℕ) (path : Path)
    → reached design from (place ∷ path) ≡ Some inst
    → (next : CellInstance) × (child design from place ≡ Some next)
    × (reached design next path ≡ Some inst)
unfolding reached
on_way design from inst place path h = by (child design from place) refl h
  where
    by : (o : Option CellInstance) → child design from place ≡ o
        → option_and_then (λ i. reached design i path) o ≡ Some inst
        → (next : CellInstance) × (child design from place ≡ Some next)
        × (reached design next path ≡ Some inst)
    by None e f = absurd cc
    by (Some next) e f = (next, e, f)

reached_same : (design : NetlistRec) (from inst : CellInstance)
    → reached design from [] ≡ Some inst → from ≡ inst
unfolding reached
reached_same design from inst h = same_Some from inst h

-- an unknown leaf at a path is one below each instance on it
pub unknown_below : (design : NetlistRec) (kinds : List Kind) (from inst : CellInstance)
    (path rest : Path) → reached design from path ≡ Some inst
    → IsUnknownAt design kinds from.cell (path ++ rest) → IsUnknownAt design kinds inst.cell rest
unknown_below design kinds from inst [] rest h u =
    subst (λ (i : CellInstance). IsUnknownAt design kinds i.cell rest)
    (reached_same design from inst h) u
unknown_below design kinds from inst (place ∷ path) rest h (cell, other, e, P, u) =
    let w = on_way design from inst place path h in
    let same : other ≡ w.0 =
    same_Some other w.0 (sym (placed_child design from other cell place e P) ∙ w.1) in
    unknown_below design kinds w.0 inst path rest w.2
    (subst (λ (i : CellInstance). IsUnknownAt design kinds i.cell (path ++ rest)) same u)

pub unknown_at : (design : NetlistRec) (kinds : List Kind) (from inst : CellInstance)
    (path : Path) → reached design from path ≡ Some inst
    → slice_get kinds inst.cell ≡ Some Unknown → IsUnknownAt design kinds from.cell path
unknown_at design kinds from inst [] h u =
    subst (λ (i : CellInstance). slice_get kinds i.cell ≡ Some Unknown)
    (sym (reached_same design from inst h)) u
unknown_at design kinds from inst (place ∷ path) h u =
    let w = on_way design from inst place path h in
    let P = child_placed design from w.0 place w.1 in
    (P.0, w.0, P.1, P.2, unknown_at design kinds w.0 inst path w.2 u)

-- a leaf of unknown type has that kind
leaf_kind : (device : DeviceRec) (design : NetlistRec) (inst : CellInstance) (ty : ℕ)
    (kind : Kind) → IsKind device design inst.cell kind → inside design inst.cell ≡ None
    → type_of design inst ≡ Some ty → IsUnknownType device ty → kind ≡ Unknown
leaf_kind device design inst ty (Inside cell) h leaf type_is unknown =
    let at = gets_at design.cell_list cell (first_within design inst.cell cell h) in
    absurd (none-some at.0 (sym leaf ∙ first_some design inst.cell cell h ∙ at.1))
leaf_kind device design inst ty (Constant constant) h leaf type_is unknown =
    let e : h.0 ≡ ty = same_Some h.0 ty
    (sym (ap (option_map (λ (d : CellDeclaration). d.name)) h.1.1.1 ∙ ap Some h.1.1.2) ∙ type_is) in
    absurd (none-some constant (sym unknown.1
    ∙ ap (constant_of_type device) (sym e) ∙ h.2))
leaf_kind device design inst ty Plain h leaf type_is unknown =
    let e : h.0 ≡ ty = same_Some h.0 ty
    (sym (ap (option_map (λ (d : CellDeclaration). d.name)) h.1.1.1 ∙ ap Some h.1.1.2) ∙ type_is) in
    absurd (unknown.0 (subst (λ (n : ℕ). IsMapped device n) e h.3))
leaf_kind device design inst ty Unknown h leaf type_is unknown = refl

few_from : (names : ℕ) (design : NetlistRec) (from inst : CellInstance) (path : Path)
    → NetlistFits names design → from.cell < length design.cell_decls
    → reached design from path ≡ Some inst → inst.cell < length design.cell_decls
few_from names design from inst [] F few h =
    subst (λ (i : CellInstance). i.cell < length design.cell_decls)
    (reached_same design from inst h) few
few_from names design from inst (place ∷ path) F few h =
    let w = on_way design from inst place path h in
    let P = child_placed design from w.0 place w.1 in
    few_from names design w.0 inst path F
    (all_at (InstanceFits names design) design.inst_list P.2.number w.0 F.insts P.2.in_list).cell
    w.2

pub breaks_unknown : (names : ℕ) (device : DeviceRec) (design : NetlistRec) (kinds : List Kind)
    (path : Path) → NetlistFits names design → AreKinds device design kinds
    → BreaksN9 device design (InstanceAt path)
    → IsUnknownAt design kinds design.top_inst.cell path × (path ≡ [] → ⊥)
breaks_unknown names device design kinds path F K (inst, ty, leaf, unknown) =
    let many = K.many in
    let L : IsLeaf design path inst = leaf.leaf in
    let few : inst.cell < length design.cell_decls =
    few_from names design design.top_inst inst path F F.top.cell L.is in
    let kind = gets_at kinds inst.cell (omega arith) in
    let u : kind.0 ≡ Unknown = leaf_kind device design inst ty kind.0
    (K.each inst.cell kind.0 kind.1) L.no_inside leaf.type_is unknown in (
      unknown_at design kinds design.top_inst inst path L.is (kind.1 ∙ ap Some u),
      λ e. not_empty L.parent L.place (sym e ∙ L.below),
    )
  where
    not_empty : (parent : Path) (place : ℕ) → [] ≡ parent ++ place ∷ [] → ⊥
    not_empty [] place e = cc
    not_empty (x ∷ parent) place e = cc

pub unknown_breaks : (device : DeviceRec) (design : NetlistRec) (kinds : List Kind)
    (path parent : Path) (place : ℕ) (inst : CellInstance) → AreKinds device design kinds
    → instance_at design path ≡ Some inst → path ≡ parent ++ place ∷ []
    → slice_get kinds inst.cell ≡ Some Unknown → BreaksN9 device design (InstanceAt path)
unknown_breaks device design kinds path parent place inst K is below u =
    let h : IsKind device design inst.cell Unknown = K.each inst.cell Unknown u in (
      inst,
      h.0,
      record {
        leaf = record {
          parent = parent;
          place = place;
          below = below;
          is = is;
          no_inside = first_none design inst.cell h.1.0;
        };
        type_is = ap (option_map (λ (d : CellDeclaration). d.name)) h.1.1.1 ∙ ap Some h.1.1.2;
      },
      h.2,
    )
