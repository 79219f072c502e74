-- Instances by their paths, and the declarations that the top reaches.
use Rattle.std.proofs.Common.{◌≡◌, ◌≤◌, ◌∙◌, ℕ, List, [], ◌∷◌, ◌++◌, length}
use Rattle.std.proofs.Common.{Option, Some, None, slice_get, ap, refl, arith, nat_eq}
use Rattle.std.specs.Prelude.{option_and_then, cond, nat_lt}
use Rattle.std.specs.List.{position_or_len}
use Rattle.std.proofs.lemmas.List.Folds.{find_at}
use Rattle.std.proofs.lemmas.Bool.Decides.{nat_tests}
use Rattle.std.proofs.lemmas.Option.{slice_get_past, same_Some}
use Rattle.ix_rec.specs.declared.device.DeviceRec.{DeviceRec}
use Rattle.ix_rec.specs.declared.netlist.Cell.{Cell}
use Rattle.ix_rec.specs.declared.netlist.CellInstance.{CellInstance}
use Rattle.ix_rec.specs.declared.netlist.NetlistRec.{NetlistRec}
use Rattle.ix_hierarchy.specs.declared.kind.Kind.{Kind}
use Rattle.ix_hierarchy.specs.declared.kind.Kind.TheVariants.{Inside, Constant, Plain, Unknown}
use Rattle.ix_hierarchy.specs.Hierarchy.{Path, inside, child, child_of, reached, instance_at}
use Rattle.ix_hierarchy.specs.Hierarchy.{inside_at}
use Rattle.ix_hierarchy.specs.Broken.{Contains as IsIn, Reaches}
use Rattle.ix_hierarchy.specs.Lists.{AreKinds, IsKind, first_cell}
use Rattle.ix_one_net.proofs.Parts.{found_at}

pub reached_append : (design : NetlistRec) (from : CellInstance) (p q : Path)
    → reached design from (p ++ q)
    ≡ option_and_then (λ inst. reached design inst q) (reached design from p)
unfolding reached
reached_append design from [] q = refl
reached_append design from (place ∷ p) q = elim (child design from place) as
    (λ (o : Option CellInstance).
    option_and_then (λ inst. reached design inst (p ++ q)) o
    ≡ option_and_then (λ inst. reached design inst q)
    (option_and_then (λ inst. reached design inst p) o)) [
      | None ↦ refl
      | Some inst ↦ reached_append design inst p q
    ]

reached_one : (design : NetlistRec) (from : CellInstance) (place : ℕ)
    → reached design from (place ∷ []) ≡ child design from place
unfolding reached
reached_one design from place = elim (child design from place) as (λ (o : Option CellInstance).
    option_and_then (λ inst. Some inst) o ≡ o) [ None ↦ refl | Some inst ↦ refl ]

pub instance_below : (design : NetlistRec) (path : Path) (place : ℕ) (inst : CellInstance)
    → instance_at design path ≡ Some inst
    → instance_at design (path ++ place ∷ []) ≡ child design inst place
instance_below design path place inst h =
    reached_append design design.top_inst path (place ∷ [])
    ∙ ap (option_and_then (λ i. reached design i (place ∷ []))) h
    ∙ reached_one design inst place

pub child_at : (design : NetlistRec) (parent : CellInstance) (cell : Cell) (place number : ℕ)
    (inst : CellInstance) → inside design parent.cell ≡ Some cell
    → slice_get cell.insts place ≡ Some number → slice_get design.inst_list number ≡ Some inst
    → child design parent place ≡ Some inst
child_at design parent cell place number inst a b c =
    ap (option_and_then (λ cell. child_of design cell place)) a
    ∙ ap (option_and_then (slice_get design.inst_list)) b ∙ c

pub inside_there : (design : NetlistRec) (path : Path) (cell : Cell)
    → inside_at design path ≡ Some cell
    → (inst : CellInstance) × (instance_at design path ≡ Some inst)
    × (inside design inst.cell ≡ Some cell)
inside_there design path cell h = there (instance_at design path) refl h
  where
    there : (o : Option CellInstance) → instance_at design path ≡ o
        → option_and_then (λ inst. inside design inst.cell) o ≡ Some cell
        → (inst : CellInstance) × (instance_at design path ≡ Some inst)
        × (inside design inst.cell ≡ Some cell)
    there None e h = absurd cc
    there (Some inst) e h = (inst, e, h)

pub there_inside : (design : NetlistRec) (path : Path) (inst : CellInstance) (cell : Cell)
    → instance_at design path ≡ Some inst → inside design inst.cell ≡ Some cell
    → inside_at design path ≡ Some cell
there_inside design path inst cell a b =
    ap (option_and_then (λ i. inside design i.cell)) a ∙ b

-- a leaf has nothing inside
first_none : (design : NetlistRec) (declaration : ℕ) → first_cell design declaration ≡ None
    → inside design declaration ≡ None
first_none design declaration h =
    find_at (λ cell. nat_eq cell.index declaration) design.cell_list
    ∙ slice_get_past design.cell_list _
    (not_below (position_or_len (λ cell. nat_eq cell.index declaration) design.cell_list)
    (length design.cell_list) h)
  where
    not_below : (k n : ℕ) → cond (nat_lt k n) (Some k) None ≡ None → n ≤ k
    not_below k n e = grind (arith, nat_tests)

is_leaf : (device : DeviceRec) (design : NetlistRec) (declaration : ℕ) (kind : Kind)
    → IsKind device design declaration kind → ((cell : ℕ) → kind ≡ Inside cell → ⊥)
    → first_cell design declaration ≡ None
is_leaf device design declaration (Inside cell) h leaf = absurd (leaf cell refl)
is_leaf device design declaration (Constant constant) h leaf = h.1.0
is_leaf device design declaration Plain h leaf = h.1.0
is_leaf device design declaration Unknown h leaf = h.1.0

pub kind_leaf : (device : DeviceRec) (design : NetlistRec) (kinds : List Kind) (declaration : ℕ)
    (kind : Kind) → AreKinds device design kinds → slice_get kinds declaration ≡ Some kind
    → ((cell : ℕ) → kind ≡ Inside cell → ⊥) → inside design declaration ≡ None
kind_leaf device design kinds declaration kind K h leaf =
    first_none design declaration
    (is_leaf device design declaration kind (K.each declaration kind h) leaf)

-- what is at a path is reached
contains_child : (design : NetlistRec) (from inst : CellInstance) (place : ℕ)
    → child design from place ≡ Some inst → IsIn design from.cell inst.cell
contains_child design from inst place h = by (inside design from.cell) refl h
  where
    in_cell : (cell : Cell) → inside design from.cell ≡ Some cell → (o : Option ℕ)
        → slice_get cell.insts place ≡ o
        → option_and_then (slice_get design.inst_list) o ≡ Some inst
        → IsIn design from.cell inst.cell
    in_cell cell e None f g = absurd cc
    in_cell cell e (Some number) f g =
        let at = found_at (λ (c : Cell). nat_eq c.index from.cell) design.cell_list cell e in
        record {
          place = at.0;
          cell = cell;
          cell_is = at.1;
          of_outer = grind (arith, nat_tests, at.2);
          position = place;
          instance = number;
          has = f;
          inst = inst;
          inst_is = g;
          of_inner = refl;
        }

    by : (o : Option Cell) → inside design from.cell ≡ o
        → option_and_then (λ cell. child_of design cell place) o ≡ Some inst
        → IsIn design from.cell inst.cell
    by None e f = absurd cc
    by (Some cell) e f = in_cell cell e (slice_get cell.insts place) refl f

reaches_from : (design : NetlistRec) (from inst : CellInstance) (path : Path)
    → reached design from path ≡ Some inst → Reaches design from.cell inst.cell
unfolding reached
reaches_from design from inst [] h = ([], ap (λ (i : CellInstance). i.cell) (same_Some from inst h))
reaches_from design from inst (place ∷ path) h =
    by (child design from place) refl h
    (λ c r. reaches_from design c inst path r)
  where
    by : (o : Option CellInstance) → child design from place ≡ o
        → option_and_then (λ i. reached design i path) o ≡ Some inst
        → ((c : CellInstance) → reached design c path ≡ Some inst → Reaches design c.cell inst.cell)
        → Reaches design from.cell inst.cell
    by None e f rest = absurd cc
    by (Some c) e f rest =
        let w = rest c f in
        (c.cell ∷ w.0, (contains_child design from c place e, w.1))

pub reaches : (design : NetlistRec) (path : Path) (inst : CellInstance)
    → instance_at design path ≡ Some inst → Reaches design design.top_inst.cell inst.cell
reaches design path inst h = reaches_from design design.top_inst inst path h
