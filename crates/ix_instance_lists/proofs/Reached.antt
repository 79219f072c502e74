-- Instances by their paths.
use Rattle.std.proofs.Common.{◌≡◌, ◌≤◌, ◌∙◌, ℕ, List, [], ◌∷◌, ◌++◌, length}
use Rattle.std.proofs.Common.{Option, Some, None, slice_get, sym, ap, refl, inl, inr, arith, nat_eq}
use Rattle.std.specs.Prelude.{option_and_then, cond, nat_lt}
use Rattle.std.specs.List.{position_or_len}
use Rattle.std.proofs.lemmas.List.Folds.{find_at}
use Rattle.std.proofs.lemmas.Option.{slice_get_past, cond_some, none-some}
use Rattle.std.proofs.lemmas.Bool.Decides.{nat_tests}
use Rattle.ix_rec.specs.declared.netlist.Cell.{Cell}
use Rattle.ix_rec.specs.declared.netlist.CellInstance.{CellInstance}
use Rattle.ix_rec.specs.declared.netlist.NetlistRec.{NetlistRec}
use Rattle.ix_hierarchy.specs.declared.instance.Instance.{Instance}
use Rattle.ix_hierarchy.specs.Hierarchy.{Path, inside, child, child_of, reached, instance_at}
use Rattle.ix_hierarchy.specs.Hierarchy.{inside_at}
use Rattle.ix_hierarchy.specs.Lists.{IsOf, first_cell, nets_in}

pub reached_append : (design : NetlistRec) (from : CellInstance) (p q : Path)
    → reached design from (p ++ q) ≡ option_and_then (λ inst. reached design inst q)
    (reached design from p)
unfolding reached
reached_append design from [] q = refl
reached_append design from (place ∷ p) q = elim (child design from place) as
    (λ (o : Option CellInstance).
    option_and_then (λ inst. reached design inst (p ++ q)) o
    ≡ option_and_then (λ inst. reached design inst q)
    (option_and_then (λ inst. reached design inst p) o)) [
      | None ↦ refl
      | Some inst ↦ reached_append design inst p q
    ]

reached_one : (design : NetlistRec) (from : CellInstance) (place : ℕ)
    → reached design from (place ∷ []) ≡ child design from place
unfolding reached
reached_one design from place = elim (child design from place) as (λ (o : Option CellInstance).
    option_and_then (λ inst. Some inst) o ≡ o) [ None ↦ refl | Some inst ↦ refl ]

-- the instance at a place of the one at a path
pub instance_below : (design : NetlistRec) (path : Path) (place : ℕ) (inst : CellInstance)
    → instance_at design path ≡ Some inst
    → instance_at design (path ++ place ∷ []) ≡ child design inst place
instance_below design path place inst h =
    reached_append design design.top_inst path (place ∷ [])
    ∙ ap (option_and_then (λ i. reached design i (place ∷ []))) h
    ∙ reached_one design inst place

pub child_at : (design : NetlistRec) (parent : CellInstance) (cell : Cell) (place number : ℕ)
    (inst : CellInstance)
    → inside design parent.cell ≡ Some cell → slice_get cell.insts place ≡ Some number
    → slice_get design.inst_list number ≡ Some inst → child design parent place ≡ Some inst
child_at design parent cell place number inst a b c =
    ap (option_and_then (λ cell. child_of design cell place)) a
    ∙ ap (option_and_then (slice_get design.inst_list)) b ∙ c

-- what has an inside is there
pub inside_there : (design : NetlistRec) (path : Path) (cell : Cell)
    → inside_at design path ≡ Some cell
    → (inst : CellInstance) × (instance_at design path ≡ Some inst) ×
    (inside design inst.cell ≡ Some cell)
inside_there design path cell h = there (instance_at design path) refl h
  where
    there : (o : Option CellInstance) → instance_at design path ≡ o
        → option_and_then (λ inst. inside design inst.cell) o ≡ Some cell
        → (inst : CellInstance) × (instance_at design path ≡ Some inst) ×
        (inside design inst.cell ≡ Some cell)
    there None e h = absurd cc
    there (Some inst) e h = (inst, e, h)

pub there_inside : (design : NetlistRec) (path : Path) (inst : CellInstance) (cell : Cell)
    → instance_at design path ≡ Some inst → inside design inst.cell ≡ Some cell
    → inside_at design path ≡ Some cell
there_inside design path inst cell a b = ap (option_and_then (λ i. inside design i.cell)) a ∙ b

pub at_top : (design : NetlistRec) → instance_at design [] ≡ Some design.top_inst
unfolding reached
at_top design = refl

-- a listed instance is at its path
pub is_at : (design : NetlistRec) (paths : List Path) (path : Path) (one : Instance)
    → IsOf design paths path one
    → (inst : CellInstance) × (instance_at design path ≡ Some inst) × (inst.cell ≡ one.declaration)
is_at design paths path one (inl w) =
    (design.top_inst, ap (instance_at design) w.0 ∙ at_top design, sym w.4)
is_at design paths path one (inr
    (parent, cell, inst, at, below, in_cell, number, in_list, declared)) =
    let up = inside_there design parent cell in_cell in (
      inst,
      ap (instance_at design) below ∙ instance_below design parent one.place up.0 up.1
          ∙ child_at design up.0 cell one.place one.number inst up.2 number in_list,
      declared,
    )

-- the inside by the place of the first cell
pub first_some : (design : NetlistRec) (declaration place : ℕ)
    → first_cell design declaration ≡ Some place
    → inside design declaration ≡ slice_get design.cell_list place
first_some design declaration place h =
    find_at (λ cell. nat_eq cell.index declaration) design.cell_list
    ∙ ap (slice_get design.cell_list) (cond_some _ _ _ h).1

not_below : (k n : ℕ) → cond (nat_lt k n) (Some k) None ≡ None → n ≤ k
not_below k n e = grind (arith, nat_tests)

pub first_none : (design : NetlistRec) (declaration : ℕ) → first_cell design declaration ≡ None
    → inside design declaration ≡ None
first_none design declaration h =
    find_at (λ cell. nat_eq cell.index declaration) design.cell_list
    ∙ slice_get_past design.cell_list _
    (not_below (position_or_len (λ cell. nat_eq cell.index declaration) design.cell_list)
    (length design.cell_list) h)

pub nets_inside : (design : NetlistRec) (declaration : ℕ) (cell : Cell)
    → inside design declaration ≡ Some cell → nets_in design declaration ≡ length cell.nets
nets_inside design declaration cell h = by (first_cell design declaration) refl
  where
    by : (o : Option ℕ) → first_cell design declaration ≡ o
        → nets_in design declaration ≡ length cell.nets
    by None e = absurd (none-some cell (sym (first_none design declaration e) ∙ h))
    by (Some place) e =
        let at : slice_get design.cell_list place ≡ Some cell =
        sym (first_some design declaration place e) ∙ h in
        rw e (rw at refl)

pub nets_none : (design : NetlistRec) (declaration : ℕ) → inside design declaration ≡ None
    → nets_in design declaration ≡ 0
nets_none design declaration h = by (first_cell design declaration) refl
  where
    by : (o : Option ℕ) → first_cell design declaration ≡ o → nets_in design declaration ≡ 0
    by None e = rw e refl
    by (Some place) e =
        let at : slice_get design.cell_list place ≡ None =
        sym (first_some design declaration place e) ∙ h in
        rw e (rw at refl)
