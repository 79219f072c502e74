-- Instances by their paths, and the declarations that the top reaches.
use Rattle.std.proofs.Common.{◌≡◌, ◌∙◌, ℕ, [], ◌∷◌, ◌++◌}
use Rattle.std.proofs.Common.{Option, Some, None, slice_get, ap, refl}
use Rattle.std.specs.Prelude.{option_and_then}
use Rattle.ix_rec.specs.declared.netlist.Cell.{Cell}
use Rattle.ix_rec.specs.declared.netlist.CellInstance.{CellInstance}
use Rattle.ix_rec.specs.declared.netlist.NetlistRec.{NetlistRec}
use Rattle.ix_hierarchy.specs.Hierarchy.{Path, inside, child, child_of, reached, instance_at}
use Rattle.ix_hierarchy.specs.Hierarchy.{inside_at}

pub reached_append : (design : NetlistRec) (from : CellInstance) (p q : Path)
    → reached design from (p ++ q)
    ≡ option_and_then (λ inst. reached design inst q) (reached design from p)
unfolding reached
reached_append design from [] q = refl
reached_append design from (place ∷ p) q = elim (child design from place) as
    (λ (o : Option CellInstance).
    option_and_then (λ inst. reached design inst (p ++ q)) o
    ≡ option_and_then (λ inst. reached design inst q)
    (option_and_then (λ inst. reached design inst p) o)) [
      | None ↦ refl
      | Some inst ↦ reached_append design inst p q
    ]

reached_one : (design : NetlistRec) (from : CellInstance) (place : ℕ)
    → reached design from (place ∷ []) ≡ child design from place
unfolding reached
reached_one design from place = elim (child design from place) as (λ (o : Option CellInstance).
    option_and_then (λ inst. Some inst) o ≡ o) [ None ↦ refl | Some inst ↦ refl ]

pub instance_below : (design : NetlistRec) (path : Path) (place : ℕ) (inst : CellInstance)
    → instance_at design path ≡ Some inst
    → instance_at design (path ++ place ∷ []) ≡ child design inst place
instance_below design path place inst h =
    reached_append design design.top_inst path (place ∷ [])
    ∙ ap (option_and_then (λ i. reached design i (place ∷ []))) h
    ∙ reached_one design inst place

pub child_at : (design : NetlistRec) (parent : CellInstance) (cell : Cell) (place number : ℕ)
    (inst : CellInstance) → inside design parent.cell ≡ Some cell
    → slice_get cell.insts place ≡ Some number → slice_get design.inst_list number ≡ Some inst
    → child design parent place ≡ Some inst
child_at design parent cell place number inst a b c =
    ap (option_and_then (λ cell. child_of design cell place)) a
    ∙ ap (option_and_then (slice_get design.inst_list)) b ∙ c

pub inside_there : (design : NetlistRec) (path : Path) (cell : Cell)
    → inside_at design path ≡ Some cell
    → (inst : CellInstance) × (instance_at design path ≡ Some inst)
    × (inside design inst.cell ≡ Some cell)
inside_there design path cell h = there (instance_at design path) refl h
  where
    there : (o : Option CellInstance) → instance_at design path ≡ o
        → option_and_then (λ inst. inside design inst.cell) o ≡ Some cell
        → (inst : CellInstance) × (instance_at design path ≡ Some inst)
        × (inside design inst.cell ≡ Some cell)
    there None e h = absurd cc
    there (Some inst) e h = (inst, e, h)

pub there_inside : (design : NetlistRec) (path : Path) (inst : CellInstance) (cell : Cell)
    → instance_at design path ≡ Some inst → inside design inst.cell ≡ Some cell
    → inside_at design path ≡ Some cell
there_inside design path inst cell a b =
    ap (option_and_then (λ i. inside design i.cell)) a ∙ b
