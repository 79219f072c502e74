-- What the kinds of declarations tell of their cells, and what is in range.
use Rattle.std.proofs.Common.{◌≡◌, ◌⊎◌, ◌<◌, ◌≤◌, ◌∙◌, ℕ, suc, zero, List, [], ◌∷◌, length, get_or}
use Rattle.std.proofs.Common.{Some, None, slice_get, sym, ap, subst, refl, inl, inr, arith, nat_eq}
use Rattle.std.specs.List.{AllByRecursion, position_or_len}
use Rattle.std.proofs.lemmas.Option.{slice_get-get_or, same_Some, none-some, cond_some}
use Rattle.std.proofs.lemmas.Bool.Decides.{nat_tests}
use Rattle.ix_rec.specs.declared.device.DeviceRec.{DeviceRec}
use Rattle.ix_rec.specs.declared.netlist.Cell.{Cell}
use Rattle.ix_rec.specs.declared.netlist.CellInstance.{CellInstance}
use Rattle.ix_rec.specs.declared.netlist.NetlistRec.{NetlistRec}
use Rattle.ix_hierarchy.specs.declared.instance.Instance.{Instance}
use Rattle.ix_hierarchy.specs.declared.kind.Kind.{Kind}
use Rattle.ix_hierarchy.specs.declared.kind.Kind.TheVariants.{Inside, Constant, Plain, Unknown}
use Rattle.ix_hierarchy.specs.Hierarchy.{Path, inside}
use Rattle.ix_hierarchy.specs.Fits.{CellFits, InstanceFits}
use Rattle.ix_hierarchy.specs.Lists.{IsKind, IsOf, first_cell}
use Rattle.ix_instances.specs.Walked.{IsInRange, HasKinds, HasNoPlace}
use Rattle.ix_instances.proofs.Reached.{first_some, first_none}

pub all_at : {X : Type 0} (P : X → Type 0) → (xs : List X) (i : ℕ) (x : X) → AllByRecursion P xs
    → slice_get xs i ≡ Some x → P x
all_at P [] i x a h = absurd cc
all_at P (y ∷ xs) zero x a h = subst P (same_Some y x h) a.0
all_at P (y ∷ xs) (suc i) x a h = all_at P xs i x a.1 h

is_first : (device : DeviceRec) (design : NetlistRec) (declaration : ℕ) (kind : Kind)
    → IsKind device design declaration kind
    → ((cell : ℕ) × (kind ≡ Inside cell) × (first_cell design declaration ≡ Some cell))
    ⊎ (first_cell design declaration ≡ None)
is_first device design declaration (Inside cell) h = inl (cell, refl, h)
is_first device design declaration (Constant constant) h = inr h.1.0
is_first device design declaration Plain h = inr h.1.0
is_first device design declaration Unknown h = inr h.1.0

kind_first : (design : NetlistRec) (kinds : List Kind) (declaration : ℕ) (kind : Kind)
    → HasKinds design kinds → slice_get kinds declaration ≡ Some kind
    → ((cell : ℕ) × (kind ≡ Inside cell) × (first_cell design declaration ≡ Some cell))
    ⊎ (first_cell design declaration ≡ None)
kind_first design kinds declaration kind K h =
    is_first K.0 design declaration kind (K.1.each declaration kind h)

pub kind_inside : (design : NetlistRec) (kinds : List Kind) (declaration cell : ℕ)
    → HasKinds design kinds → slice_get kinds declaration ≡ Some (Inside cell)
    → first_cell design declaration ≡ Some cell
kind_inside design kinds declaration cell K h =
    elim (kind_first design kinds declaration (Inside cell) K h) [
      | inl w ↦
          let e : Inside cell ≡ Inside w.0 = w.1 in
          let f : cell ≡ w.0 = cc in
          w.2 ∙ ap Some (sym f)
      | inr w ↦ absurd (at_none (K.1.each declaration (Inside cell) h) w)
    ]
  where
    at_none : first_cell design declaration ≡ Some cell → first_cell design declaration ≡ None → ⊥
    at_none a b = none-some cell (sym b ∙ a)

pub kind_leaf : (design : NetlistRec) (kinds : List Kind) (declaration : ℕ) (kind : Kind)
    → HasKinds design kinds → slice_get kinds declaration ≡ Some kind
    → ((cell : ℕ) → kind ≡ Inside cell → ⊥) → inside design declaration ≡ None
kind_leaf design kinds declaration kind K h leaf =
    elim (kind_first design kinds declaration kind K h) [
      | inl w ↦ absurd (leaf w.0 w.1)
      | inr w ↦ first_none design declaration w
    ]

pub first_within : (design : NetlistRec) (declaration cell : ℕ)
    → first_cell design declaration ≡ Some cell → cell < length design.cell_list
first_within design declaration cell h =
    let w = cond_some _ _ _ h in
    let e : position_or_len (λ (c : Cell). nat_eq c.index declaration) design.cell_list ≡ cell =
    w.1 in
    let b = w.0 in
    grind (arith, nat_tests)

pub no_place : (design : NetlistRec) (declaration place number : ℕ) (cell : Cell)
    → first_cell design declaration ≡ Some number → slice_get design.cell_list number ≡ Some cell
    → length cell.insts ≤ place → HasNoPlace design declaration place
no_place design declaration place number cell first is few other h =
    let e : other ≡ cell =
    same_Some other cell (sym h ∙ first_some design declaration number first ∙ is) in
    let n : length other.insts ≡ length cell.insts = ap (λ (c : Cell). length c.insts) e in
    omega arith

pub leaf_no_place : (design : NetlistRec) (declaration place : ℕ)
    → inside design declaration ≡ None → HasNoPlace design declaration place
leaf_no_place design declaration place none other h = absurd (none-some other (sym none ∙ h))

-- instances that cells name are there, with declarations that are there
pub number_there : (design : NetlistRec) (k place number : ℕ) (cell : Cell) → IsInRange design
    → slice_get design.cell_list k ≡ Some cell → slice_get cell.insts place ≡ Some number
    → number < length design.inst_list
number_there design k place number cell (names, F) is has =
    let C : CellFits names design cell =
    all_at (CellFits names design) design.cell_list k cell F.cells is in
    all_at (λ (instance : ℕ). instance < length design.inst_list) cell.insts place number C.insts
    has

pub declared_there : (design : NetlistRec) (number : ℕ) (inst : CellInstance) → IsInRange design
    → slice_get design.inst_list number ≡ Some inst → inst.cell < length design.cell_decls
declared_there design number inst (names, F) is =
    (all_at (InstanceFits names design) design.inst_list number inst F.insts is).cell

pub one_declared : (design : NetlistRec) (paths : List Path) (path : Path) (one : Instance)
    → IsInRange design → IsOf design paths path one → one.declaration < length design.cell_decls
one_declared design paths path one (names, F) (inl w) =
    let h : design.top_inst.cell < length design.cell_decls = F.top.cell in
    let e = w.4 in
    omega arith
one_declared design paths path one R
    (inr (parent, cell, inst, at, below, in_cell, number, in_list, declared)) =
    let h : inst.cell < length design.cell_decls =
    declared_there design one.number inst R in_list in
    omega arith

pub read_kind : (kinds : List Kind) (declaration : ℕ) (kind d : Kind)
    → declaration < length kinds → get_or kinds declaration d ≡ kind
    → slice_get kinds declaration ≡ Some kind
read_kind kinds declaration kind d few is = slice_get-get_or kinds declaration d few ∙ ap Some is
