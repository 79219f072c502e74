-- The first cell of a declaration, by its kind.
use Rattle.std.proofs.Common.{◌≡◌, ◌<◌, ◌≤◌, ◌∙◌, ℕ, suc, zero, List, [], ◌∷◌, length, get_or}
use Rattle.std.proofs.Common.{Some, None, slice_get, ap, subst, refl, arith, nat_eq}
use Rattle.std.specs.Prelude.{cond, nat_lt}
use Rattle.std.specs.List.{AllByRecursion, position_or_len}
use Rattle.std.proofs.lemmas.List.Folds.{find_at}
use Rattle.std.proofs.lemmas.Option.{slice_get-get_or, same_Some, cond_some, slice_get_past}
use Rattle.std.proofs.lemmas.Bool.Decides.{nat_tests}
use Rattle.ix_rec.specs.declared.device.DeviceRec.{DeviceRec}
use Rattle.ix_rec.specs.declared.netlist.Cell.{Cell}
use Rattle.ix_rec.specs.declared.netlist.NetlistRec.{NetlistRec}
use Rattle.ix_hierarchy.specs.declared.kind.Kind.{Kind}
use Rattle.ix_hierarchy.specs.declared.kind.Kind.TheVariants.{Inside, Constant, Plain, Unknown}
use Rattle.ix_hierarchy.specs.Hierarchy.{inside}
use Rattle.ix_hierarchy.specs.Lists.{AreKinds, IsKind, first_cell}

pub all_at : {X : Type 0} (P : X → Type 0) → (xs : List X) (i : ℕ) (x : X) → AllByRecursion P xs
    → slice_get xs i ≡ Some x → P x
all_at P [] i x a h = absurd cc
all_at P (y ∷ xs) zero x a h = subst P (same_Some y x h) a.0
all_at P (y ∷ xs) (suc i) x a h = all_at P xs i x a.1 h

pub gets_at : {X : Type 0} → (xs : List X) (i : ℕ) → i < length xs
    → (x : X) × (slice_get xs i ≡ Some x)
gets_at [] i few = absurd (omega arith)
gets_at (x ∷ xs) zero few = (x, refl)
gets_at (x ∷ xs) (suc i) few = gets_at xs i (omega arith)

pub read_kind : (kinds : List Kind) (declaration : ℕ) (kind d : Kind)
    → declaration < length kinds → get_or kinds declaration d ≡ kind
    → slice_get kinds declaration ≡ Some kind
read_kind kinds declaration kind d few is = slice_get-get_or kinds declaration d few ∙ ap Some is

pub first_some : (design : NetlistRec) (declaration place : ℕ)
    → first_cell design declaration ≡ Some place
    → inside design declaration ≡ slice_get design.cell_list place
first_some design declaration place h =
    find_at (λ cell. nat_eq cell.index declaration) design.cell_list
    ∙ ap (slice_get design.cell_list) (cond_some _ _ _ h).1

not_below : (k n : ℕ) → cond (nat_lt k n) (Some k) None ≡ None → n ≤ k
not_below k n e = grind (arith, nat_tests)

first_none : (design : NetlistRec) (declaration : ℕ) → first_cell design declaration ≡ None
    → inside design declaration ≡ None
first_none design declaration h =
    find_at (λ cell. nat_eq cell.index declaration) design.cell_list
    ∙ slice_get_past design.cell_list _
    (not_below (position_or_len (λ cell. nat_eq cell.index declaration) design.cell_list)
    (length design.cell_list) h)

pub first_within : (design : NetlistRec) (declaration cell : ℕ)
    → first_cell design declaration ≡ Some cell → cell < length design.cell_list
first_within design declaration cell h =
    let w = cond_some _ _ _ h in
    let e : position_or_len (λ (c : Cell). nat_eq c.index declaration) design.cell_list ≡ cell =
    w.1 in
    let b = w.0 in
    grind (arith, nat_tests)

pub kind_inside : (device : DeviceRec) (design : NetlistRec) (kinds : List Kind)
    (declaration cell : ℕ) → AreKinds device design kinds
    → slice_get kinds declaration ≡ Some (Inside cell) → first_cell design declaration ≡ Some cell
kind_inside device design kinds declaration cell K h = K.each declaration (Inside cell) h

is_leaf : (device : DeviceRec) (design : NetlistRec) (declaration : ℕ) (kind : Kind)
    → IsKind device design declaration kind → ((cell : ℕ) → kind ≡ Inside cell → ⊥)
    → first_cell design declaration ≡ None
is_leaf device design declaration (Inside cell) h leaf = absurd (leaf cell refl)
is_leaf device design declaration (Constant constant) h leaf = h.1.0
is_leaf device design declaration Plain h leaf = h.1.0
is_leaf device design declaration Unknown h leaf = h.1.0

pub kind_leaf : (device : DeviceRec) (design : NetlistRec) (kinds : List Kind) (declaration : ℕ)
    (kind : Kind) → AreKinds device design kinds → slice_get kinds declaration ≡ Some kind
    → ((cell : ℕ) → kind ≡ Inside cell → ⊥) → inside design declaration ≡ None
kind_leaf device design kinds declaration kind K h leaf =
    first_none design declaration
    (is_leaf device design declaration kind (K.each declaration kind h) leaf)
