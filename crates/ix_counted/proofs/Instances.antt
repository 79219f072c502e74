-- Instances: the cells of declarations, and ways down.
use Rattle.std.proofs.Common.{◌≡◌, ℕ, zero, suc, ◌+◌, ◌<◌, List, [], ◌∷◌, ◌++◌, length}
use Rattle.std.proofs.Common.{slice_get, Option, Some, None, refl, sym, ap, ◌∙◌, subst, arith}
use Rattle.std.proofs.Common.{Bool, true, false, nat_eq, cond, option_and_then}
use Rattle.std.specs.List.{AllByRecursion, Contains, find, position_from}
use Rattle.std.proofs.lemmas.Bool.{eqb-true}
use Rattle.std.proofs.lemmas.Iterator.Adapters.{position_from-zero}
use Rattle.std.proofs.lemmas.Option.{none-some, same_Some, slice_get_within, slice_get-get_or}
use Rattle.ix_rec.specs.declared.netlist.Cell.{Cell}
use Rattle.ix_rec.specs.declared.netlist.CellInstance.{CellInstance}
use Rattle.ix_rec.specs.declared.netlist.NetlistRec.{NetlistRec}
use Rattle.ix_hierarchy.specs.Hierarchy.{Path, child, child_of, inside, reached}
use Rattle.ix_hierarchy.specs.Broken.{Contains as IsInside, IsDescent, Reaches}
use Rattle.ix_hierarchy.specs.Lists.{first_cell}
use Rattle.ix_counted.specs.Counts.{CountsFit}
use Rattle.ix_counted.proofs.Places.{get_within}

pub among : {A : Type 0} (P : A → Type 0) (xs : List A) (i : ℕ) (x : A) → AllByRecursion P xs
    → slice_get xs i ≡ Some x → P x
among P [] i x all at = absurd (none-some x at)
among P (y ∷ ys) zero x all at = subst P (same_Some y x at) all.0
among P (y ∷ ys) (suc i) x all at = among P ys i x all.1 at

pub found_where : (cells : List Cell) (d : ℕ) (c : Cell)
    → find (λ (cell : Cell). nat_eq cell.index d) cells ≡ Some c
    → (k : ℕ) × (slice_get cells k ≡ Some c) × (c.index ≡ d)
found_where [] d c e = absurd (none-some c e)
found_where (x ∷ xs) d c e = by (found_where xs d c) (nat_eq x.index d) refl
  where
    by : (find (λ (cell : Cell). nat_eq cell.index d) xs ≡ Some c
        → (k : ℕ) × (slice_get xs k ≡ Some c) × (c.index ≡ d)) → (b : Bool)
        → nat_eq x.index d ≡ b
        → (k : ℕ) × (slice_get (x ∷ xs) k ≡ Some c) × (c.index ≡ d)
    by more true is =
        let same : Some x ≡ Some c =
        ap (λ v. cond v (Some x) (find (λ (y : Cell). nat_eq y.index d) xs)) (sym is) ∙ e in (
          0,
          same,
          subst (λ (y : Cell). y.index ≡ d) (same_Some x c same)
              (eqb-true x.index d is),
        )
    by more false is =
        let rest : _ = more
        (ap (λ v. cond v (Some x) (find (λ (y : Cell). nat_eq y.index d) xs)) (sym is) ∙ e) in
        (suc rest.0, rest.1, rest.2)

-- the first cell of a declaration is its inside
at_place : (cells : List Cell) (d base i : ℕ)
    → position_from (λ (cell : Cell). nat_eq cell.index d) base cells ≡ Some i
    → (j : ℕ) × (i ≡ base + j) × (find (λ (cell : Cell). nat_eq cell.index d) cells
    ≡ slice_get cells j)
at_place [] d base i e = absurd (none-some i e)
at_place (x ∷ xs) d base i e = by (at_place xs d (base + 1) i) (nat_eq x.index d) refl
  where
    by : (position_from (λ (cell : Cell). nat_eq cell.index d) (base + 1) xs ≡ Some i
        → (j : ℕ) × (i ≡ base + 1 + j) × (find (λ (cell : Cell). nat_eq cell.index d) xs
        ≡ slice_get xs j)) → (b : Bool) → nat_eq x.index d ≡ b
        → (j : ℕ) × (i ≡ base + j) × (find (λ (cell : Cell). nat_eq cell.index d) (x ∷ xs)
        ≡ slice_get (x ∷ xs) j)
    by more true is =
        let same : Some base ≡ Some i = ap (λ v. cond v (Some base)
        (position_from (λ (cell : Cell). nat_eq cell.index d) (base + 1) xs)) (sym is) ∙ e in
        let one : base ≡ i = same_Some base i same in (
          0,
          omega arith,
          ap (λ v. cond v (Some x) (find (λ (cell : Cell). nat_eq cell.index d) xs)) is,
        )
    by more false is =
        let rest : _ = more (ap (λ v. cond v (Some base)
        (position_from (λ (cell : Cell). nat_eq cell.index d) (base + 1) xs)) (sym is) ∙ e) in (
          suc rest.0,
          omega (arith, rest.1),
          ap (λ v. cond v (Some x) (find (λ (cell : Cell). nat_eq cell.index d) xs)) is ∙ rest.2,
        )

no_place : (cells : List Cell) (d base : ℕ)
    → position_from (λ (cell : Cell). nat_eq cell.index d) base cells ≡ None
    → find (λ (cell : Cell). nat_eq cell.index d) cells ≡ None
no_place [] d base e = refl
no_place (x ∷ xs) d base e = by (no_place xs d (base + 1)) (nat_eq x.index d) refl
  where
    by : (position_from (λ (cell : Cell). nat_eq cell.index d) (base + 1) xs ≡ None
        → find (λ (cell : Cell). nat_eq cell.index d) xs ≡ None) → (b : Bool)
        → nat_eq x.index d ≡ b
        → find (λ (cell : Cell). nat_eq cell.index d) (x ∷ xs) ≡ None
    by more true is = absurd (none-some base (sym (ap (λ v. cond v (Some base)
        (position_from (λ (cell : Cell). nat_eq cell.index d) (base + 1) xs)) (sym is) ∙ e)))
    by more false is =
        ap (λ v. cond v (Some x) (find (λ (cell : Cell). nat_eq cell.index d) xs)) is
        ∙ more (ap (λ v. cond v (Some base)
        (position_from (λ (cell : Cell). nat_eq cell.index d) (base + 1) xs)) (sym is) ∙ e)

pub inside_first : (design : NetlistRec) (d number : ℕ) → first_cell design d ≡ Some number
    → inside design d ≡ slice_get design.cell_list number
inside_first design d number e =
    let x : _ = at_place design.cell_list d 0 number
    (sym (position_from-zero (λ (cell : Cell). nat_eq cell.index d) design.cell_list) ∙ e) in
    let same : x.0 ≡ number = omega (arith, x.1) in
    x.2 ∙ ap (λ k. slice_get design.cell_list k) same

pub inside_none : (design : NetlistRec) (d : ℕ) → first_cell design d ≡ None
    → inside design d ≡ None
inside_none design d e = no_place design.cell_list d 0
    (sym (position_from-zero (λ (cell : Cell). nat_eq cell.index d) design.cell_list) ∙ e)

-- an instance at a place of the inside of a declaration is contained in it
pub contained : (design : NetlistRec) (d place : ℕ) (cell : Cell) (x : CellInstance)
    → inside design d ≡ Some cell → child_of design cell place ≡ Some x
    → IsInside design d x.cell
contained design d place cell x is e = by (slice_get cell.insts place) refl
  where
    at : (k : ℕ) × (slice_get design.cell_list k ≡ Some cell) × (cell.index ≡ d)
    at = found_where design.cell_list d cell is

    by : (i : Option ℕ) → slice_get cell.insts place ≡ i → IsInside design d x.cell
    by None none = absurd (none-some x
        (ap (λ o. option_and_then (slice_get design.inst_list) o) (sym none) ∙ e))
    by (Some instance) has = record {
      place = at.0;
      cell = cell;
      cell_is = at.1;
      of_outer = at.2;
      position = place;
      instance = instance;
      has = has;
      inst = x;
      inst_is = ap (λ o. option_and_then (slice_get design.inst_list) o) (sym has) ∙ e;
      of_inner = refl;
    }

-- what the top reaches is in the list of declarations
pub reached_within : (design : NetlistRec) (d : ℕ) → CountsFit design
    → Reaches design design.top_inst.cell d → d < length design.cell_decls
reached_within design d fits r = by design.top_inst.cell r.0 fits.top r.1
  where
    by : (x : ℕ) (way : List ℕ) → x < length design.cell_decls → IsDescent design x way d
        → d < length design.cell_decls
    by x [] lt e = subst (λ y. y < length design.cell_decls) e lt
    by x (next ∷ way) lt h = by next way (subst (λ y. y < length design.cell_decls) h.0.of_inner
        (fits.inner h.0.instance h.0.inst h.0.inst_is)) h.1

pub placed : (xs : List ℕ) (x : ℕ) → Contains xs x → (i : ℕ) × (slice_get xs i ≡ Some x)
placed xs x h = (h.0, slice_get-get_or xs h.0 x h.1 ∙ ap Some h.2)

pub reached_more : (design : NetlistRec) (from : CellInstance) (p q : Path) (x : CellInstance)
    → reached design from p ≡ Some x → reached design from (p ++ q) ≡ reached design x q
unfolding reached
reached_more design from [] q x e = ap (λ i. reached design i q) (same_Some from x e)
reached_more design from (place ∷ p) q x e =
    by (λ i is. reached_more design i p q x is) (child design from place) e
  where
    by : ((i : CellInstance) → reached design i p ≡ Some x
        → reached design i (p ++ q) ≡ reached design x q) → (o : Option CellInstance)
        → option_and_then (λ inst. reached design inst p) o ≡ Some x
        → option_and_then (λ inst. reached design inst (p ++ q)) o ≡ reached design x q
    by more None is = absurd (none-some x is)
    by more (Some i) is = more i is

pub reached_one : (design : NetlistRec) (from : CellInstance) (place : ℕ) (x : CellInstance)
    → child design from place ≡ Some x → reached design from (place ∷ []) ≡ Some x
unfolding reached
reached_one design from place x e =
    ap (λ o. option_and_then (λ inst. reached design inst []) o) e

pub reached_first : (design : NetlistRec) (from : CellInstance) (place : ℕ) (rest : Path)
    (x : CellInstance) → reached design from (place ∷ rest) ≡ Some x
    → (i : CellInstance) × (child design from place ≡ Some i) × (reached design i rest ≡ Some x)
unfolding reached
reached_first design from place rest x e = by (child design from place) refl e
  where
    by : (o : Option CellInstance) → child design from place ≡ o
        → option_and_then (λ inst. reached design inst rest) o ≡ Some x
        → (i : CellInstance) × (child design from place ≡ Some i)
        × (reached design i rest ≡ Some x)
    by None none is = absurd (none-some x is)
    by (Some i) some is = (i, some, is)

pub reached_none : (design : NetlistRec) (from : CellInstance) → reached design from [] ≡ Some from
unfolding reached
reached_none design from = refl

-- the inside of an instance with a child
pub child_inside : (design : NetlistRec) (from : CellInstance) (place : ℕ) (x : CellInstance)
    → child design from place ≡ Some x
    → (cell : Cell) × (inside design from.cell ≡ Some cell)
    × (child_of design cell place ≡ Some x)
child_inside design from place x e = by (inside design from.cell) refl
  where
    by : (o : Option Cell) → inside design from.cell ≡ o
        → (cell : Cell) × (inside design from.cell ≡ Some cell)
        × (child_of design cell place ≡ Some x)
    by None none = absurd (none-some x (ap (λ o. option_and_then
        (λ cell. child_of design cell place) o) (sym none) ∙ e))
    by (Some cell) some = (
      cell,
      some,
      ap (λ o. option_and_then
          (λ c. child_of design c place) o) (sym some) ∙ e,
    )

pub child_from : (design : NetlistRec) (from : CellInstance) (place : ℕ) (cell : Cell)
    (x : CellInstance) → inside design from.cell ≡ Some cell
    → child_of design cell place ≡ Some x → child design from place ≡ Some x
child_from design from place cell x is e =
    ap (λ o. option_and_then (λ c. child_of design c place) o) is ∙ e

pub child_place : (design : NetlistRec) (cell : Cell) (place : ℕ) (x : CellInstance)
    → child_of design cell place ≡ Some x → place < length cell.insts
child_place design cell place x e = by (slice_get cell.insts place) refl
  where
    by : (i : Option ℕ) → slice_get cell.insts place ≡ i → place < length cell.insts
    by None none = absurd (none-some x
        (ap (λ o. option_and_then (slice_get design.inst_list) o) (sym none) ∙ e))
    by (Some instance) has = slice_get_within cell.insts place instance has

pub child_some : (design : NetlistRec) (k place : ℕ) (cell : Cell) → CountsFit design
    → slice_get design.cell_list k ≡ Some cell → place < length cell.insts
    → (x : CellInstance) × (child_of design cell place ≡ Some x)
    × (x.cell < length design.cell_decls)
child_some design k place cell fits at lt =
    let i : _ = get_within cell.insts place lt in
    let x : _ = get_within design.inst_list i.0 (fits.has k place i.0 cell at i.1) in (
      x.0,
      ap (λ o. option_and_then (slice_get design.inst_list) o) i.1 ∙ x.1,
      fits.inner i.0 x.0 x.1,
    )

place_within : (cells : List Cell) (d base i : ℕ)
    → position_from (λ (cell : Cell). nat_eq cell.index d) base cells ≡ Some i
    → i < base + length cells
place_within [] d base i e = absurd (none-some i e)
place_within (x ∷ xs) d base i e = by (place_within xs d (base + 1) i) (nat_eq x.index d) refl
  where
    by : (position_from (λ (cell : Cell). nat_eq cell.index d) (base + 1) xs ≡ Some i
        → i < base + 1 + length xs) → (b : Bool) → nat_eq x.index d ≡ b
        → i < base + length (x ∷ xs)
    by more true is =
        let same : Some base ≡ Some i = ap (λ v. cond v (Some base)
        (position_from (λ (cell : Cell). nat_eq cell.index d) (base + 1) xs)) (sym is) ∙ e in
        let one : base ≡ i = same_Some base i same in omega arith
    by more false is =
        let lt : i < base + 1 + length xs = more (ap (λ v. cond v (Some base)
        (position_from (λ (cell : Cell). nat_eq cell.index d) (base + 1) xs)) (sym is) ∙ e) in
        omega arith

pub first_within : (design : NetlistRec) (d number : ℕ) → first_cell design d ≡ Some number
    → number < length design.cell_list
first_within design d number e =
    let lt : number < 0 + length design.cell_list = place_within design.cell_list d 0 number
    (sym (position_from-zero (λ (cell : Cell). nat_eq cell.index d) design.cell_list) ∙ e) in
    omega arith
