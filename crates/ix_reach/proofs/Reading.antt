-- What a netlist's record that fits tells, and the first cells as they are handed on.
use Rattle.std.proofs.Common.{◌≡◌, ◌≢◌, ℕ, zero, suc, ◌+◌, ◌<◌, List, [], ◌∷◌, length, slice_get}
use Rattle.std.proofs.Common.{Option, Some, None, refl, sym, ap, ◌∙◌, subst, arith, option_map}
use Rattle.std.proofs.Common.{Bool, true, false, nat_eq, cond, inr}
use Rattle.std.specs.List.{AllByRecursion, position_from}
use Rattle.std.proofs.lemmas.Bool.{eqb-true, eqb-false}
use Rattle.std.proofs.lemmas.Iterator.Adapters.{position_from-zero}
use Rattle.std.proofs.lemmas.Option.{none-some, same_Some}
use Rattle.ix_rec.specs.declared.netlist.Cell.{Cell}
use Rattle.ix_rec.specs.declared.netlist.NetlistRec.{NetlistRec}
use Rattle.ix_hierarchy.specs.Broken.{None1}
use Rattle.ix_hierarchy.specs.Fits.{NetlistFits, CellFits, InstanceFits}
use Rattle.ix_hierarchy.specs.Lists.{AreFirstCells, AreMet, first_cell}
use Rattle.ix_reach.specs.Cells.{AreCells, DesignFits, IsFirstFrom, IsCellAt}
use Rattle.ix_reach.specs.State.{State, first_of_two}
use Rattle.ix_reach.specs.Searching.{IsSearched}
use Rattle.ix_reach.proofs.Places.{get_within}
use Rattle.ix_reach.proofs.Ending.{listed, placed, closed_met, met_reached, reached_closed}
use Rattle.ix_reach.proofs.Meeting.{met_firsts}

among : {A : Type 0} (P : A → Type 0) (xs : List A) (i : ℕ) (x : A) → AllByRecursion P xs
    → slice_get xs i ≡ Some x → P x
among P [] i x all at = absurd (none-some x at)
among P (y ∷ ys) zero x all at = subst P (same_Some y x at) all.0
among P (y ∷ ys) (suc i) x all at = among P ys i x all.1 at

pub design_fits : (design : NetlistRec) → (names : ℕ) × NetlistFits names design
    → DesignFits design
design_fits design fits = record {
  cells = record {
    within = λ k cell at.
        (among (CellFits fits.0 design) design.cell_list k cell fits.1.cells at).index;
  };
  top = fits.1.top.cell;
  has = λ k q instance cell at has. among (λ i. i < length design.inst_list) cell.insts q instance
      (among (CellFits fits.0 design) design.cell_list k cell fits.1.cells at).insts has;
  inner = λ i inst at.
      (among (InstanceFits fits.0 design) design.inst_list i inst fits.1.insts at).cell;
}

-- the place of the first cell of a declaration
from_place : (cells : List Cell) (d base : ℕ) (o : Option ℕ)
    → ((k : ℕ) (c : Cell) → o ≡ None → slice_get cells k ≡ Some c → c.index ≢ d)
    → ((j : ℕ) → o ≡ Some j → (c : Cell) × (slice_get cells j ≡ Some c) × (c.index ≡ d))
    → ((j k : ℕ) (c : Cell) → o ≡ Some j → k < j → slice_get cells k ≡ Some c → c.index ≢ d)
    → position_from (λ (cell : Cell). nat_eq cell.index d) base cells
    ≡ option_map (λ j. base + j) o
from_place [] d base None none some before = refl
from_place [] d base (Some j) none some before = let x : _ = some j refl in
    absurd (none-some x.0 x.1)
from_place (x ∷ xs) d base o none some before =
    by (λ p n s b. from_place xs d (base + 1) p n s b) (nat_eq x.index d) refl o none some before
  where
    by : ((p : Option ℕ)
        → ((k : ℕ) (c : Cell) → p ≡ None → slice_get xs k ≡ Some c → c.index ≢ d)
        → ((j : ℕ) → p ≡ Some j → (c : Cell) × (slice_get xs j ≡ Some c) × (c.index ≡ d))
        → ((j k : ℕ) (c : Cell) → p ≡ Some j → k < j → slice_get xs k ≡ Some c → c.index ≢ d)
        → position_from (λ (cell : Cell). nat_eq cell.index d) (base + 1) xs
        ≡ option_map (λ j. base + 1 + j) p)
        → (b : Bool) → nat_eq x.index d ≡ b → (p : Option ℕ)
        → ((k : ℕ) (c : Cell) → p ≡ None → slice_get (x ∷ xs) k ≡ Some c → c.index ≢ d)
        → ((j : ℕ) → p ≡ Some j → (c : Cell) × (slice_get (x ∷ xs) j ≡ Some c) × (c.index ≡ d))
        → ((j k : ℕ) (c : Cell) → p ≡ Some j → k < j → slice_get (x ∷ xs) k ≡ Some c
        → c.index ≢ d)
        → cond (nat_eq x.index d) (Some base)
        (position_from (λ (cell : Cell). nat_eq cell.index d) (base + 1) xs)
        ≡ option_map (λ j. base + j) p
    by more true is None none_p some_p before_p =
        absurd (none_p 0 x refl refl (eqb-true x.index d is))
    by more true is (Some zero) none_p some_p before_p = ap (λ v. cond v (Some base)
        (position_from (λ (cell : Cell). nat_eq cell.index d) (base + 1) xs)) is
        ∙ ap Some (omega arith)
    by more true is (Some (suc j)) none_p some_p before_p =
        absurd (before_p (suc j) 0 x refl (omega arith) refl (eqb-true x.index d is))
    by more false is None none_p some_p before_p = ap (λ v. cond v (Some base)
        (position_from (λ (cell : Cell). nat_eq cell.index d) (base + 1) xs)) is
        ∙ more None (λ k c e at. none_p (suc k) c e at) (λ j e. absurd (none-some j e))
        (λ j k c e lt at. absurd (none-some j e))
    by more false is (Some zero) none_p some_p before_p = let y : _ = some_p 0 refl in
        absurd (eqb-false x.index d is
        (ap (λ (c : Cell). c.index) (same_Some x y.0 y.1) ∙ y.2))
    by more false is (Some (suc j)) none_p some_p before_p = ap (λ v. cond v (Some base)
        (position_from (λ (cell : Cell). nat_eq cell.index d) (base + 1) xs)) is
        ∙ more (Some j) (λ k c e at. absurd (none-some j (sym e)))
        (λ i e. let y : _ = some_p (suc i) (ap (λ o. option_map suc o) e) in (y.0, y.1, y.2))
        (λ i k c e lt at. before_p (suc i) (suc k) c (ap (λ o. option_map suc o) e) (omega arith)
        at)
        ∙ ap Some (omega arith)

first_is_place : (design : NetlistRec) (d : ℕ) (o : Option ℕ) → IsFirstFrom design 0 d o
    → first_cell design d ≡ o
first_is_place design d o h =
    position_from-zero (λ (cell : Cell). nat_eq cell.index d) design.cell_list
    ∙ by o h
  where
    same : (p : Option ℕ) → option_map (λ j. 0 + j) p ≡ p
    same None = refl
    same (Some j) = ap Some (omega arith)

    by : (p : Option ℕ) → IsFirstFrom design 0 d p
        → position_from (λ (cell : Cell). nat_eq cell.index d) 0 design.cell_list ≡ p
    by None none = from_place design.cell_list d 0 None
        (λ k c e at index. none k (omega arith) (c, at, index))
        (λ j e. absurd (none-some j e)) (λ j k c e lt at. absurd (none-some j e))
    by (Some i) first = from_place design.cell_list d 0 (Some i)
        (λ k c e at. absurd (none-some i (sym e)))
        (λ j e. subst (λ n. IsCellAt design d n) (same_Some i j e) first.1)
        (λ j k c e lt at index. let z : i ≡ j = same_Some i j e in
        first.2 k (omega arith) (omega arith) (c, at, index))
        ∙ same (Some i)

pub first_cells : (design : NetlistRec) (first next : List (Option ℕ)) → AreCells design first next
    → AreFirstCells design first
first_cells design first next h = record {
  many = h.first_many;
  each = λ d lt.
      let many : length first ≡ length design.cell_decls = h.first_many in
      let x : _ = get_within first d (omega arith) in
      x.1 ∙ ap Some (sym (first_is_place design d x.0 (h.first_is d x.0 x.1)));
}

no_loop : (looped two : Option ℕ) → first_of_two looped two ≡ None → looped ≡ None
no_loop looped None e = e
no_loop looped (Some n) e = absurd (none-some _ (sym e))

pub none_looped : (looped two : Option ℕ) → first_of_two looped two ≡ None → looped ≡ None
none_looped looped two e = no_loop looped two e

pub are_met : (design : NetlistRec) (s : State) → IsSearched design s
    → design.top_inst.cell < length design.cell_decls → s.looped ≡ None → None1 design
    → AreMet design s.met
are_met design s h top none keeps = record {
  reached = λ d. (
    λ has. met_reached design s h d (placed s.met d has),
    λ reached. listed s.met d (closed_met design s h d (reached_closed design s h top d reached)),
  );
  differ = h.search.is.marked.met_differ;
  first = met_firsts design s.met h.search.is.marked.met_differ
      (h.search.is.straight none).met_is (λ d two. keeps d (inr two));
}
