-- What the top reaches are declarations of the netlist.
use Rattle.std.proofs.Common.{◌≡◌, ℕ, ◌<◌, List, [], ◌∷◌, length, refl, sym, ap, ◌∙◌, subst, Option, Some, None, zero, suc, get_or}
use Rattle.std.specs.Prelude.{slice_get, slice_index, Contains}
use Rattle.std.specs.List.{AllByRecursion}
use Rattle.std.proofs.lemmas.Option.{slice_get_within, get_or_from_slice_get, slice_get-get_or}
use Rattle.ix_rec.specs.declared.netlist.NetlistRec.{NetlistRec}
use Rattle.ix_hierarchy.specs.Fits.{NetlistFits}
use Rattle.ix_hierarchy.specs.Broken.{IsDescent, Reaches}
use Rattle.ix_hierarchy.specs.Lists.{AreMet, AreFirstCells, first_cell}

pub all_at : {X : Type 0} (P : X → Type 0) (xs : List X) (k : ℕ) (x : X) → AllByRecursion P xs
    → slice_get xs k ≡ Some x → P x
all_at P [] k x all is = absurd (no x is)
  where
    no : {X : Type 0} (x : X) → None ≡ Some x → ⊥
    no x e = cc
all_at P (y ∷ xs) zero x all is = subst P (same y x is) all.0
  where
    same : {X : Type 0} (y x : X) → Some y ≡ Some x → y ≡ x
    same y x e = cc
all_at P (y ∷ xs) (suc k) x all is = all_at P xs k x all.1 is

descent_within : (names : ℕ) (design : NetlistRec) (from : ℕ) (way : List ℕ) (to : ℕ)
    → NetlistFits names design → from < length design.cell_decls → IsDescent design from way to
    → to < length design.cell_decls
descent_within names design from [] to fits low same = subst (λ (n : ℕ). n < length design.cell_decls) same low
descent_within names design from (next ∷ way) to fits low goes =
    descent_within names design next way to fits
    (subst (λ (n : ℕ). n < length design.cell_decls) goes.0.of_inner
    (all_at _ design.inst_list goes.0.instance goes.0.inst fits.insts goes.0.inst_is).cell) goes.1

pub reached_within : (names : ℕ) (design : NetlistRec) (to : ℕ) → NetlistFits names design
    → Reaches design design.top_inst.cell to → to < length design.cell_decls
reached_within names design to fits reaches =
    descent_within names design design.top_inst.cell reaches.0 to fits fits.top.cell reaches.1

pub contains_at : (xs : List ℕ) (k x : ℕ) → slice_get xs k ≡ Some x → Contains xs x
contains_at xs k x is = (k, slice_get_within xs k x is, get_or_from_slice_get xs k x x is)

pub met_within : (names : ℕ) (design : NetlistRec) (met : List ℕ) (turn declaration : ℕ)
    → NetlistFits names design → AreMet design met → slice_get met turn ≡ Some declaration
    → declaration < length design.cell_decls
met_within names design met turn declaration fits are is =
    reached_within names design declaration fits ((are.reached declaration).0 (contains_at met turn declaration is))

pub looked_up : (design : NetlistRec) (cells : List (Option ℕ)) (declaration : ℕ)
    → AreFirstCells design cells → declaration < length design.cell_decls
    → first_cell design declaration ≡ get_or cells declaration None
looked_up design cells declaration are within =
    sym (get_or_from_slice_get cells declaration (first_cell design declaration) None (are.each declaration within))

pub none_from : (o : Option ℕ) → ((x : ℕ) → o ≡ Some x → ⊥) → o ≡ None
none_from None f = refl
none_from (Some x) f = absurd (f x refl)

pub met_contains : (met : List ℕ) (declaration : ℕ) → Contains met declaration
    → (turn : ℕ) × (turn < length met) × (slice_get met turn ≡ Some declaration)
met_contains met declaration (k, within, is) = (k, within, slice_get-get_or met k declaration within ∙ ap Some is)

pub index_to : (xs : List ℕ) (k x : ℕ) → slice_get xs k ≡ Some x → slice_index xs k ≡ x
index_to xs k x is = get_or_from_slice_get xs k x 0 is

pub to_index : (xs : List ℕ) (k : ℕ) → k < length xs → slice_get xs k ≡ Some (slice_index xs k)
to_index xs k lt = slice_get-get_or xs k 0 lt
