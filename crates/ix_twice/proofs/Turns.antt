-- The cells of declarations, one turn after another.
use Rattle.std.proofs.Common.{◌≡◌, ℕ, ◌+◌, ◌<◌, ◌≤◌, Bool, List, [], ◌∷◌, length, sym, ap, ◌∙◌, subst, Some, None, arith, inl, inr, get_or}
use Rattle.std.specs.Prelude.{nat_eq, slice_get}
use Rattle.std.specs.List.{position}
use Rattle.std.proofs.lemmas.Bool.{cases_eq}
use Rattle.std.proofs.lemmas.List.Quantifiers.{position-Some}
use Rattle.std.proofs.lemmas.Option.{slice_get_within, slice_get-get_or}
use Rattle.ix_message.specs.Shape.{Text}
use Rattle.ix_strings.specs.Names.{AllDiffer}
use Rattle.ix_rec.specs.declared.netlist.Cell.{Cell}
use Rattle.ix_rec.specs.declared.netlist.NetlistRec.{NetlistRec}
use Rattle.ix_hierarchy.specs.declared.row.Row.{Row}
use Rattle.ix_hierarchy.specs.Broken.{Reaches}
use Rattle.ix_hierarchy.specs.Lists.{AreAllRows, AreMet, AreWritten, IsOwnRow, IsOuterRow, first_cell}
use Rattle.ix_bit_rows.specs.Table.{RowTable, AreRowsIn, start_in, end_in}
use Rattle.ix_twice.specs.Facts.{AreRowsOfCell, rows_in}
use Rattle.ix_twice.specs.Turns.{IsTwice, IsFirstTwice, NoneTwice}
use Rattle.ix_twice.proofs.Reached.{contains_at, to_index}

position_below : {X : Type 0} (p : X → Bool) (xs : List X) (i : ℕ) → position p xs ≡ Some i
    → i < length xs
position_below p [] i is = absurd (no i is)
  where
    no : (n : ℕ) → None ≡ Some n → ⊥
    no n e = cc
position_below p (x ∷ xs) i is = (position-Some p (x ∷ xs) i x is).0

pub cell_within : (design : NetlistRec) (declaration place : ℕ)
    → first_cell design declaration ≡ Some place → place < length design.cell_list
cell_within design declaration place first =
    position_below (λ (c : Cell). nat_eq c.index declaration) design.cell_list place first

pub cell_there : (design : NetlistRec) (declaration place : ℕ)
    → first_cell design declaration ≡ Some place → (its : Cell) × (slice_get design.cell_list place ≡ Some its)
cell_there design declaration place first =
    item design.cell_list place (cell_within design declaration place first)
  where
    item : (xs : List Cell) (k : ℕ) → k < length xs → (x : Cell) × (slice_get xs k ≡ Some x)
    item [] k lt = absurd (omega arith)
    item (x ∷ xs) k lt = (get_or (x ∷ xs) k x, slice_get-get_or (x ∷ xs) k x lt)

part_of : (design : NetlistRec) (Is : Cell → Row → Type 0) (table : RowTable) (declaration place : ℕ) (its : Cell)
    → AreRowsIn design Is table → Reaches design design.top_inst.cell declaration
    → first_cell design declaration ≡ Some place → slice_get design.cell_list place ≡ Some its
    → (end_in table place ≤ length table.rows) × AreAllRows (Is its) (rows_in table place)
part_of design Is table declaration place its are reaches first is =
    let small : place < length design.cell_list = slice_get_within design.cell_list place its is in
    let start = to_index table.starts place (omega (arith, are.starts_many)) in
    let end = to_index table.ends place (omega (arith, are.ends_many)) in (
      (are.ordered place (start_in table place) (end_in table place) start end).1,
      are.each declaration place (start_in table place) (end_in table place) its reaches first is start end,
    )

pub rows_of_cell : (names : List Text) (design : NetlistRec) (met : List ℕ) (turn declaration place : ℕ) (its : Cell)
    (own outer : RowTable) (written : List ℕ) → AllDiffer names → AreMet design met
    → AreRowsIn design IsOwnRow own → AreRowsIn design IsOuterRow outer
    → AreWritten names design outer.rows written → slice_get met turn ≡ Some declaration
    → first_cell design declaration ≡ Some place → slice_get design.cell_list place ≡ Some its
    → AreRowsOfCell names design its own outer written place
rows_of_cell names design met turn declaration place its own outer written differ are own_are outer_are written_is met_is first is =
    let reaches = (are.reached declaration).0 (contains_at met turn declaration met_is) in
    let a = part_of design IsOwnRow own declaration place its own_are reaches first is in
    let b = part_of design IsOuterRow outer declaration place its outer_are reaches first is in
    record { differ = differ; own_high = a.0; own_rows = a.1; outer_high = b.0; outer_rows = b.1; written_is = written_is }

same_number : (m n : ℕ) → Some m ≡ Some n → m ≡ n
same_number m n e = cc

same_cell : (m n : Cell) → Some m ≡ Some n → m ≡ n
same_cell m n e = cc

no_number : (n : ℕ) → None ≡ Some n → ⊥
no_number n e = cc

pub none_in_cell : (names : List Text) (design : NetlistRec) (met : List ℕ) (turns declaration place : ℕ) (its : Cell)
    → NoneTwice names design met turns → slice_get met turns ≡ Some declaration
    → first_cell design declaration ≡ Some place → slice_get design.cell_list place ≡ Some its
    → ((n : ℕ) → ¬ IsTwice names design its n) → NoneTwice names design met (turns + 1)
none_in_cell names design met turns declaration place its none met_is first is here turn d p n lt d_is p_is t =
    elim (cases_eq turn turns) [
      | inl e ↦
          let d_same : declaration ≡ d = same_number declaration d (sym met_is ∙ ap (slice_get met) (sym e) ∙ d_is) in
          let p_same : place ≡ p = same_number place p (sym first ∙ ap (first_cell design) d_same ∙ p_is) in
          let c_same : t.0 ≡ its = same_cell t.0 its (sym t.1 ∙ ap (slice_get design.cell_list) (sym p_same) ∙ is) in
          here n (subst (λ (c : Cell). IsTwice names design c n) c_same t.2)
      | inr ne ↦ none turn d p n (omega arith) d_is p_is t
    ]

pub none_in_leaf : (names : List Text) (design : NetlistRec) (met : List ℕ) (turns declaration : ℕ)
    → NoneTwice names design met turns → slice_get met turns ≡ Some declaration
    → first_cell design declaration ≡ None → NoneTwice names design met (turns + 1)
none_in_leaf names design met turns declaration none met_is first turn d p n lt d_is p_is t =
    elim (cases_eq turn turns) [
      | inl e ↦
          let d_same : declaration ≡ d = same_number declaration d (sym met_is ∙ ap (slice_get met) (sym e) ∙ d_is) in
          absurd (no_number p (sym first ∙ ap (first_cell design) d_same ∙ p_is))
      | inr ne ↦ none turn d p n (omega arith) d_is p_is t
    ]

pub found_in_cell : (names : List Text) (design : NetlistRec) (met : List ℕ) (turns declaration place net : ℕ)
    (its : Cell) → NoneTwice names design met turns → slice_get met turns ≡ Some declaration
    → first_cell design declaration ≡ Some place → slice_get design.cell_list place ≡ Some its
    → IsTwice names design its net → ((m : ℕ) → IsTwice names design its m → net ≤ m)
    → IsFirstTwice names design met place net
found_in_cell names design met turns declaration place net its none met_is first is here least = record {
  turn = turns;
  declaration = declaration;
  met_is = met_is;
  cell_is = first;
  earlier = none;
  twice = (its, is, here);
  first = λ other lt t.
      let c_same : t.0 ≡ its = same_cell t.0 its (sym t.1 ∙ is) in
      let le = least other (subst (λ (c : Cell). IsTwice names design c other) c_same t.2) in
      omega arith;
}
