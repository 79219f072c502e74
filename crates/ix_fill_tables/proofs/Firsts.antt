-- The first item of a list that passes a test, and the table of a placed cell.
use Rattle.std.proofs.Common.{◌≡◌, ◌<◌, ◌∙◌, refl, ap, sym, ℕ, arith, inl, inr, List, length}
use Rattle.std.proofs.Common.{slice_get, Option, Some, None, option_and_then, Bool, true, false}
use Rattle.std.proofs.Common.{nat_eq, nat_lt, cond, is_some, if◌then◌else◌}
use Rattle.std.specs.List.{position, position_or_len}
use Rattle.std.specs.FinMap.{get}
use Rattle.std.proofs.lemmas.Bool.{cases_lt, cases_eq, false≢true, true≢false, eqb-true, eq-eqb}
use Rattle.std.proofs.lemmas.List.Sums.{fails_before_first}
use Rattle.std.proofs.lemmas.Option.{none-some, same_Some, get_or_from_slice_get}
use Rattle.ix_rec.specs.declared.device.LutCell.{LutCell}
use Rattle.ix_rec.specs.declared.flow.Flat.{Flat}
use Rattle.ix_rec.specs.declared.flow.FlatCell.{FlatCell}
use Rattle.ix_rec.specs.declared.flow.TruthTable.{TruthTable}
use Rattle.ix_rec.specs.declared.phys.CellPlacement.{CellPlacement}
use Rattle.ix_device.proofs.OptionLemmas.{position-at, list_any-position}
use Rattle.ix_device.proofs.Walks.{any_at}
use Rattle.ix_ends.proofs.Items.{chained}
use Rattle.ix_fill_tables.specs.Completed.{IsTold}
use Rattle.ix_fill_tables.specs.Told.{name_of, of_inputs, told_table}

module _ {A : Type 0} (p : A → Bool) (xs : List A) where
  place_is : (k : ℕ) → position p xs ≡ Some k → position_or_len p xs ≡ k
  place_is k h = by (nat_lt (position_or_len p xs) (length xs)) h
    where
      by : (b : Bool) → cond b (Some (position_or_len p xs)) None ≡ Some k
          → position_or_len p xs ≡ k
      by true e = same_Some (position_or_len p xs) k e
      by false e = absurd (none-some k e)

  pub none_earlier : (k q : ℕ) (y : A) → position p xs ≡ Some k → q < k
      → slice_get xs q ≡ Some y → p y ≡ true → ⊥
  none_earlier k q y h less at passes =
      let first = place_is k h in
      true≢false (sym passes ∙ ap p (sym (get_or_from_slice_get xs q y y at))
      ∙ fails_before_first p xs q y (omega (arith, less, first)))

  pub is_first : (k : ℕ) (x : A) → slice_get xs k ≡ Some x → p x ≡ true
      → ((q : ℕ) (y : A) → q < k → slice_get xs q ≡ Some y → p y ≡ true → ⊥)
      → position p xs ≡ Some k
  is_first k x at passes none = by (position p xs) refl
    where
      by : (o : Option ℕ) → position p xs ≡ o → o ≡ Some k
      by None e = absurd (false≢true (sym (list_any-position p xs ∙ ap is_some e)
          ∙ any_at p xs k x at passes))
      by (Some n) e = elim (cases_lt n k) [
        | inl before ↦
            let found = position-at p xs n e in
            absurd (none n found.0 before found.1 found.2)
        | inr past ↦ elim (cases_eq n k) [
          | inl same ↦ ap Some same
          | inr apart ↦ absurd (none_earlier n k x e
              (let more : k < n = omega (arith, past, apart) in more) at passes)
        ]
      ]

-- The table that the design tells.

of_inputs_is : (n : ℕ) (u t : TruthTable) → of_inputs n u ≡ Some t → (u ≡ t) × (u.inputs ≡ n)
of_inputs_is n u t h = by (nat_eq u.inputs n) refl h
  where
    by : (b : Bool) → nat_eq u.inputs n ≡ b → (if b then Some u else None) ≡ Some t
        → (u ≡ t) × (u.inputs ≡ n)
    by true e h = (same_Some u t h, eqb-true u.inputs n e)
    by false e h = absurd (none-some t h)

pub told : (flat : Flat) (placement : CellPlacement) (lut : LutCell) (n : ℕ) (t : TruthTable)
    → n ≡ length lut.input_pins → told_table flat placement.cell_name n ≡ Some t
    → IsTold flat placement lut t
told flat placement lut n t all h =
    let name = placement.cell_name in
    let test : FlatCell → Bool = λ cell. nat_eq (name_of cell) name in
    let table = chained (of_inputs n)
    (option_and_then (get flat.tables) (position test flat.cells)) t h in
    let cell = chained (get flat.tables) (position test flat.cells) table.0 table.1 in
    let its = position-at test flat.cells cell.0 cell.1 in
    let is = of_inputs_is n table.0 t table.2 in
    record {
      cell = cell.0;
      cell_is = record {
        its = its.0;
        its_is = its.1;
        name_is = eqb-true (name_of its.0) name its.2;
        first = λ q other less at same. none_earlier test flat.cells cell.0 q other cell.1 less at
            (eq-eqb (name_of other) name same);
      };
      table_is = cell.2 ∙ ap Some is.0;
      inputs = ap (λ (x : TruthTable). x.inputs) (sym is.0) ∙ is.1 ∙ all;
    }

pub telling : (flat : Flat) (placement : CellPlacement) (lut : LutCell) (n : ℕ) (t : TruthTable)
    → n ≡ length lut.input_pins → IsTold flat placement lut t
    → told_table flat placement.cell_name n ≡ Some t
telling flat placement lut n t all is =
    let name = placement.cell_name in
    let test : FlatCell → Bool = λ cell. nat_eq (name_of cell) name in
    let first : position test flat.cells ≡ Some is.cell =
    is_first test flat.cells is.cell is.cell_is.its is.cell_is.its_is
    (eq-eqb (name_of is.cell_is.its) name is.cell_is.name_is)
    (λ q y less at passes. is.cell_is.first q y less at (eqb-true (name_of y) name passes)) in
    ap (λ o. option_and_then (of_inputs n) (option_and_then (get flat.tables) o)) first
    ∙ ap (option_and_then (of_inputs n)) is.table_is
    ∙ ap (λ b. if b then Some t else None) (eq-eqb t.inputs n (is.inputs ∙ sym all))
