-- A flat design none of whose pins is on a net has no nets and no LUT cells.
use Rattle.std.proofs.Common.{◌≡◌, ◌∙◌, ap, refl, sym, subst, ℕ, zero, suc, ◌<◌, List, [], ◌∷◌}
use Rattle.std.proofs.Common.{length, slice_get, Option, Some, None, IsSome, is_some, Bool, true, false}
use Rattle.std.proofs.Common.{nat_eq, nat_le, ◌&&◌, ◌≤◌, ◌^◌, arith, cond}
use Rattle.std.proofs.Common.{Result, Ok, Err, IfOk}
use Rattle.std.specs.FinMap.{get, len, empty_of_len, len-empty}
use Rattle.std.specs.Ordering.{nat_cmp}
use Rattle.ix_rec.specs.Maps.{pin_order}
use Rattle.ix_num.specs.declared.resource.NetRef.{NetRef}
use Rattle.ix_first_fit.specs.Named.{CellNamed}
use Rattle.ix_belmap.specs.declared.ports.Fixing.{Fixing}
use Rattle.ix_belmap.specs.Pins.{IsFixed}
use Rattle.ix_job.specs.declared.stop.Stop.{Stop}
use Rattle.ix_job.specs.Chain.{Meets}
use Rattle.ix_flow.specs.Answer.{IsUnconnected, NamedCells, unconnected}
use Rattle.ix_flow.specs.Named.{named_cells}
use Rattle.std.specs.List.{AllByRecursion, find}
use Rattle.std.proofs.lemmas.Option.{none-some}
use Rattle.std.proofs.lemmas.Bool.{eqb-true}
use Rattle.ix_message.specs.Shape.{Text}
use Rattle.ix_rec.specs.declared.device.DeviceRec.{DeviceRec}
use Rattle.ix_rec.specs.declared.device.LutCell.{LutCell}
use Rattle.ix_rec.specs.declared.flow.CellPin.{CellPin}
use Rattle.ix_rec.specs.declared.flow.Flat.{Flat}
use Rattle.ix_rec.specs.declared.flow.FlatCell.{FlatCell}
use Rattle.ix_rec.specs.declared.flow.FlatNet.{FlatNet}
use Rattle.ix_rec.specs.declared.flow.TruthTable.{TruthTable}
use Rattle.ix_device.specs.Elements.{is_lut_cell, counts_as_lut, differ, is_by_parameter}
use Rattle.ix_device_rules.specs.Rules.{first_broken}
use Rattle.ix_fit_legal.specs.Laws.{ArePlain}
use Rattle.ix_flat.specs.Range.{IsNamed, NumbersFit}
use Rattle.ix_flat.specs.Whole.{IsDriven, IsLut, IsWhole, HasItsTable, lut_of_type}

-- no pin is on a net
abbrev pub NoPin : Flat → Type 0
NoPin flat = (cell pin : ℕ) → get flat.pins (cell, pin) ≡ None

undriven : (flat : Flat) (net : ℕ) (driver : Option CellPin) → NoPin flat
    → IsDriven flat net driver → ⊥
undriven flat net None none is = is
undriven flat net (Some driver) none is =
    none-some _ (sym (none driver.cell driver.pin) ∙ is.on)

pub no_nets : (names : List Text) (rec : DeviceRec) (flat : Flat) → NoPin flat
    → IsWhole names rec flat → flat.nets ≡ []
no_nets names rec flat none whole = by flat.nets refl
  where
    by : (nets : List FlatNet) → flat.nets ≡ nets → flat.nets ≡ []
    by [] e = e
    by (net ∷ nets) e = absurd (undriven flat 0 net.driver none
        (whole.driven 0 net (ap (λ xs. slice_get xs 0) e)))

found_passes : (p : LutCell → Bool) (xs : List LutCell) (x : LutCell) → find p xs ≡ Some x
    → p x ≡ true
found_passes p [] x e = absurd (none-some x e)
found_passes p (y ∷ ys) x e = by (found_passes p ys x) (p y) refl
  where
    by : (find p ys ≡ Some x → p x ≡ true) → (b : Bool) → p y ≡ b → p x ≡ true
    by more true is =
        let same : Some y ≡ Some x = ap (λ b. cond b (Some y) (find p ys)) (sym is) ∙ e in
        let here : y ≡ x = cc in ap p (sym here) ∙ is
    by more false is = more (ap (λ b. cond b (Some y) (find p ys)) (sym is) ∙ e)

second : (a b : Bool) → (a && b) ≡ true → b ≡ true
second true b e = e
second false b e = let bad : false ≡ true = e in cc

first : (a b : Bool) → (a && b) ≡ true → a ≡ true
first true b e = refl
first false b e = e

-- a LUT type has an input
counted : (ty : ℕ) (lut : LutCell) → is_lut_cell ty lut ≡ true
    → nat_le 1 (length lut.input_pins) ≡ true
counted ty lut is =
    let counts : counts_as_lut lut ≡ true = second (nat_eq lut.cell ty) (counts_as_lut lut) is in
    let sizes : (nat_le 1 (length lut.input_pins) && (nat_le (length lut.input_pins) 6
    && differ lut.input_pins)) ≡ true =
    second (is_by_parameter lut.equation) (nat_le 1 (length lut.input_pins)
    && (nat_le (length lut.input_pins) 6 && differ lut.input_pins)) counts in
    first (nat_le 1 (length lut.input_pins)) (nat_le (length lut.input_pins) 6
    && differ lut.input_pins) sizes

has_input : (pins : List ℕ) → nat_le 1 (length pins) ≡ true
    → (pin : ℕ) × (more : List ℕ) × (pins ≡ pin ∷ more)
has_input [] e = let bad : false ≡ true = e in absurd (true_false bad)
  where
    true_false : false ≡ true → ⊥
    true_false e = cc
has_input (pin ∷ pins) e = (pin, pins, refl)

unjoined : (flat : Flat) (cell : ℕ) (lut : LutCell) → NoPin flat → IsLut flat cell lut
    → (pin : ℕ) × (pins : List ℕ) × (lut.input_pins ≡ pin ∷ pins) → ⊥
unjoined flat cell lut none is has =
    let joined : is_some (get flat.pins (cell, has.0)) ≡ true =
    (subst (AllJoined flat cell) has.2 is.on_nets).0 in
    let bad : false ≡ true = ap is_some (sym (none cell has.0)) ∙ joined in cc
  where
    AllJoined : Flat → ℕ → List ℕ → Type 0
    AllJoined flat cell pins = AllByRecursion (λ pin. IsSome (get flat.pins (cell, pin))) pins

get_within : {X : Type 0} (xs : List X) (i : ℕ) → i < length xs
    → (x : X) × (slice_get xs i ≡ Some x)
get_within [] i lt = absurd (omega arith)
get_within (x ∷ xs) zero lt = (x, refl)
get_within (x ∷ xs) (suc i) lt = get_within xs i (omega arith)

pub no_tables : (names : List Text) (rec : DeviceRec) (flat : Flat) → NoPin flat → NumbersFit flat
    → IsWhole names rec flat → (cell : ℕ) → get flat.tables cell ≡ None
no_tables names rec flat none numbers whole cell = by (get flat.tables cell) refl
  where
    of_type : (table : TruthTable) → get flat.tables cell ≡ Some table → (o : Option LutCell)
        → (ty : ℕ) → lut_of_type rec ty ≡ o → HasItsTable flat cell o → ⊥
    of_type table e None ty is has = none-some table (sym has ∙ e)
    of_type table e (Some lut) ty is has = unjoined flat cell lut none has
        (has_input lut.input_pins (counted ty lut
        (found_passes (is_lut_cell ty) rec.lut_definitions.lut_cells lut is)))

    by : (o : Option TruthTable) → get flat.tables cell ≡ o → get flat.tables cell ≡ None
    by None e = e
    by (Some table) e =
        let there = get_within flat.cells cell (numbers.tables cell table e) in
        let c : FlatCell = there.0 in
        absurd (of_type table e (lut_of_type rec c.ty) c.ty refl (whole.tables cell c there.1))

-- nor is a cell of it a LUT
no_lut : (names : List Text) (rec : DeviceRec) (flat : Flat) → NoPin flat → IsWhole names rec flat
    → (q : ℕ) (cell : FlatCell) → slice_get flat.cells q ≡ Some cell
    → lut_of_type rec cell.ty ≡ None
no_lut names rec flat none whole q cell at =
    by (lut_of_type rec cell.ty) refl (whole.tables q cell at)
  where
    by : (o : Option LutCell) → lut_of_type rec cell.ty ≡ o → HasItsTable flat q o → o ≡ None
    by None e has = refl
    by (Some lut) e has = absurd (unjoined flat q lut none has (has_input lut.input_pins
        (counted cell.ty lut
        (found_passes (is_lut_cell cell.ty) rec.lut_definitions.lut_cells lut e))))

-- its cells are plain, and so are those of a design that has the same cells
pub are_plain : (names : List Text) (rec : DeviceRec) (before flat : Flat)
    → first_broken rec ≡ None → NoPin before → IsWhole names rec before
    → flat.cells ≡ before.cells → length before.cells ≤ 2 ^ 22 → ArePlain rec flat.cells
are_plain names rec before flat valid none whole same most = subst (ArePlain rec) (sym same) record {
  valid = valid;
  few = omega (arith, most);
  names_differ = whole.cells_differ;
  no_lut = no_lut names rec before none whole;
}

-- Both maps of an unconnected design are empty, which their lengths tell.
pub alone : (flat : Flat) → (nat_eq (len flat.pins) 0 && nat_eq (len flat.fixed) 0) ≡ true
    → IsUnconnected flat
alone flat e = record {
  no_pin = empty_of_len flat.pins (eqb-true (len flat.pins) 0
      (first (nat_eq (len flat.pins) 0) (nat_eq (len flat.fixed) 0) e));
  none_fixed = empty_of_len flat.fixed (eqb-true (len flat.fixed) 0
      (second (nat_eq (len flat.pins) 0) (nat_eq (len flat.fixed) 0) e));
}

pub not_alone : (flat : Flat) → (nat_eq (len flat.pins) 0 && nat_eq (len flat.fixed) 0) ≡ false
    → IsUnconnected flat → ⊥
not_alone flat e is =
    let pins : len flat.pins ≡ 0 = ap len is.no_pin ∙ len-empty pin_order NetRef in
    let fixed : len flat.fixed ≡ 0 = ap len is.none_fixed ∙ len-empty nat_cmp ℕ in
    let both : (nat_eq (len flat.pins) 0 && nat_eq (len flat.fixed) 0) ≡ true =
    ap (λ n. nat_eq n 0 && nat_eq (len flat.fixed) 0) pins ∙ ap (λ n. nat_eq n 0) fixed in
    let bad : true ≡ false = sym both ∙ e in cc

-- The names of its cells are names.
all_places : (P : FlatCell → Type 0) (xs : List FlatCell)
    → ((i : ℕ) (x : FlatCell) → slice_get xs i ≡ Some x → P x) → AllByRecursion P xs
all_places P [] each = tt
all_places P (x ∷ xs) each = (each 0 x refl, all_places P xs (λ i y at. each (suc i) y at))

pub cells_named : (names : List Text) (before flat : Flat) (all : List Fixing)
    (r : Result (List FlatCell) Stop) → IsNamed (length names) before → IsFixed before all flat
    → Meets (named_cells names) (unconnected names flat) r
    → IfOk r (AllByRecursion (CellNamed (length names)))
cells_named names before flat all (Err stop) named fixed told = tt
cells_named names before flat all (Ok cells) named fixed told =
    let same : cells ≡ before.cells = ap (λ (c : NamedCells). c.cells) told.1 ∙ fixed.cells in
    subst (AllByRecursion (CellNamed (length names))) (sym same)
    (all_places (CellNamed (length names)) before.cells
    (λ i x at. record { name = named.cells i x at; ty = named.types i x at }))
