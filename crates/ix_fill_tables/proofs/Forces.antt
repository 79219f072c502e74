-- What a placed LUT forces.
use Rattle.std.proofs.Common.{◌≡◌, ◌∙◌, ap, sym, subst, ℕ, List, length, Option}
use Rattle.std.proofs.Common.{Some, None, arith}
use Rattle.std.specs.Int.{bit_at}
use Rattle.std.proofs.lemmas.Nat.Bits.{bit_at-zero}
use Rattle.std.proofs.lemmas.Option.{none-some, same_Some}
use Rattle.ix_rec.specs.declared.device.DeviceRec.{DeviceRec}
use Rattle.ix_rec.specs.declared.device.LutBel.{LutBel}
use Rattle.ix_rec.specs.declared.device.LutCell.{LutCell}
use Rattle.ix_rec.specs.declared.flow.Flat.{Flat}
use Rattle.ix_rec.specs.declared.flow.TruthTable.{TruthTable}
use Rattle.ix_rec.specs.declared.phys.CellPlacement.{CellPlacement}
use Rattle.ix_rec.specs.declared.phys.Phys.{Phys}
use Rattle.ix_lut.specs.Places.{LutPlace, Forces}
use Rattle.ix_lut.specs.Shapes.{bel_at, held_by, input_lines, lut_on}
use Rattle.ix_lut.specs.Tables.{spelled}
use Rattle.ix_lut.specs.declared.shape.ElementShape.{ElementShape}
use Rattle.ix_lut.specs.declared.shape.Tie.{Tie}
use Rattle.ix_legal.specs.LutTables.{AreHeld, IsLutOn}
use Rattle.ix_legal.specs.Sites.{element_at}
use Rattle.ix_pin_maps.specs.Laws.{PlacesAreOne}
use Rattle.ix_placed_luts.specs.Placed.{IsPlaced}
use Rattle.ix_placed_luts.proofs.Functions.{agrees_too, found, held_alike, same_element, same_lut}
use Rattle.ix_placed_luts.proofs.Functions.{same_on}
use Rattle.ix_placed_luts.proofs.Placing.{is_lut_on}
use Rattle.ix_fill_tables.specs.Bits.{AreForcedBits}
use Rattle.ix_fill_tables.specs.Completed.{IsForcedBy, IsTold}
use Rattle.ix_fill_tables.specs.Forced.{AreForcedBy, TellsForced, bits_so_far}
use Rattle.ix_fill_tables.specs.Ties.{AreTiedBut, HasHeldTwice}
use Rattle.ix_fill_tables.specs.Told.{told_table}
use Rattle.ix_fill_tables.specs.declared.forcing.ForcedBits.{ForcedBits}
use Rattle.ix_fill_tables.proofs.Firsts.{told, telling}
use Rattle.ix_fill_tables.proofs.Unused.{held_here, never_held}

-- what isn't placed as a LUT forces nothing
pub none_placed : (rec : DeviceRec) (phys : Phys) (flat : Flat) (placement : CellPlacement)
    → ((lut : LutCell) (element place : ℕ) (on : LutPlace)
    → IsLutOn rec placement lut element place on → ⊥) → (element at bit : ℕ)
    → IsForcedBy rec phys flat element placement at bit → ⊥
none_placed rec phys flat placement none element at bit h =
    none h.lut element h.place h.on h.is_on

-- The LUT that was found, and another reading of it.
module _ (rec : DeviceRec) (placement : CellPlacement) (site t b : ℕ) (lut_bel : LutBel)
    (shape : ElementShape) (place : ℕ) (places : List ℕ)
    (is : IsPlaced rec placement site t b lut_bel shape place places) (phys : Phys) (flat : Flat)
    (law : PlacesAreOne) where
  abbrev on : LutPlace
  on = lut_on (bel_at shape place) places

  here : IsLutOn rec placement is.lut is.element place on
  here = is_lut_on rec placement site t b lut_bel shape place places is

  module _ (element at bit : ℕ) (h : IsForcedBy rec phys flat element placement at bit) where
    lut_same : h.lut ≡ is.lut
    lut_same = same_lut rec placement law is.lut h.lut is.element element place h.place on h.on
        here h.is_on

    element_same : element ≡ is.element
    element_same = same_element rec placement law is.lut h.lut is.element element place h.place on
        h.on here h.is_on

    on_same : h.on ≡ on
    on_same = same_on rec placement law is.lut h.lut is.element element place h.place on h.on
        here h.is_on

    held_same : AreHeld rec phys.nets placement.site is.element on h.held
    held_same = subst (λ (o : LutPlace). AreHeld rec phys.nets placement.site is.element o h.held)
        on_same (subst (λ n. AreHeld rec phys.nets placement.site n h.on h.held) element_same
        h.are_held)

    telling_same : told_table flat placement.cell_name (length places) ≡ Some h.table
    telling_same = telling flat placement is.lut (length places) h.table is.inputs.all
        (subst (λ (l : LutCell). IsTold flat placement l h.table) lut_same h.is_told)

    forces_here : (ties : List Tie)
        → AreTiedBut rec phys.nets site t b lut_bel.input_pins (input_lines (bel_at shape place))
        places (length lut_bel.input_pins) ties
        → (table : TruthTable)
        → told_table flat placement.cell_name (length places) ≡ Some table
        → Forces on table.bits (held_by ties) at bit
    forces_here ties tied table told_is =
        let at_bel = found rec placement is.lut is.element place on here in
        let held = held_here rec placement site t b lut_bel shape place places is phys.nets ties
        tied in
        let f : Forces on h.table.bits h.held at bit =
        subst (λ (o : LutPlace). Forces o h.table.bits h.held at bit) on_same h.forces in
        let table_same : h.table ≡ table =
        same_Some h.table table (sym telling_same ∙ told_is) in
        record {
          v = f.v;
          agrees = agrees_too on h.held (held_by ties)
              (held_alike rec placement is.lut is.element place on here at_bel.0 at_bel.1 at_bel.2
              phys.nets h.held (held_by ties) held_same held) f.v f.agrees;
          read = f.read;
          value = subst (λ (x : TruthTable). bit_at x.bits (spelled places f.v) ≡ bit) table_same
              f.value;
        }

  forced_there : (ties : List Tie)
      → AreTiedBut rec phys.nets site t b lut_bel.input_pins (input_lines (bel_at shape place))
      places (length lut_bel.input_pins) ties
      → (table : TruthTable) → told_table flat placement.cell_name (length places) ≡ Some table
      → (element other : ℕ) → element_at rec placement.site placement.bel ≡ Some (element, other)
      → (at bit : ℕ) → Forces on table.bits (held_by ties) at bit
      → IsForcedBy rec phys flat element placement at bit
  forced_there ties tied table told_is element other in_element at bit forces =
      let same : is.element ≡ element = ap (λ (p : ℕ × ℕ). p.0)
      (same_Some (is.element, place) (element, other) (sym here.is_in ∙ in_element)) in
      subst (λ e. IsForcedBy rec phys flat e placement at bit) same record {
        lut = is.lut;
        place = place;
        on = on;
        is_on = here;
        held = held_by ties;
        are_held = held_here rec placement site t b lut_bel shape place places is phys.nets ties
            tied;
        table = table;
        is_told = told flat placement is.lut (length places) table is.inputs.all told_is;
        forces = forces;
      }

  pub are_forced : (ties : List Tie)
      → AreTiedBut rec phys.nets site t b lut_bel.input_pins (input_lines (bel_at shape place))
      places (length lut_bel.input_pins) ties
      → (table : TruthTable) → told_table flat placement.cell_name (length places) ≡ Some table
      → (forced : ForcedBits)
      → AreForcedBits (lut_on (bel_at shape place) places) table.bits (held_by ties) forced
      → AreForcedBy rec phys flat placement forced
  are_forced ties tied table told_is forced are = record {
    ones = λ element other in_element at. (
      λ one. forced_there ties tied table told_is element other in_element at 1
          ((are.ones at).0 one),
      λ h. (are.ones at).1 (forces_here element at 1 h ties tied table told_is),
    );
    zeros = λ element other in_element at. (
      λ one. forced_there ties tied table told_is element other in_element at 0
          ((are.zeros at).0 one),
      λ h. (are.zeros at).1 (forces_here element at 0 h ties tied table told_is),
    );
  }

  pub none_told : told_table flat placement.cell_name (length places) ≡ None
      → (element at bit : ℕ) → IsForcedBy rec phys flat element placement at bit → ⊥
  none_told none element at bit h =
      none-some h.table (sym none ∙ telling_same element at bit h)

  pub none_held : HasHeldTwice rec phys.nets site t b lut_bel.input_pins places
      → (element at bit : ℕ) → IsForcedBy rec phys flat element placement at bit → ⊥
  none_held twice element at bit h = never_held rec placement site t b lut_bel shape place places
      is phys.nets twice h.held (held_same element at bit h)

-- where nothing is forced
pub forced_or_none : (rec : DeviceRec) (phys : Phys) (flat : Flat) (placement : CellPlacement)
    (o : Option ForcedBits) → TellsForced rec phys flat placement o
    → AreForcedBy rec phys flat placement (bits_so_far o)
forced_or_none rec phys flat placement None none = record {
  ones = λ element place in_element at. (
    λ one. let zero = bit_at-zero at in absurd (omega (arith, zero, one)),
    λ h. absurd (none element at 1 h),
  );
  zeros = λ element place in_element at. (
    λ one. let zero = bit_at-zero at in absurd (omega (arith, zero, one)),
    λ h. absurd (none element at 0 h),
  );
}
forced_or_none rec phys flat placement (Some forced) are = are
