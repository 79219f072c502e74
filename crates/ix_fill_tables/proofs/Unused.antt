-- What holds the lines of the inputs that a placed LUT doesn't use.
use Rattle.std.proofs.Common.{◌≡◌, ◌≢◌, ◌<◌, ◌+◌, ◌∙◌, ap, sym, subst, ℕ, List}
use Rattle.std.proofs.Common.{length, set, slice_get, Some, arith, inl, inr, Contains}
use Rattle.std.proofs.Common.{IfSome, Option, None}
use Rattle.std.proofs.lemmas.Bool.{cases_lt}
use Rattle.std.proofs.lemmas.List.{get_or-set_same, get_or-set_other}
use Rattle.std.proofs.lemmas.Option.{same_Some, slice_get_within, get_or_from_slice_get}
use Rattle.ix_num.specs.declared.resource.Res.TheVariants.{Wire}
use Rattle.ix_rec.specs.declared.device.DeviceRec.{DeviceRec}
use Rattle.ix_rec.specs.declared.device.LutBel.{LutBel}
use Rattle.ix_rec.specs.declared.phys.CellPlacement.{CellPlacement}
use Rattle.ix_rec.specs.declared.phys.PhysNet.{PhysNet}
use Rattle.ix_device.specs.Shapes.{shape_seen}
use Rattle.ix_device.proofs.NumberedLemmas.{there_is}
use Rattle.ix_lut.specs.Places.{Held}
use Rattle.ix_lut.specs.Shapes.{bel_at, held_by, input_lines, lut_on}
use Rattle.ix_lut.specs.Tables.{AllDiffer}
use Rattle.ix_lut.specs.declared.shape.ElementShape.{ElementShape}
use Rattle.ix_lut.specs.declared.shape.Tie.{Tie}
use Rattle.ix_lut.specs.declared.shape.Tie.TheVariants.{Free}
use Rattle.ix_legal.specs.LutTables.{AreHeld, IsHeld}
use Rattle.ix_placed_luts.specs.Placed.{IsPlaced}
use Rattle.ix_placed_luts.specs.Tied.{IsTied, wire_of_input}
use Rattle.ix_placed_luts.proofs.Functions.{input_of}
use Rattle.ix_placed_luts.proofs.Placing.{all_lines_there, in_site, lines_are}
use Rattle.ix_placed_luts.proofs.Sites.{lines_there, wire_there}
use Rattle.ix_fill_tables.specs.Holdings.{TellsTie}
use Rattle.ix_fill_tables.specs.Ties.{AreTiedBut, HasHeldTwice, TellsPin}

module _ (rec : DeviceRec) (nets : List PhysNet) (site t bel : ℕ) (names lines used : List ℕ) where
  pub none_tied : (ties : List Tie) → AreTiedBut rec nets site t bel names lines used 0 ties
  none_tied ties = record {
    each = λ j name line less unused name_is line_is. absurd (omega (arith, less));
  }

  pub used_passed : (count : ℕ) (ties : List Tie) → Contains used count
      → AreTiedBut rec nets site t bel names lines used count ties
      → AreTiedBut rec nets site t bel names lines used (count + 1) ties
  used_passed count ties is_used are = record {
    each = λ j name line less unused name_is line_is. elim (cases_lt j count) [
      | inl before ↦ are.each j name line before unused name_is line_is
      | inr past ↦
          let here : count ≡ j = omega (arith, less, past) in
          absurd (unused (subst (λ (n : ℕ). Contains used n) here is_used))
    ];
  }

  pub one_more_tied : AllDiffer lines → (count name line : ℕ) (tie : Tie) (ties : List Tie)
      → line < length ties → slice_get names count ≡ Some name
      → slice_get lines count ≡ Some line → IsTied rec nets site t bel name tie
      → AreTiedBut rec nets site t bel names lines used count ties
      → AreTiedBut rec nets site t bel names lines used (count + 1) (set ties line tie)
  one_more_tied differ count name line tie ties below name_is line_is tied are = record {
    each = each;
  }
    where
      each : (j other at : ℕ) → j < count + 1 → (Contains used j → ⊥)
          → slice_get names j ≡ Some other → slice_get lines j ≡ Some at
          → IsTied rec nets site t bel other (held_by (set ties line tie) at)
      each j other at less unused other_is at_is = elim (cases_lt j count) [
        | inl before ↦
            let apart : at ≢ line = λ same. differ j count before
            (slice_get_within lines count line line_is)
            (get_or_from_slice_get lines j at 0 at_is ∙ same
            ∙ sym (get_or_from_slice_get lines count line 0 line_is)) in
            subst (IsTied rec nets site t bel other)
            (sym (get_or-set_other ties line at tie Free apart))
            (are.each j other at before unused other_is at_is)
        | inr past ↦
            let here : j ≡ count = omega (arith, less, past) in
            let name_same : name ≡ other =
            same_Some name other (sym name_is ∙ ap (slice_get names) (sym here) ∙ other_is) in
            let line_same : at ≡ line =
            same_Some at line (sym at_is ∙ ap (slice_get lines) here ∙ line_is) in
            subst (λ l. IsTied rec nets site t bel other (held_by (set ties line tie) l))
            (sym line_same) (subst (IsTied rec nets site t bel other)
            (sym (get_or-set_same ties line tie Free below))
            (subst (λ m. IsTied rec nets site t bel m tie) name_same tied))
      ]

-- of a pin that is on a wire
pub tells_pin : (rec : DeviceRec) (nets : List PhysNet) (site t bel name wire : ℕ)
    (o : Option Tie) → wire_of_input rec t bel name ≡ Some wire
    → TellsTie rec nets (Wire site wire) o → TellsPin rec nets site t bel name o
tells_pin rec nets site t bel name wire None is twice = record {
  wire = wire;
  wire_is = is;
  twice = twice;
}
tells_pin rec nets site t bel name wire (Some tie) is held =
    subst (λ o. IfSome o (λ w. IsHeld rec nets (Wire site w) tie)) (sym is) held

-- Of the LUT that was found.
module _ (rec : DeviceRec) (placement : CellPlacement) (site t b : ℕ) (lut_bel : LutBel)
    (shape : ElementShape) (place : ℕ) (places : List ℕ)
    (is : IsPlaced rec placement site t b lut_bel shape place places) (nets : List PhysNet) where
  pub held_here : (ties : List Tie)
      → AreTiedBut rec nets site t b lut_bel.input_pins (input_lines (bel_at shape place)) places
      (length lut_bel.input_pins) ties
      → AreHeld rec nets placement.site is.element (lut_on (bel_at shape place) places)
      (held_by ties)
  held_here ties tied =
      let here = in_site rec placement site t b lut_bel shape place places is in
      let seen = lines_are rec placement site t b lut_bel shape place places is in
      record {
        number = site;
        site_is = is.site_is;
        wires = _;
        wires_are = lines_there rec placement.site placement.bel t b is.element place lut_bel
            (shape_seen shape) here;
        each = λ j line wire unused line_is wire_is.
            let input = input_of rec placement.site placement.bel t b is.element place lut_bel
            (shape_seen shape) here j line
            (ap (λ (l : List ℕ). slice_get l j) (sym seen) ∙ line_is) in
            let same : input.wire ≡ wire =
            same_Some input.wire wire (sym input.line_is ∙ wire_is) in
            let held = tied.each j input.name line
            (slice_get_within lut_bel.input_pins j input.name input.name_is) unused input.name_is
            line_is in
            let there = wire_there rec here.ty b is.element place lut_bel (shape_seen shape)
            here.in_type_is t input.name here.ty_is ∙ input.wire_is in
            subst (λ w. IsHeld rec nets (Wire site w) (held_by ties line)) same
            (subst (λ o. IfSome o (λ w. IsHeld rec nets (Wire site w) (held_by ties line)))
            there held);
      }

  pub never_held : HasHeldTwice rec nets site t b lut_bel.input_pins places → (held : Held)
      → AreHeld rec nets placement.site is.element (lut_on (bel_at shape place) places) held → ⊥
  never_held found held are =
      let here = in_site rec placement site t b lut_bel shape place places is in
      let seen = lines_are rec placement site t b lut_bel shape place places is in
      let all = all_lines_there rec placement site t b lut_bel shape place places is in
      let below = slice_get_within lut_bel.input_pins found.input found.name found.name_is in
      let line = there_is (input_lines (bel_at shape place)) found.input
      (omega (arith, all, below)) in
      let input = input_of rec placement.site placement.bel t b is.element place lut_bel
      (shape_seen shape) here found.input line.0
      (ap (λ (l : List ℕ). slice_get l found.input) (sym seen) ∙ line.1) in
      let names : input.name ≡ found.name =
      same_Some input.name found.name (sym input.name_is ∙ found.name_is) in
      let there = wire_there rec here.ty b is.element place lut_bel (shape_seen shape)
      here.in_type_is t input.name here.ty_is ∙ input.wire_is in
      let wires : found.twice.wire ≡ input.wire =
      same_Some found.twice.wire input.wire (sym found.twice.wire_is
      ∙ ap (λ n. wire_of_input rec t b n) (sym names) ∙ there) in
      let lists = same_Some are.wires _ (sym are.wires_are
      ∙ lines_there rec placement.site placement.bel t b is.element place lut_bel
      (shape_seen shape) here) in
      let sites : are.number ≡ site =
      same_Some are.number site (sym are.site_is ∙ is.site_is) in
      let held_so = are.each found.input line.0 input.wire found.unused line.1
      (ap (λ (l : List ℕ). slice_get l line.0) lists ∙ input.line_is) in
      found.twice.twice (held line.0)
      (subst (λ n. IsHeld rec nets (Wire n found.twice.wire) (held line.0)) sites
      (subst (λ w. IsHeld rec nets (Wire are.number w) (held line.0)) (sym wires) held_so))
