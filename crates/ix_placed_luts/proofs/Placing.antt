-- A placed LUT that was found by numbers, and its function.
use Rattle.std.proofs.Common.{◌≡◌, ◌<◌, ◌∙◌, ap, sym, subst, ℕ, zero, suc, List, [], ◌∷◌}
use Rattle.std.proofs.Common.{length, take, slice_get, Option, Some, None}
use Rattle.std.proofs.Common.{option_and_then, IfSome, IfNone, arith}
use Rattle.std.proofs.lemmas.Option.{none-some, same_Some, slice_get_within, slice_get-map}
use Rattle.std.proofs.lemmas.Option.{get_or_from_slice_get}
use Rattle.ix_num.specs.declared.resource.Res.TheVariants.{Wire}
use Rattle.ix_rec.specs.declared.device.DeviceRec.{DeviceRec}
use Rattle.ix_rec.specs.declared.device.LutBel.{LutBel}
use Rattle.ix_rec.specs.declared.phys.CellPlacement.{CellPlacement}
use Rattle.ix_rec.specs.declared.phys.Phys.{Phys}
use Rattle.ix_device.specs.Elements.{element_of_bel}
use Rattle.ix_device.specs.Lookups.{site_named, type_of_site, in_type, bel_in}
use Rattle.ix_device.specs.Shapes.{BelSeen, ShapeSeen, bel_seen, shape_in, shape_seen}
use Rattle.ix_lut.specs.Tables.{AllDiffer, ArePlaces, IsTable}
use Rattle.ix_lut.specs.Places.{LutPlace, GivesFunction, HasNoFunction}
use Rattle.ix_lut.specs.Shapes.{bel_at, input_lines, lut_on, held_by, IsUsableBel}
use Rattle.ix_lut.specs.declared.shape.BelShape.{BelShape}
use Rattle.ix_lut.specs.declared.shape.ElementShape.{ElementShape}
use Rattle.ix_lut.specs.declared.shape.Tie.{Tie}
use Rattle.ix_lut.specs.declared.table.Table.{Table}
use Rattle.ix_legal.specs.LutTables.{IsLutOn, AreHeld, IsHeld, IsFunction}
use Rattle.ix_lut_places.specs.Places.{lut_bel_in}
use Rattle.ix_pin_maps.specs.Laws.{PlacesAreOne}
use Rattle.ix_ends.proofs.Items.{mapped, chained}
use Rattle.ix_placed_luts.specs.Placed.{IsPlaced}
use Rattle.ix_placed_luts.specs.Tied.{AreTied}
use Rattle.ix_placed_luts.proofs.Sites.{IsInSite, typed, element_there, lut_bel_there, shape_there}
use Rattle.ix_placed_luts.proofs.Sites.{lines_there, wire_there}
use Rattle.ix_placed_luts.proofs.Functions.{as_seen, seen_there, own_names, counted, input_of}
use Rattle.ix_placed_luts.proofs.Functions.{places_there, not_both, gives_here}
use Rattle.ix_placed_luts.proofs.Tying.{taken_within}

module _ (rec : DeviceRec) (placement : CellPlacement) (site t b element place : ℕ)
    (lut_bel : LutBel) (shape : ShapeSeen)
    (site_is : site_named rec placement.site ≡ Some site)
    (type_is : type_of_site rec site ≡ Some t)
    (bel_is : in_type (bel_in placement.bel) rec t ≡ Some b)
    (at : in_type (element_of_bel rec b) rec t ≡ Some (element, place))
    (lut_bel_is : in_type (lut_bel_in rec b) rec t ≡ Some lut_bel)
    (shape_is : in_type (shape_in rec element) rec t ≡ Some shape) where
  pub placed : IsInSite rec placement.site placement.bel t b element place lut_bel shape
  placed =
      let ty = chained (bel_in placement.bel) (slice_get rec.site_type_list t) b bel_is in
      record {
        type_is = ap (option_and_then (type_of_site rec)) site_is ∙ type_is;
        ty = ty.0;
        ty_is = ty.1;
        bel_is = ty.2;
        in_type_is = typed rec ty.0 b element place lut_bel shape
            (sym (ap (option_and_then (element_of_bel rec b)) ty.1) ∙ at)
            (sym (ap (option_and_then (lut_bel_in rec b)) ty.1) ∙ lut_bel_is)
            (sym (ap (option_and_then (shape_in rec element)) ty.1) ∙ shape_is);
      }

  pub names_apart : AllDiffer lut_bel.input_pins
  names_apart = own_names rec placement.site placement.bel t b element place lut_bel shape placed

-- what is among the first of a list
taken : {A : Type 0} (n : ℕ) (xs : List A) (k : ℕ) (x : A) → slice_get (take n xs) k ≡ Some x
    → (k < n) × (slice_get xs k ≡ Some x)
taken zero xs k x at = absurd (none-some x at)
taken (suc n) [] k x at = absurd (none-some x at)
taken (suc n) (y ∷ ys) zero x at = (omega arith, at)
taken (suc n) (y ∷ ys) (suc k) x at = let rest = taken n ys k x at in
    let less : k < n = rest.0 in (omega (arith, less), rest.1)

-- The LUT that was found.
module _ (rec : DeviceRec) (placement : CellPlacement) (site t b : ℕ) (lut_bel : LutBel)
    (shape : ElementShape) (place : ℕ) (places : List ℕ)
    (is : IsPlaced rec placement site t b lut_bel shape place places) where
  pub in_site : IsInSite rec placement.site placement.bel t b is.element place lut_bel
      (shape_seen shape)
  in_site = placed rec placement site t b is.element place lut_bel (shape_seen shape) is.site_is
      is.type_is is.bel_is is.at is.lut_bel_is is.shape_is

  abbrev pub bel : BelShape
  bel = bel_at shape place

  abbrev pub seen : BelSeen
  seen = as_seen rec placement.site placement.bel t b is.element place lut_bel (shape_seen shape)
      in_site

  seen_is : slice_get (shape_seen shape).bels place ≡ Some seen
  seen_is = seen_there rec placement.site placement.bel t b is.element place lut_bel
      (shape_seen shape) in_site

  shaped : (place < shape.bel_count) × (bel_seen bel ≡ seen)
  shaped =
      let x = mapped bel_seen (slice_get (take shape.bel_count shape.bels) place) seen
      (sym (slice_get-map bel_seen (take shape.bel_count shape.bels) place) ∙ seen_is) in
      let at = taken shape.bel_count shape.bels place x.0 x.1 in
      (at.0, ap bel_seen (get_or_from_slice_get shape.bels place x.0 _ at.1) ∙ x.2)

  pub type_inside : t < length rec.site_type_list
  type_inside = slice_get_within rec.site_type_list t in_site.ty in_site.ty_is

  pub place_inside : place < shape.bel_count
  place_inside = shaped.0

  pub lines_are : input_lines bel ≡ seen.lines
  lines_are = ap (λ (s : BelSeen). s.lines) shaped.1

  pub all_lines_there : length lut_bel.input_pins ≡ length (input_lines bel)
  all_lines_there = sym (ap length lines_are ∙ counted rec placement.site placement.bel t b
      is.element place lut_bel (shape_seen shape) in_site)

  pub bel_usable : IsUsableBel 12 bel
  bel_usable = let own = is.usable.each place place_inside in let most = is.usable.lines in
      record {
        few = own.few;
        within = own.within;
        on_lines = λ j less. let line = own.on_lines j less in omega (arith, line, most);
        differ = own.differ;
      }

  pub places_inside : ArePlaces bel.inputs places
  places_inside =
      let are = places_there rec placement.site placement.bel t b is.element place lut_bel
      (shape_seen shape) in_site is.lut placement places is.inputs in
      let most = taken_within bel.inputs bel.lines in
      let count = ap length lines_are in record {
        within = λ i less. let below = are.within i less in omega (arith, below, most, count);
        differ = are.differ;
      }

  abbrev pub on : LutPlace
  on = lut_on bel places

  pub is_lut_on : IsLutOn rec placement is.lut is.element place on
  is_lut_on = record {
    lut_is = is.lut_is;
    is_in = element_there rec placement.site placement.bel t b is.element place lut_bel
        (shape_seen shape) in_site;
    bel = lut_bel;
    bel_is = lut_bel_there rec placement.site placement.bel t b is.element place lut_bel
        (shape_seen shape) in_site;
    inputs = is.inputs;
    shape = shape_seen shape;
    shape_is = shape_there rec placement.site placement.bel t b is.element place lut_bel
        (shape_seen shape) in_site;
    seen = seen;
    seen_is = seen_is;
    low = ap (λ (s : BelSeen). s.low) shaped.1;
    lines = lines_are;
  }

  -- with what holds the lines of its BEL
  module _ (phys : Phys) (ties : List Tie)
      (tied : AreTied rec phys.nets site t b lut_bel.input_pins (input_lines bel)
      (length lut_bel.input_pins) ties) where
    are_held : AreHeld rec phys.nets placement.site is.element on (held_by ties)
    are_held = record {
      number = site;
      site_is = is.site_is;
      wires = _;
      wires_are = lines_there rec placement.site placement.bel t b is.element place lut_bel
          (shape_seen shape) in_site;
      each = λ j line wire unused line_is wire_is.
          let input = input_of rec placement.site placement.bel t b is.element place lut_bel
          (shape_seen shape) in_site j line
          (ap (λ (l : List ℕ). slice_get l j) (sym lines_are) ∙ line_is) in
          let same : input.wire ≡ wire = same_Some input.wire wire (sym input.line_is ∙ wire_is) in
          let held = tied.each j input.name line
          (slice_get_within lut_bel.input_pins j input.name input.name_is) input.name_is line_is in
          let there = wire_there rec in_site.ty b is.element place lut_bel (shape_seen shape)
          in_site.in_type_is t input.name in_site.ty_is ∙ input.wire_is in
          subst (λ w. IsHeld rec phys.nets (Wire site w) (held_by ties line)) same
          (subst (λ o. IfSome o (λ w. IsHeld rec phys.nets (Wire site w) (held_by ties line)))
          there held);
    }

    is_function : (bits function : ℕ) → IsTable (length places) function
        → GivesFunction on (held_by ties) bits function
        → IsFunction rec phys placement bits function
    is_function bits function is_table gives = record {
      lut = is.lut;
      element = is.element;
      place = place;
      on = on;
      is_on = is_lut_on;
      held = held_by ties;
      are_held = are_held;
      is_table = subst (λ n. IsTable n function) is.inputs.all is_table;
      gives = gives;
    }

    pub functions : (bits : ℕ) (found : Option Table)
        → IfSome found (λ table. table.inputs ≡ length places)
        → IfSome found (λ table. IsTable table.inputs table.bits)
        → IfSome found (λ table. GivesFunction on (held_by ties) bits table.bits)
        → IfSome found (λ table. IsFunction rec phys placement bits table.bits)
    functions bits None inputs tables gives = tt
    functions bits (Some table) inputs tables gives = is_function bits table.bits
        (subst (λ n. IsTable n table.bits) inputs tables) gives

    pub no_functions : PlacesAreOne → (bits : ℕ) (found : Option Table)
        → IfNone found (HasNoFunction on (held_by ties) bits)
        → IfNone found ((function : ℕ) → IsFunction rec phys placement bits function → ⊥)
    no_functions law bits (Some table) none = tt
    no_functions law bits None none = λ function has. not_both on (held_by ties) bits function none
        (gives_here rec phys placement law bits function has is.lut is.element place on is_lut_on
        (held_by ties) are_held)
