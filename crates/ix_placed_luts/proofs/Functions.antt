-- The function of a placed LUT.
use Rattle.std.proofs.Common.{◌≡◌, ◌<◌, ◌∙◌, ap, sym, subst, ℕ, List}
use Rattle.std.proofs.Common.{length, slice_get, slice_index, Some}
use Rattle.std.proofs.Common.{option_map, arith}
use Rattle.std.specs.List.{Contains}
use Rattle.std.specs.Int.{bit_at}
use Rattle.std.proofs.lemmas.Option.{same_Some, get_or_from_slice_get, slice_get-map}
use Rattle.std.proofs.lemmas.Option.{slice_get_within}
use Rattle.ix_num.specs.declared.resource.Res.TheVariants.{Wire}
use Rattle.ix_rec.specs.declared.device.DeviceRec.{DeviceRec}
use Rattle.ix_rec.specs.declared.device.LutBel.{LutBel}
use Rattle.ix_rec.specs.declared.device.LutCell.{LutCell}
use Rattle.ix_rec.specs.declared.phys.CellPlacement.{CellPlacement}
use Rattle.ix_rec.specs.declared.phys.Phys.{Phys}
use Rattle.ix_rec.specs.declared.phys.PhysNet.{PhysNet}
use Rattle.ix_device.specs.Shapes.{BelSeen, ShapeSeen, bel_with, lines_of}
use Rattle.ix_device.proofs.NumberedLemmas.{there_is}
use Rattle.ix_lut.specs.Tables.{ArePlaces, AllDiffer, IsTable}
use Rattle.ix_lut.specs.Places.{LutPlace, Held, Agrees, Allows, GivesFunction}
use Rattle.ix_lut.specs.Places.{HasNoFunction}
use Rattle.ix_lut.specs.declared.shape.Tie.{Tie}
use Rattle.ix_lut.proofs.OneFunction.{one_function}
use Rattle.ix_legal.specs.LutTables.{IsLutOn, IsHeld, AreHeld, IsFunction}
use Rattle.ix_legal.specs.Placements.{MapsInputs}
use Rattle.ix_legal.specs.Sites.{shape_at}
use Rattle.ix_pin_maps.specs.Laws.{PlacesAreOne}
use Rattle.ix_placed_luts.specs.Laws.{FunctionIsOne}
use Rattle.ix_placed_luts.proofs.Elements.{IsInput, input_at, inputs_counted, names_differ}
use Rattle.ix_placed_luts.proofs.Holding.{one_tie}
use Rattle.ix_placed_luts.proofs.Sites.{IsInSite, IsInType, in_site_is}
use Rattle.ix_placed_luts.proofs.Sites.{lines_there}

-- The shape of an element has the BEL as the definition sees it.
module _ (rec : DeviceRec) (site bel t b element place : ℕ) (lut_bel : LutBel)
    (shape : ShapeSeen) (is : IsInSite rec site bel t b element place lut_bel shape) where
  abbrev pub in_it : IsInType rec is.ty b element place lut_bel shape
  in_it = is.in_type_is

  abbrev pub all_lines : List ℕ
  all_lines = lines_of is.ty in_it.e

  abbrev pub as_seen : BelSeen
  as_seen = bel_with is.ty all_lines lut_bel

  pub seen_there : slice_get shape.bels place ≡ Some as_seen
  seen_there = ap (λ (s : ShapeSeen). slice_get s.bels place) (sym in_it.shape_is)
      ∙ slice_get-map (bel_with is.ty all_lines) in_it.e.bels place
      ∙ ap (option_map (bel_with is.ty all_lines)) in_it.lut_bel_is

  pub own_names : AllDiffer lut_bel.input_pins
  own_names = names_differ is.ty in_it.e in_it.usable place lut_bel in_it.lut_bel_is

  pub counted : length as_seen.lines ≡ length lut_bel.input_pins
  counted = inputs_counted is.ty in_it.e in_it.usable place lut_bel in_it.lut_bel_is

  pub input_of : (j line : ℕ) → slice_get as_seen.lines j ≡ Some line
      → IsInput is.ty in_it.e lut_bel j line
  input_of j line at =
      input_at is.ty in_it.e in_it.usable place lut_bel in_it.lut_bel_is j line at

  -- the places of a LUT's inputs are places of the BEL's
  pub places_there : (lut : LutCell) (placement : CellPlacement) (places : List ℕ)
      → MapsInputs lut lut_bel placement places → ArePlaces (length as_seen.lines) places
  places_there lut placement places maps = record {
    within = λ i less.
        let all = maps.all in
        let at = there_is places i less in
        let input = there_is lut.input_pins i (omega (arith, less, all)) in
        let pin = maps.each i input.0 at.0 input.1 at.1 in
        let same : slice_index places i ≡ at.0 = get_or_from_slice_get places i at.0 0 at.1 in
        let below = slice_get_within lut_bel.input_pins at.0 pin.0 pin.1 in
        let count = counted in
        omega (arith, same, below, count);
    differ = maps.own;
  }

-- Of a LUT that is placed.
made : (low : ℕ) (lines places : List ℕ) → LutPlace
made low lines places = record { low = low; lines = lines; places = places }

same_record : (x y : LutPlace) → x.low ≡ y.low → x.lines ≡ y.lines → x.places ≡ y.places → x ≡ y
unfolding made
same_record x y low lines places = ap (λ l. made l x.lines x.places) low
    ∙ ap (λ l. made y.low l x.places) lines ∙ ap (λ l. made y.low y.lines l) places

module _ (rec : DeviceRec) (placement : CellPlacement) (lut : LutCell) (element place : ℕ)
    (on : LutPlace) (is : IsLutOn rec placement lut element place on) where
  pub found : (t b : ℕ) × IsInSite rec placement.site placement.bel t b element place is.bel is.shape
  found = in_site_is rec placement.site placement.bel element place is.bel is.shape is.is_in
      is.bel_is is.shape_is

  module _ (t b : ℕ) (at : IsInSite rec placement.site placement.bel t b element place is.bel is.shape)
    where
      pub lines_seen : on.lines ≡ (as_seen rec placement.site placement.bel t b element place is.bel
          is.shape at).lines
      lines_seen = is.lines ∙ ap (λ (s : BelSeen). s.lines) (same_Some is.seen _
          (sym is.seen_is ∙ seen_there rec placement.site placement.bel t b element place is.bel
          is.shape at))

      places_fit : ArePlaces (length on.lines) on.places
      places_fit = subst (λ (l : List ℕ). ArePlaces (length l) on.places) (sym lines_seen)
          (places_there rec placement.site placement.bel t b element place is.bel is.shape at lut
          placement on.places is.inputs)

      -- what is held on the lines of unused inputs is determined
      module _ (nets : List PhysNet) (one other : Held)
          (held : AreHeld rec nets placement.site element on one)
          (also : AreHeld rec nets placement.site element on other) where
        pub held_alike : (j : ℕ) → j < length on.lines → (Contains on.places j → ⊥)
            → one (slice_index on.lines j) ≡ other (slice_index on.lines j)
        held_alike j below unused =
            let line = there_is on.lines j below in
            let same : slice_index on.lines j ≡ line.0 =
            get_or_from_slice_get on.lines j line.0 0 line.1 in
            let input = input_of rec placement.site placement.bel t b element place is.bel is.shape
            at j line.0 (ap (λ (l : List ℕ). slice_get l j) (sym lines_seen) ∙ line.1) in
            let lines = lines_there rec placement.site placement.bel t b element place is.bel
            is.shape at in
            let wires = same_Some held.wires _ (sym held.wires_are ∙ lines) in
            let more_wires = same_Some also.wires _ (sym also.wires_are ∙ lines) in
            let sites : also.number ≡ held.number =
            same_Some also.number held.number (sym also.site_is ∙ held.site_is) in
            let first = held.each j line.0 input.wire unused line.1
            (ap (λ (l : List ℕ). slice_get l line.0) wires ∙ input.line_is) in
            let second = also.each j line.0 input.wire unused line.1
            (ap (λ (l : List ℕ). slice_get l line.0) more_wires ∙ input.line_is) in
            ap one same ∙ one_tie rec nets (Wire held.number input.wire) (one line.0) (other line.0)
            first (subst (λ n. IsHeld rec nets (Wire n input.wire) (other line.0)) sites second)
            ∙ ap other (sym same)

-- Functions look at the lines of unused inputs alone.
module _ (lut : LutPlace) (one other : Held) (alike : (j : ℕ) → j < length lut.lines
    → (Contains lut.places j → ⊥) → one (slice_index lut.lines j) ≡ other (slice_index lut.lines j))
  where
    pub agrees_too : (v : ℕ) → Agrees lut one v → Agrees lut other v
    agrees_too v agrees = record {
      within = agrees.within;
      unused = λ j below unused. subst (λ (t : Tie). Allows t (bit_at v j)) (alike j below unused)
          (agrees.unused j below unused);
    }

    gives_too : (bits table : ℕ) → GivesFunction lut other bits table
        → GivesFunction lut one bits table
    gives_too bits table gives v agrees = gives v (agrees_too v agrees)

-- without a function there is none
pub not_both : (lut : LutPlace) (held : Held) (bits table : ℕ) → HasNoFunction lut held bits
    → GivesFunction lut held bits table → ⊥
not_both lut held bits table none gives =
    let e : 0 ≡ 1 = sym none.zero ∙ gives none.v none.v_agrees
    ∙ ap (bit_at table) none.same_inputs ∙ sym (gives none.w none.w_agrees) ∙ none.one in
    omega (arith, e)

-- Two that are so are one.
module _ (rec : DeviceRec) (placement : CellPlacement) (law : PlacesAreOne) (lut lut2 : LutCell)
    (element element2 place place2 : ℕ) (on on2 : LutPlace)
    (one : IsLutOn rec placement lut element place on)
    (other : IsLutOn rec placement lut2 element2 place2 on2) where
  pub same_lut : lut2 ≡ lut
  same_lut = same_Some lut2 lut (sym other.lut_is ∙ one.lut_is)

  same_at : Path (ℕ × ℕ) (element2, place2) (element, place)
  same_at = same_Some (element2, place2) (element, place) (sym other.is_in ∙ one.is_in)

  pub same_element : element2 ≡ element
  same_element = ap (λ (p : ℕ × ℕ). p.0) same_at

  same_place : place2 ≡ place
  same_place = ap (λ (p : ℕ × ℕ). p.1) same_at

  same_bel : other.bel ≡ one.bel
  same_bel = same_Some other.bel one.bel (sym other.bel_is ∙ one.bel_is)

  same_shape : other.shape ≡ one.shape
  same_shape = same_Some other.shape one.shape (sym other.shape_is
      ∙ ap (λ n. shape_at rec placement.site n) same_element ∙ one.shape_is)

  same_seen : other.seen ≡ one.seen
  same_seen = same_Some other.seen one.seen (sym other.seen_is
      ∙ ap (λ (s : ShapeSeen). slice_get s.bels place2) same_shape
      ∙ ap (slice_get one.shape.bels) same_place ∙ one.seen_is)

  same_places : on2.places ≡ on.places
  same_places = let at = found rec placement lut element place on one in
      law lut one.bel placement (own_names rec placement.site placement.bel at.0 at.1 element place
      one.bel one.shape at.2) on2.places on.places
      (subst (λ (l : LutCell). MapsInputs l one.bel placement on2.places) same_lut
      (subst (λ (b : LutBel). MapsInputs lut2 b placement on2.places) same_bel other.inputs))
      one.inputs

  pub same_on : on2 ≡ on
  same_on = same_record on2 on
      (other.low ∙ ap (λ (s : BelSeen). s.low) same_seen ∙ sym one.low)
      (other.lines ∙ ap (λ (s : BelSeen). s.lines) same_seen ∙ sym one.lines) same_places

-- What a function gives by one reading of the LUT and of what is held, it gives by another.
module _ (rec : DeviceRec) (phys : Phys) (placement : CellPlacement) (law : PlacesAreOne)
    (bits function : ℕ) (has : IsFunction rec phys placement bits function)
    (lut : LutCell) (element place : ℕ) (on : LutPlace)
    (is : IsLutOn rec placement lut element place on) (held : Held)
    (are_held : AreHeld rec phys.nets placement.site element on held) where
  pub gives_here : GivesFunction on held bits function
  gives_here =
      let on_is = same_on rec placement law lut has.lut element has.element place has.place on
      has.on is has.is_on in
      let element_is = same_element rec placement law lut has.lut element has.element place
      has.place on has.on is has.is_on in
      let at = found rec placement lut element place on is in
      let also : AreHeld rec phys.nets placement.site element on has.held =
      subst (λ (o : LutPlace). AreHeld rec phys.nets placement.site element o has.held) on_is
      (subst (λ n. AreHeld rec phys.nets placement.site n has.on has.held) element_is
      has.are_held) in
      gives_too on held has.held (held_alike rec placement lut element place on is at.0 at.1 at.2
      phys.nets held has.held are_held also) bits function
      (subst (λ (o : LutPlace). GivesFunction o has.held bits function) on_is has.gives)

  table_here : IsTable (length on.places) function
  table_here =
      let lut_is = same_lut rec placement law lut has.lut element has.element place has.place on
      has.on is has.is_on in
      subst (λ n. IsTable n function) (sym is.inputs.all)
      (subst (λ (l : LutCell). IsTable (length l.input_pins) function) lut_is has.is_table)

pub function_is_one : PlacesAreOne → FunctionIsOne
function_is_one law rec phys placement bits one other has also =
    let at = found rec placement has.lut has.element has.place has.on has.is_on in
    one_function has.on has.held bits other one
    (places_fit rec placement has.lut has.element has.place has.on has.is_on at.0 at.1 at.2)
    (table_here rec phys placement law bits other also has.lut has.element has.place has.on
    has.is_on has.held has.are_held)
    (table_here rec phys placement law bits one has has.lut has.element has.place has.on
    has.is_on has.held has.are_held)
    (gives_here rec phys placement law bits other also has.lut has.element has.place has.on
    has.is_on has.held has.are_held) has.gives
