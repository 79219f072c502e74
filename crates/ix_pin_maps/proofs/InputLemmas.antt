-- The inputs of a LUT in a pin map, one by one.
use Rattle.std.proofs.Common.{◌≡◌, ◌≢◌, ◌<◌, ◌≤◌, ◌+◌, ◌∙◌, refl, ap, sym, subst, ℕ, zero, suc}
use Rattle.std.proofs.Common.{List, [], ◌∷◌, ◌++◌, length, map, take, drop, get_or, slice_get}
use Rattle.std.proofs.Common.{Option, Some, None, is_some, Bool, true, false, true≢false, nat_eq, ◌||◌}
use Rattle.std.proofs.Common.{if◌then◌else◌, inl, inr, arith}
use Rattle.std.specs.List.{filter, list_any, position}
use Rattle.std.proofs.lemmas.Bool.{cases_eq, cases_lt, eqb-true, eq-eqb}
use Rattle.std.proofs.lemmas.List.{length-append, map-append, append-nil, take-append-drop}
use Rattle.std.proofs.lemmas.List.Elements.{filter-append}
use Rattle.std.proofs.lemmas.Option.{none-some, same_Some, slice_get_within, get_or_from_slice_get}
use Rattle.ix_rec.specs.declared.device.LutBel.{LutBel}
use Rattle.ix_rec.specs.declared.device.LutCell.{LutCell}
use Rattle.ix_rec.specs.declared.phys.CellPlacement.{CellPlacement}
use Rattle.ix_rec.specs.declared.phys.PinMapping.{PinMapping}
use Rattle.ix_device.proofs.FirstPlaces.{none-place}
use Rattle.ix_device.proofs.NumberedLemmas.{there_is}
use Rattle.ix_device.proofs.OptionLemmas.{position-at}
use Rattle.ix_device.proofs.Walks.{take_next, any_at}
use Rattle.ix_lut.specs.Tables.{AllDiffer}
use Rattle.ix_legal.specs.Placements.{MapsInputs, pins_for}
use Rattle.ix_pin_maps.specs.Inputs.{pins_among, listed, MapsFirst}

-- Entries of one cell pin.

abbrev of_one : PinMapping → (cell_pin : ℕ) → List ℕ
of_one e cell_pin = if nat_eq e.cell_pin cell_pin then e.bel_pin ∷ [] else []

one_entry : (e : PinMapping) (cell_pin : ℕ) → pins_among (e ∷ []) cell_pin ≡ of_one e cell_pin
one_entry e cell_pin = by (nat_eq e.cell_pin cell_pin)
  where
    by : (b : Bool) → map (λ x. x.bel_pin) (if b then e ∷ [] else [])
        ≡ (if b then e.bel_pin ∷ [] else [])
    by true = refl
    by false = refl

parts : (xs ys : List PinMapping) (cell_pin : ℕ)
    → pins_among (xs ++ ys) cell_pin ≡ pins_among xs cell_pin ++ pins_among ys cell_pin
parts xs ys cell_pin = let is = λ (e : PinMapping). nat_eq e.cell_pin cell_pin in
    ap (map (λ e. e.bel_pin)) (filter-append is xs ys)
    ∙ map-append (λ e. e.bel_pin) (filter is xs) (filter is ys)

module _ (entries : List PinMapping) (i : ℕ) (e : PinMapping) (is : slice_get entries i ≡ Some e)
    (cell_pin : ℕ) where
  next : pins_among (take (i + 1) entries) cell_pin
      ≡ pins_among (take i entries) cell_pin ++ of_one e cell_pin
  next = ap (λ l. pins_among l cell_pin) (take_next entries i e is)
      ∙ parts (take i entries) (e ∷ []) cell_pin
      ∙ ap (λ l. pins_among (take i entries) cell_pin ++ l) (one_entry e cell_pin)

  -- an entry of another cell pin
  pub passed : (found : Option ℕ) → nat_eq e.cell_pin cell_pin ≡ false
      → pins_among (take i entries) cell_pin ≡ listed found
      → pins_among (take (i + 1) entries) cell_pin ≡ listed found
  passed found other before = next
      ∙ ap (λ b. pins_among (take i entries) cell_pin ++ (if b then e.bel_pin ∷ [] else [])) other
      ∙ append-nil (pins_among (take i entries) cell_pin) ∙ before

  -- the first of this one
  pub met : (found : Option ℕ) → nat_eq e.cell_pin cell_pin ≡ true → is_some found ≡ false
      → pins_among (take i entries) cell_pin ≡ listed found
      → pins_among (take (i + 1) entries) cell_pin ≡ listed (Some e.bel_pin)
  met (Some pin) same none before = absurd (true≢false none)
  met None same none before = next
      ∙ ap (λ b. pins_among (take i entries) cell_pin ++ (if b then e.bel_pin ∷ [] else [])) same
      ∙ ap (λ l. l ++ e.bel_pin ∷ []) before

  -- the second
  pub met_again : (found : Option ℕ) → nat_eq e.cell_pin cell_pin ≡ true → is_some found ≡ true
      → pins_among (take i entries) cell_pin ≡ listed found
      → (pin : ℕ) → pins_among entries cell_pin ≢ pin ∷ []
  met_again None same some before pin one = true≢false (sym some)
  met_again (Some first) same some before pin one =
      let later = pins_among (drop (i + 1) entries) cell_pin in
      let two : pins_among (take (i + 1) entries) cell_pin ≡ first ∷ e.bel_pin ∷ [] = next
      ∙ ap (λ b. pins_among (take i entries) cell_pin ++ (if b then e.bel_pin ∷ [] else [])) same
      ∙ ap (λ l. l ++ e.bel_pin ∷ []) before in
      let whole = ap length (sym one
      ∙ ap (λ l. pins_among l cell_pin) (sym (take-append-drop (i + 1) entries))
      ∙ parts (take (i + 1) entries) (drop (i + 1) entries) cell_pin
      ∙ ap (λ l. l ++ later) two) in
      let long = length-append (first ∷ e.bel_pin ∷ []) later in
      omega (arith, whole, long)

-- Lists without twins.

here : (xs : List ℕ) (k x : ℕ) → slice_get xs k ≡ Some x → get_or xs k 0 ≡ x
here xs k x is = get_or_from_slice_get xs k x 0 is

-- two places of one item are one
pub one_place : (xs : List ℕ) → AllDiffer xs → (a b x : ℕ) → slice_get xs a ≡ Some x
    → slice_get xs b ≡ Some x → a ≡ b
one_place xs differ a b x at_a at_b = elim (cases_eq a b) [
  | inl same ↦ same
  | inr apart ↦ absurd (elim (cases_lt a b) [
    | inl less ↦ differ a b less (slice_get_within xs b x at_b)
        (here xs a x at_a ∙ sym (here xs b x at_b))
    | inr more ↦ differ b a (omega (arith, more, apart)) (slice_get_within xs a x at_a)
        (here xs b x at_b ∙ sym (here xs a x at_a))
  ])
]

pushed_before : (xs : List ℕ) (y k x : ℕ) → slice_get (xs ++ y ∷ []) k ≡ Some x → k < length xs
    → slice_get xs k ≡ Some x
pushed_before [] y k x at less = absurd (let no : k < 0 = less in omega (arith, no))
pushed_before (z ∷ zs) y zero x at less = at
pushed_before (z ∷ zs) y (suc k) x at less = pushed_before zs y k x at (omega (arith, less))

pushed_last : (xs : List ℕ) (y k x : ℕ) → slice_get (xs ++ y ∷ []) k ≡ Some x → length xs ≤ k
    → (k ≡ length xs) × (x ≡ y)
pushed_last [] y zero x at past = (refl, sym (same_Some y x at))
pushed_last [] y (suc k) x at past = absurd (none-some x at)
pushed_last (z ∷ zs) y zero x at past = absurd (let no : suc (length zs) ≤ 0 = past in
    omega (arith, no))
pushed_last (z ∷ zs) y (suc k) x at past =
    let last = pushed_last zs y k x at (omega (arith, past)) in (ap suc last.0, last.1)

in_list : (x : ℕ) (xs : List ℕ) → list_any (nat_eq x) xs ≡ true
    → (k : ℕ) × (slice_get xs k ≡ Some x)
in_list x [] has = absurd (true≢false (sym has))
in_list x (y ∷ ys) has = by (nat_eq x y) refl has (in_list x ys)
  where
    by : (b : Bool) → nat_eq x y ≡ b → (b || list_any (nat_eq x) ys) ≡ true
        → (list_any (nat_eq x) ys ≡ true → (k : ℕ) × (slice_get ys k ≡ Some x))
        → (k : ℕ) × (slice_get (y ∷ ys) k ≡ Some x)
    by true same has rest = (0, ap Some (sym (eqb-true x y same)))
    by false same has rest = let at = rest has in (suc at.0, at.1)

-- lists of one length that are alike at each place
same_lists : (xs ys : List ℕ) → length xs ≡ length ys
    → ((k x y : ℕ) → slice_get xs k ≡ Some x → slice_get ys k ≡ Some y → x ≡ y) → xs ≡ ys
same_lists [] [] long alike = refl
same_lists [] (y ∷ ys) long alike = absurd (omega (arith, long))
same_lists (x ∷ xs) [] long alike = absurd (omega (arith, long))
same_lists (x ∷ xs) (y ∷ ys) long alike =
    ap (λ z. z ∷ xs) (alike 0 x y refl refl)
    ∙ ap (λ zs. y ∷ zs) (same_lists xs ys (omega (arith, long)) (λ k. alike (suc k)))

-- a new item at the end
own_more : (xs : List ℕ) (y : ℕ) → AllDiffer xs → list_any (nat_eq y) xs ≡ false
    → AllDiffer (xs ++ y ∷ [])
own_more xs y differ new a b less within same =
    let long = length-append xs (y ∷ []) in
    let all = xs ++ y ∷ [] in
    let at_a = there_is all a (omega (arith, less, within)) in
    let at_b = there_is all b within in
    let first : a < length xs = omega (arith, less, within, long) in
    let in_a = pushed_before xs y a at_a.0 at_a.1 first in
    let equal : at_a.0 ≡ at_b.0 =
    sym (here all a at_a.0 at_a.1) ∙ same ∙ here all b at_b.0 at_b.1 in
    elim (cases_lt b (length xs)) [
      | inl before ↦ differ a b less before (here xs a at_a.0 in_a ∙ equal
          ∙ sym (here xs b at_b.0 (pushed_before xs y b at_b.0 at_b.1 before)))
      | inr past ↦
          let last = pushed_last xs y b at_b.0 at_b.1 past in
          true≢false (sym (any_at (nat_eq y) xs a at_a.0 in_a
          (eq-eqb y at_a.0 (sym (equal ∙ last.1)))) ∙ new)
    ]

-- The inputs.

module _ (lut : LutCell) (bel : LutBel) (placement : CellPlacement) where
  -- what is told of an input
  abbrev IsAt : (input place : ℕ) → Type 0
  IsAt input place = (pin : ℕ) × (slice_get bel.input_pins place ≡ Some pin)
      × (pins_for placement input ≡ pin ∷ [])

  -- one input more
  pub one_more_input : (i input pin place : ℕ) (places : List ℕ)
      → MapsFirst lut bel placement i places → slice_get lut.input_pins i ≡ Some input
      → pins_for placement input ≡ pin ∷ [] → position (nat_eq pin) bel.input_pins ≡ Some place
      → list_any (nat_eq place) places ≡ false
      → MapsFirst lut bel placement (i + 1) (places ++ place ∷ [])
  one_more_input i input pin place places maps is on at new = record {
    many = let long = length-append places (place ∷ []) in let so_far = maps.many in
        omega (arith, long, so_far);
    each = each;
    own = own_more places place maps.own new;
  }
    where
      last : IsAt input place
      last = let found = position-at (nat_eq pin) bel.input_pins place at in
          (pin, found.1 ∙ ap Some (sym (eqb-true pin found.0 found.2)), on)

      each : (k other q : ℕ) → slice_get lut.input_pins k ≡ Some other
          → slice_get (places ++ place ∷ []) k ≡ Some q → IsAt other q
      each k other q at_k at_q = elim (cases_lt k (length places)) [
        | inl before ↦ maps.each k other q at_k (pushed_before places place k q at_q before)
        | inr past ↦
            let end = pushed_last places place k q at_q past in
            let same : other ≡ input = same_Some other input (sym at_k
            ∙ ap (slice_get lut.input_pins) (end.0 ∙ maps.many) ∙ is) in
            subst (λ n. IsAt n q) (sym same) (subst (IsAt input) (sym end.1) last)
      ]

  pub all_inputs : (i : ℕ) (places : List ℕ) → i ≡ length lut.input_pins
      → MapsFirst lut bel placement i places → MapsInputs lut bel placement places
  all_inputs i places end maps = record {
    all = maps.many ∙ end;
    each = maps.each;
    own = maps.own;
  }

  pub no_inputs : MapsFirst lut bel placement 0 []
  no_inputs = record {
    many = refl;
    each = λ i input place at_i at_place. absurd (none-some place at_place);
    own = λ a b less within same. absurd (let no : b < 0 = within in omega (arith, no));
  }

  -- Why there is no list of places.

  -- where a list has an input
  there : (other : List ℕ) → MapsInputs lut bel placement other → (i input : ℕ)
      → slice_get lut.input_pins i ≡ Some input
      → (place : ℕ) × (slice_get other i ≡ Some place) × IsAt input place
  there other maps i input is =
      let within = slice_get_within lut.input_pins i input is in
      let many = maps.all in
      let at = there_is other i (omega (arith, within, many)) in
      (at.0, at.1, maps.each i input at.0 is at.1)

  one_pin : (input pin other : ℕ) → pins_for placement input ≡ pin ∷ []
      → pins_for placement input ≡ other ∷ [] → pin ≡ other
  one_pin input pin other on also = ap (λ l. get_or l 0 0) (sym on ∙ also)

  pub no_pin : (i input : ℕ) → slice_get lut.input_pins i ≡ Some input
      → ((pin : ℕ) → pins_for placement input ≢ pin ∷ []) → (other : List ℕ)
      → MapsInputs lut bel placement other → ⊥
  no_pin i input is none other maps =
      let at = there other maps i input is in none at.2.0 at.2.2

  pub no_place : (i input pin : ℕ) → slice_get lut.input_pins i ≡ Some input
      → pins_for placement input ≡ pin ∷ [] → position (nat_eq pin) bel.input_pins ≡ None
      → (other : List ℕ) → MapsInputs lut bel placement other → ⊥
  no_place i input pin is on none other maps =
      let at = there other maps i input is in
      true≢false (sym (any_at (nat_eq pin) bel.input_pins at.0 at.2.0 at.2.1
      (eq-eqb pin at.2.0 (one_pin input pin at.2.0 on at.2.2)))
      ∙ none-place (nat_eq pin) bel.input_pins none)

  module _ (differ : AllDiffer bel.input_pins) where
    same_place : (input place other : ℕ) → IsAt input place → IsAt input other → place ≡ other
    same_place input place other one also =
        one_place bel.input_pins differ place other one.0 one.1
        (also.1 ∙ ap Some (one_pin input also.0 one.0 also.2 one.2))

    pub taken : (i input pin place : ℕ) (places : List ℕ) → MapsFirst lut bel placement i places
        → slice_get lut.input_pins i ≡ Some input → pins_for placement input ≡ pin ∷ []
        → position (nat_eq pin) bel.input_pins ≡ Some place
        → list_any (nat_eq place) places ≡ true → (other : List ℕ)
        → MapsInputs lut bel placement other → ⊥
    taken i input pin place places maps is on at again other claims =
        let found = position-at (nat_eq pin) bel.input_pins place at in
        let before = in_list place places again in
        let so_far = maps.many in
        let less : before.0 < i =
        omega (arith, slice_get_within places before.0 place before.1, so_far) in
        let first = there_is lut.input_pins before.0
        (omega (arith, less, slice_get_within lut.input_pins i input is)) in
        let one = there other claims before.0 first.0 first.1 in
        let two = there other claims i input is in
        let one_same = same_place first.0 place one.0
        (maps.each before.0 first.0 place first.1 before.1) one.2 in
        let two_same = same_place input place two.0
        (pin, found.1 ∙ ap Some (sym (eqb-true pin found.0 found.2)), on) two.2 in
        let same = one_place other claims.own before.0 i place (one.1 ∙ ap Some (sym one_same))
        (two.1 ∙ ap Some (sym two_same)) in
        omega (arith, less, same)

    pub places_are_one : (one other : List ℕ) → MapsInputs lut bel placement one
        → MapsInputs lut bel placement other → one ≡ other
    places_are_one one other maps claims =
        same_lists one other (maps.all ∙ sym claims.all) (λ k x y at_x at_y.
        let all = maps.all in
        let input = there_is lut.input_pins k
        (omega (arith, slice_get_within one k x at_x, all)) in
        same_place input.0 x y (maps.each k input.0 x input.1 at_x)
        (claims.each k input.0 y input.1 at_y))
