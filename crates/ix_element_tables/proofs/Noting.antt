-- What is noted of elements after one placement more.
use Rattle.std.proofs.Common.{◌≡◌, ◌<◌, ◌+◌, ◌∙◌, refl, ap, sym, subst, ℕ, arith, List, Bool}
use Rattle.std.proofs.Common.{true, false, inl, inr}
use Rattle.std.specs.Prelude.{nat_eq, slice_get, length, not, Option, Some, None, option_map}
use Rattle.std.specs.Prelude.{IsSome, is_some}
use Rattle.std.proofs.lemmas.Bool.{cases_lt, cases_eq, eq-eqb, eqb-true, true≢false, false≢true}
use Rattle.std.proofs.lemmas.Option.{none-some, same_Some, get_or_from_slice_get}
use Rattle.std.proofs.lemmas.Option.{slice_get_within}
use Rattle.ix_message.specs.Shape.{Text}
use Rattle.ix_num.specs.Numbers.{NameNumber}
use Rattle.ix_first.specs.First.{value_of, or_later}
use Rattle.ix_first.specs.declared.by_id.FirstById.{FirstById}
use Rattle.ix_rec.specs.declared.device.DeviceRec.{DeviceRec}
use Rattle.ix_rec.specs.declared.device.LutCell.{LutCell}
use Rattle.ix_rec.specs.declared.phys.CellPlacement.{CellPlacement}
use Rattle.ix_rec.specs.declared.phys.Phys.{Phys}
use Rattle.ix_lut.specs.Places.{ElementBits}
use Rattle.ix_legal.specs.Legal.{IsSound}
use Rattle.ix_legal.specs.Placements.{IsPlaced}
use Rattle.ix_legal.specs.Sites.{ElementNumber, lut_cell_of, element_at}
use Rattle.ix_legal.specs.Spots.{Everywhere}
use Rattle.ix_table_keys.specs.Tables.{TellsTable}
use Rattle.ix_element_numbers.specs.Laws.{ElementIsOne, NumberIsOne}
use Rattle.ix_element_numbers.specs.Numbers.{IsNumber, IsInElement, IsInNone}
use Rattle.ix_element_numbers.specs.declared.numbers.ElementNumbers.{ElementNumbers}
use Rattle.ix_element_numbers.specs.declared.numbers.InElement.{InElement}
use Rattle.ix_element_tables.specs.Kept.{IsPlacedIn, HasSomeLut}
use Rattle.ix_element_tables.specs.Noted.{HasNoLutAmong, TellsElement, AreNoted}

-- a table has room for a number after a value was put
still_room : {V : Type 0} (o after : Option (Option V)) (f : Option V → Option V)
    → after ≡ option_map f o → IsSome o → IsSome after
still_room None after f is some = absurd (false≢true some)
still_room (Some v) after f is some = ap is_some is

-- numbers that differ
unlike : (a b : ℕ) → (a ≡ b → ⊥) → (r : Bool) → nat_eq a b ≡ r → r ≡ false
unlike a b apart true is = absurd (apart (eqb-true a b is))
unlike a b apart false is = refl

-- what was put stays where nothing more is put
not_later : {V : Type 0} (v : Option V) (later : V) → or_later v false later ≡ v
not_later None later = refl
not_later (Some v) later = refl

module _ (names : List Text) (rec : DeviceRec) (phys : Phys) (numbers : ElementNumbers) (k : ℕ)
    (placement : CellPlacement) (at : slice_get phys.placements k ≡ Some placement)
    (before : FirstById (Option ElementBits))
    (were : AreNoted names rec phys numbers k before) where
  -- an element has no LUT among one placement more, where that is none in it
  none_among : (site : NameNumber) (element : ElementNumber)
      → (IsPlacedIn rec site element placement → lut_cell_of rec placement.ty ≡ None)
      → HasNoLutAmong rec phys k site element → HasNoLutAmong rec phys (k + 1) site element
  none_among site element plain none j other lt at_j placed = elim (cases_lt j k) [
    | inl earlier ↦ none j other earlier at_j placed
    | inr later ↦
        let here : j ≡ k = omega (arith, lt, later) in
        let same : placement ≡ other = same_Some placement other
        (sym at ∙ ap (slice_get phys.placements) (sym here) ∙ at_j) in
        subst (λ p. IsPlacedIn rec site element p → lut_cell_of rec p.ty ≡ None) same plain placed
  ]

  -- nothing is to be noted of one placement more
  pub as_noted : ((i : ℕ) (site : NameNumber) (element : ElementNumber) (number : ℕ)
      → IsNumber rec phys i site element number → value_of before number ≡ Some None
      → IsPlacedIn rec site element placement → lut_cell_of rec placement.ty ≡ None)
      → AreNoted names rec phys numbers (k + 1) before
  as_noted nothing = record { room = were.room; each = each }
    where
      each : (i : ℕ) (site : NameNumber) (element : ElementNumber) (number : ℕ)
          (noted : Option (Option ElementBits)) → number < numbers.count
          → IsNumber rec phys i site element number → value_of before number ≡ Some noted
          → TellsElement names rec phys (k + 1) site element noted
      each i site element number None within is told =
          none_among site element (nothing i site element number is told)
          (were.each i site element number None within is told)
      each i site element number (Some bits) within is told =
          were.each i site element number (Some bits) within is told

  -- a plain cell
  pub plain_noted : lut_cell_of rec placement.ty ≡ None
      → AreNoted names rec phys numbers (k + 1) before
  plain_noted plain = as_noted (λ i site element number is told placed. plain)

  -- a cell in no element
  pub outer_noted : IsInNone rec phys k → AreNoted names rec phys numbers (k + 1) before
  outer_noted none = as_noted (λ i site element number is told placed.
      absurd (none-some (element, placed.place) (sym (none placement at) ∙ placed.is_in)))

  module _ (number_is_one : NumberIsOne) (l2 : Everywhere (IsPlaced rec phys)) (own : InElement)
      (in_own : IsInElement rec phys k own) where
    own_is : in_own.placement ≡ placement
    own_is = same_Some in_own.placement placement (sym in_own.placement_is ∙ at)

    own_number : IsNumber rec phys own.instance placement.site own.element own.number
    own_number = subst (λ p. IsNumber rec phys own.instance p.site own.element own.number) own_is
        in_own.number

    own_at : element_at rec placement.site placement.bel ≡ Some (own.element, in_own.place)
    own_at = subst (λ p. element_at rec p.site p.bel ≡ Some (own.element, in_own.place)) own_is
        in_own.is_in

    -- the element in which it is placed has the number that was found
    number_of_own : (i : ℕ) (site : NameNumber) (element : ElementNumber) (number : ℕ)
        → IsNumber rec phys i site element number → IsPlacedIn rec site element placement
        → number ≡ own.number
    number_of_own i site element number is placed =
        let same : element ≡ own.element = ap (λ p. p.0)
        (same_Some (element, placed.place) (own.element, in_own.place)
        (sym placed.is_in ∙ own_at)) in
        (number_is_one rec phys l2 i own.instance placement.site own.element number own.number
        (subst (λ e. IsNumber rec phys i placement.site e number) same
        (subst (λ s. IsNumber rec phys i s element number) (sym placed.site_is) is))
        own_number).1

    -- its table is noted already
    pub known_noted : (bits : Option ElementBits) → value_of before own.number ≡ Some (Some bits)
        → AreNoted names rec phys numbers (k + 1) before
    known_noted bits known = as_noted (λ i site element number is told placed.
        absurd (none-some bits (same_Some None (Some bits)
        (sym told ∙ ap (value_of before) (number_of_own i site element number is placed) ∙ known))))

    -- its table is noted now
    pub newly_noted : ElementIsOne → (lut : LutCell) → lut_cell_of rec placement.ty ≡ Some lut
        → value_of before own.number ≡ Some None → (bits : Option ElementBits)
        → TellsTable names phys placement.site own.element bits
        → (after : FirstById (Option ElementBits))
        → ((i : ℕ) → value_of after i
        ≡ option_map (λ v. or_later v (nat_eq own.number i) bits) (value_of before i))
        → AreNoted names rec phys numbers (k + 1) after
    newly_noted element_is_one lut lut_is empty bits tells after put = record {
      room = λ number within. still_room (value_of before number) (value_of after number)
          (λ v. or_later v (nat_eq own.number number) bits) (put number)
          (were.room number within);
      each = each;
    }
      where
        some_lut : HasSomeLut rec phys placement.site own.element
        some_lut = record {
          place = in_own.place;
          placement = placement;
          lut = lut;
          has = record {
            is_in = record {
              placed = (
                k,
                slice_get_within phys.placements k placement at,
                get_or_from_slice_get phys.placements k placement placement at,
              );
              site_is = refl;
              bel_is = own_at;
            };
            lut_is = lut_is;
          };
        }

        here : (i : ℕ) (site : NameNumber) (element : ElementNumber) (number : ℕ)
            (noted : Option (Option ElementBits)) → IsNumber rec phys i site element number
            → value_of after number ≡ Some noted → own.number ≡ number
            → TellsElement names rec phys (k + 1) site element noted
        here i site element number noted is told same =
            let now : Some bits ≡ noted = same_Some (Some bits) noted
            (sym (put number
            ∙ ap (λ o. option_map (λ v. or_later v (nat_eq own.number number) bits) o)
            (ap (value_of before) (sym same) ∙ empty)
            ∙ ap (λ b. Some (or_later None b bits)) (eq-eqb own.number number same)) ∙ told) in
            let one = element_is_one rec phys own.instance i placement.site site own.element
            element number (subst (λ n. IsNumber rec phys own.instance placement.site own.element n)
            same own_number) is in
            subst (TellsElement names rec phys (k + 1) site element) now
            (subst (λ e. HasSomeLut rec phys site e × TellsTable names phys site e bits) one.1
            (subst (λ s. HasSomeLut rec phys s own.element × TellsTable names phys s own.element bits)
            one.2 (some_lut, tells)))

        there : (i : ℕ) (site : NameNumber) (element : ElementNumber) (number : ℕ)
            (noted : Option (Option ElementBits)) → number < numbers.count
            → IsNumber rec phys i site element number → value_of before number ≡ Some noted
            → (own.number ≡ number → ⊥) → TellsElement names rec phys (k + 1) site element noted
        there i site element number None within is told apart = none_among site element
            (λ placed. absurd (apart (sym (number_of_own i site element number is placed))))
            (were.each i site element number None within is told)
        there i site element number (Some other) within is told apart =
            were.each i site element number (Some other) within is told

        as_before : (number : ℕ) (o : Option (Option (Option ElementBits)))
            → o ≡ value_of before number → (own.number ≡ number → ⊥)
            → value_of after number ≡ o
        as_before number None o_is apart = put number
            ∙ ap (option_map (λ v. or_later v (nat_eq own.number number) bits)) (sym o_is)
        as_before number (Some v) o_is apart = put number
            ∙ ap (option_map (λ v. or_later v (nat_eq own.number number) bits)) (sym o_is)
            ∙ ap (λ b. Some (or_later v b bits)) (unlike own.number number apart
            (nat_eq own.number number) refl)
            ∙ ap Some (not_later v bits)

        each : (i : ℕ) (site : NameNumber) (element : ElementNumber) (number : ℕ)
            (noted : Option (Option ElementBits)) → number < numbers.count
            → IsNumber rec phys i site element number → value_of after number ≡ Some noted
            → TellsElement names rec phys (k + 1) site element noted
        each i site element number noted within is told =
            elim (cases_eq own.number number) [
              | inl same ↦ here i site element number noted is told same
              | inr apart ↦ there i site element number noted within is
                  (sym (as_before number (value_of before number) refl apart) ∙ told) apart
            ]

-- the site of a placement is named
pub site_named : (names : List Text) (phys : Phys) → IsSound names phys → (k : ℕ)
    (placement : CellPlacement) → slice_get phys.placements k ≡ Some placement
    → placement.site < length names
site_named names phys sound k placement at = subst (λ p. p.site < length names)
    (get_or_from_slice_get phys.placements k placement placement at)
    (sound.named.placements k placement (slice_get_within phys.placements k placement at)).site

-- what is told by whether there is nothing

pub nothing : {A : Type 0} (o : Option A) (none : Bool) → is_some o ≡ not none → none ≡ true
    → o ≡ None
nothing None none is so = refl
nothing (Some x) none is so = absurd (true≢false (is ∙ ap not so))

pub something : {A : Type 0} (o : Option A) (none : Bool) → is_some o ≡ not none → none ≡ false
    → (x : A) × (o ≡ Some x)
something None none is so = absurd (false≢true (is ∙ ap not so))
something (Some x) none is so = (x, refl)

-- nothing is noted before the first placement
pub none_noted : (names : List Text) (rec : DeviceRec) (phys : Phys) (numbers : ElementNumbers)
    (count : ℕ) (tables : FirstById (Option ElementBits)) → count ≡ numbers.count
    → ((i : ℕ) → i < count → value_of tables i ≡ Some None)
    → AreNoted names rec phys numbers 0 tables
none_noted names rec phys numbers count tables all empty = record {
  room = λ number within. ap is_some (at number within);
  each = λ i site element number noted within is told.
      subst (TellsElement names rec phys 0 site element)
      (same_Some None noted (sym (at number within) ∙ told))
      (λ k placement lt. absurd (omega (arith, lt)));
}
  where
    at : (number : ℕ) → number < numbers.count → value_of tables number ≡ Some None
    at number within = empty number
        (let less : number < count = omega (arith, within, all) in less)
