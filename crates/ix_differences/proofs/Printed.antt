-- Places as they are printed.
use Rattle.std.proofs.Common.{◌≡◌, ◌∙◌, ap, subst, List, inl, inr}
use Rattle.std.specs.Prelude.{slice_get, Some}
use Rattle.std.specs.Cmp.Lexicographic.{slice_cmp}
use Rattle.std.specs.Option.{option_cmp}
use Rattle.std.specs.Ordering.{nat_cmp, ordering_then}
use Rattle.std.specs.declared.cmp.Ordering.TheVariants.{Less, Equal}
use Rattle.std.proofs.lemmas.Cmp.{nat_list_cmp_total, tied_itself}
use Rattle.ix_message.specs.Shape.{Text}
use Rattle.ix_num.specs.Numbers.{NameNumber}
use Rattle.ix_rec.specs.declared.flow.Flat.{Flat}
use Rattle.ix_rec.specs.declared.place.Place.{Place}
use Rattle.ix_rec.specs.declared.place.Place.TheVariants.{Pin}
use Rattle.ix_differences.specs.Differences.{AgreesOnPin, IsEarlierPin}
use Rattle.ix_differences.specs.Differences.{IsFirstPin}
use Rattle.ix_differences.specs.Earliest.{AgreesAt, ArePinNames, IsFirst, name_order}
use Rattle.ix_differences.specs.Earliest.{pin_name_order}
use Rattle.ix_differences.specs.Found.{Any}
use Rattle.ix_differences.specs.declared.earliest.PinName.{PinName}

-- what two names' texts are to one another
texts_order : (names : List Text) (m n : NameNumber) (s t : Text) → slice_get names m ≡ Some s
    → slice_get names n ≡ Some t → name_order names m n ≡ slice_cmp nat_cmp s t
texts_order names m n s t at_m at_n = λ i. option_cmp (slice_cmp nat_cmp) (at_m i) (at_n i)

pub earlier_pins : (names : List Text) (x y : PinName) (xc xp yc yp : Text)
    → slice_get names x.cell ≡ Some xc → slice_get names x.pin ≡ Some xp
    → slice_get names y.cell ≡ Some yc → slice_get names y.pin ≡ Some yp
    → IsEarlierPin xc xp yc yp → pin_name_order names x y ≡ Less
earlier_pins names x y xc xp yc yp at_xc at_xp at_yc at_yp earlier = elim earlier [
  | inl cell ↦ ap (λ r. ordering_then r (name_order names x.pin y.pin))
      (texts_order names x.cell y.cell xc yc at_xc at_yc ∙ cell)
  | inr pin ↦ ap (λ r. ordering_then r (name_order names x.pin y.pin))
      (texts_order names x.cell y.cell xc yc at_xc at_yc
      ∙ subst (λ t. slice_cmp nat_cmp xc t ≡ Equal) pin.0 (tied_itself nat_list_cmp_total xc))
      ∙ texts_order names x.pin y.pin xp yp at_xp at_yp ∙ pin.1
]

pub pin_told : (names : List Text) (a b : Flat) (at : PinName) (cell pin : Text) (place : Place)
    → slice_get names at.cell ≡ Some cell → slice_get names at.pin ≡ Some pin
    → place ≡ Pin cell pin
    → IsFirst (pin_name_order names) (ArePinNames names) (AgreesAt a b) Any at
    → IsFirstPin names (AgreesOnPin a b) place
pin_told names a b at cell_text pin_text place at_cell at_pin is first = record {
  cell = at.cell;
  pin = at.pin;
  cell_text = cell_text;
  pin_text = pin_text;
  cell_is_named = at_cell;
  pin_is_named = at_pin;
  differs = first.differs;
  agrees_before = λ oc op ec ep at_c at_p earlier. first.agrees_before
      (record { cell = oc; pin = op }) tt
      (earlier_pins names (record { cell = oc; pin = op }) at ec ep cell_text pin_text at_c at_p
      at_cell at_pin earlier);
  told = is;
}
