-- What is noted of an element tells whether a cell in it keeps L9.
use Rattle.std.proofs.Common.{◌≡◌, ◌<◌, ◌∙◌, refl, ap, sym, subst, ℕ, List, inl, inr}
use Rattle.std.specs.Prelude.{slice_get, length, Option, Some, None, Contains}
use Rattle.std.specs.Prelude.{IfSome, IfNone, is_some}
use Rattle.std.specs.Bool.{Decides}
use Rattle.std.proofs.lemmas.Bool.{false≢true}
use Rattle.std.proofs.lemmas.Option.{none-some, same_Some, slice_get-get_or}
use Rattle.ix_message.specs.Shape.{Text}
use Rattle.ix_num.specs.Numbers.{NameNumber}
use Rattle.ix_first.specs.First.{value_of}
use Rattle.ix_first.specs.declared.by_id.FirstById.{FirstById}
use Rattle.ix_rec.specs.declared.device.DeviceRec.{DeviceRec}
use Rattle.ix_rec.specs.declared.phys.CellPlacement.{CellPlacement}
use Rattle.ix_rec.specs.declared.phys.Phys.{Phys}
use Rattle.ix_lut.specs.Places.{ElementBits}
use Rattle.ix_lut.specs.Tables.{TableBits}
use Rattle.ix_legal.specs.LutTables.{IsFunction}
use Rattle.ix_legal.specs.Sites.{ElementNumber}
use Rattle.ix_element_numbers.specs.Numbers.{IsInElement}
use Rattle.ix_element_numbers.specs.declared.numbers.ElementNumbers.{ElementNumbers}
use Rattle.ix_element_numbers.specs.declared.numbers.InElement.{InElement}
use Rattle.ix_element_tables.specs.Kept.{HasSomeLut, KeepsTable}
use Rattle.ix_element_tables.specs.Kept.{KeepsTableAt}
use Rattle.ix_element_tables.specs.Noted.{HasNoLutAmong, TellsElement, AreNoted}

-- what stands in a list has a place there
pub place_of : {X : Type 0} (xs : List X) (x : X) → Contains xs x
    → (i : ℕ) × (i < length xs) × (slice_get xs i ≡ Some x)
place_of xs x (i, few, is) = (i, few, slice_get-get_or xs i x few ∙ ap Some is)

-- an element in which no placement of all is of a LUT has none
no_lut : (rec : DeviceRec) (phys : Phys) (site : NameNumber) (element : ElementNumber)
    → HasNoLutAmong rec phys (length phys.placements) site element
    → ¬ HasSomeLut rec phys site element
no_lut rec phys site element none some =
    let place = place_of phys.placements some.placement some.has.is_in.placed in
    none-some some.lut (sym (none place.0 some.placement place.1 place.2 (record {
      site_is = some.has.is_in.site_is;
      place = some.place;
      is_in = some.has.is_in.bel_is;
    })) ∙ some.has.lut_is)

module _ (names : List Text) (rec : DeviceRec) (phys : Phys) (numbers : ElementNumbers)
    (tables : FirstById (Option ElementBits))
    (noted : AreNoted names rec phys numbers (length phys.placements) tables) (k : ℕ)
    (placement : CellPlacement) (at : slice_get phys.placements k ≡ Some placement)
    (own : InElement) (in_own : IsInElement rec phys k own)
    (within : own.number < numbers.count) where
  -- what is asked of it alone is asked at its number
  at_number : KeepsTable names rec phys placement.site own.element placement
      → KeepsTableAt names rec phys k own.element
  at_number keeps other other_at = subst (λ p. KeepsTable names rec phys p.site own.element p)
      (same_Some placement other (sym at ∙ other_at)) keeps

  -- what is told of its element
  told_of : (told : Option (Option ElementBits)) → value_of tables own.number ≡ Some told
      → TellsElement names rec phys (length phys.placements) placement.site own.element told
  told_of told is = subst
      (λ p. TellsElement names rec phys (length phys.placements) p.site own.element told)
      (same_Some in_own.placement placement (sym in_own.placement_is ∙ at))
      (noted.each own.instance in_own.placement.site own.element own.number told within
      in_own.number is)

  -- nothing is noted
  pub none_keeps : value_of tables own.number ≡ Some None
      → KeepsTableAt names rec phys k own.element
  none_keeps is = at_number (inl (no_lut rec phys placement.site own.element (told_of None is)))

  -- that there is no table
  pub tableless_breaks : value_of tables own.number ≡ Some (Some None)
      → ¬ KeepsTableAt names rec phys k own.element
  tableless_breaks is keeps =
      let told = told_of (Some None) is in
      elim (keeps placement at) [
        | inl lutless ↦ lutless told.0
        | inr has ↦ told.1 has.bits has.has_table
      ]

  -- the bits of a table that gives the cell a function
  pub function_keeps : (bits : ElementBits) → value_of tables own.number ≡ Some (Some (Some bits))
      → (function : TableBits) → IsFunction rec phys placement bits function
      → KeepsTableAt names rec phys k own.element
  function_keeps bits is function is_function = at_number (inr (record {
    bits = bits;
    has_table = (told_of (Some (Some bits)) is).1.has;
    function = function;
    is_function = is_function;
  }))

  -- or of one that doesn't
  pub functionless_breaks : (bits : ElementBits)
      → value_of tables own.number ≡ Some (Some (Some bits))
      → ((function : TableBits) → IsFunction rec phys placement bits function → ⊥)
      → ¬ KeepsTableAt names rec phys k own.element
  functionless_breaks bits is none keeps =
      let told = told_of (Some (Some bits)) is in
      elim (keeps placement at) [
        | inl lutless ↦ lutless told.0
        | inr has ↦ none has.function (subst
            (λ b. IsFunction rec phys placement b has.function)
            (told.1.one has.bits has.has_table) has.is_function)
      ]

  -- so does whether there is a function
  pub function_decides : {T : Type 0} (bits : ElementBits)
      → value_of tables own.number ≡ Some (Some (Some bits)) → (bits_of : T → TableBits)
      → (o : Option T) → IfSome o (λ t. IsFunction rec phys placement bits (bits_of t))
      → IfNone o ((function : TableBits) → IsFunction rec phys placement bits function → ⊥)
      → Decides (is_some o) (KeepsTableAt names rec phys k own.element)
  function_decides bits is bits_of None some none =
      (λ never. absurd (false≢true never), λ keeps. absurd (functionless_breaks bits is none keeps))
  function_decides bits is bits_of (Some t) some none =
      (λ yes. function_keeps bits is (bits_of t) some, λ keeps. refl)
