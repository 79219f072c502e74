-- What the first break among all placements tells of L9.
use Rattle.std.proofs.Common.{◌≡◌, refl, ap, subst, ℕ, arith, List, inl, inr}
use Rattle.std.specs.Prelude.{slice_get, length, Option, Some, None, IsSome, is_some}
use Rattle.std.proofs.lemmas.Bool.{false≢true}
use Rattle.std.proofs.lemmas.Option.{slice_get_within, get_or_from_slice_get}
use Rattle.ix_message.specs.Shape.{Text}
use Rattle.ix_strings.specs.Names.{AllDiffer}
use Rattle.ix_rec.specs.declared.device.DeviceRec.{DeviceRec}
use Rattle.ix_rec.specs.declared.device.LutCell.{LutCell}
use Rattle.ix_rec.specs.declared.phys.CellPlacement.{CellPlacement}
use Rattle.ix_rec.specs.declared.phys.Phys.{Phys}
use Rattle.ix_rec.specs.declared.phys.SiteInstance.{SiteInstance}
use Rattle.ix_lut.specs.Tables.{TableBits}
use Rattle.ix_legal.specs.Breaks.{asked_at, asked_where}
use Rattle.ix_legal.specs.LutTables.{IsInElement, IsFunction, ElementFits, TableFits}
use Rattle.ix_legal.specs.LutTables.{IsTabled}
use Rattle.ix_legal.specs.Sites.{ElementNumber, lut_cell_of}
use Rattle.ix_legal.specs.Spots.{IsBefore, Everywhere, IsFirstBreak}
use Rattle.ix_legal.specs.declared.spot.Spot.{Spot}
use Rattle.ix_legal.specs.declared.spot.Spot.TheVariants.{InstanceAt, PlacementAt, NetAt}
use Rattle.ix_legal.specs.declared.spot.Spot.TheVariants.{SegmentAt, PropertyAt, ElementAt}
use Rattle.ix_table_keys.specs.Laws.{TableIsOne}
use Rattle.ix_table_keys.specs.Tables.{IsNamedThere}
use Rattle.ix_element_numbers.specs.declared.numbers.InElement.{InElement}
use Rattle.ix_element_tables.specs.Kept.{HasSomeLut, HasFunction}
use Rattle.ix_element_tables.specs.Least.{IsEarlier, IsBroken, IsLeast}
use Rattle.ix_element_tables.proofs.Keeping.{place_of}

-- what is there
the_some : {A : Type 0} (o : Option A) → IsSome o → (x : A) × (o ≡ Some x)
the_some None some = absurd (false≢true some)
the_some (Some x) some = (x, refl)

module _ (names : List Text) (rec : DeviceRec) (phys : Phys) where
  module _ (table_is_one : TableIsOne) (differ : AllDiffer names) (l1 : IsNamedThere names phys)
      (first : Option InElement) (least : IsLeast names rec phys (length phys.placements) first)
    where
      -- elements before the first one that is broken keep L9
      fits : (i : ℕ) (instance : SiteInstance) (element : ElementNumber)
          → slice_get phys.site_insts i ≡ Some instance → IsEarlier i element first
          → TableFits names rec phys element instance
      fits i instance element at earlier lut_place lut_placement lut has = record {
        no_plain = λ place placement is_in.
            let its = function_in place placement is_in in
            ap is_some its.is_function.is_on.lut_is;
        bits = own.bits;
        has_table = own.has_table;
        functions = λ place placement cell other_lut.
            let its = function_in place placement other_lut.is_in in (
              its.function,
              subst (λ b. IsFunction rec phys placement b its.function)
                  (table_is_one names phys differ l1 instance.site element its.bits own.bits
                  its.has_table own.has_table) its.is_function,
            );
      }
        where
          some_lut : HasSomeLut rec phys instance.site element
          some_lut = record { place = lut_place; placement = lut_placement; lut = lut; has = has }

          function_in : (place : ℕ) (placement : CellPlacement)
              → IsInElement rec phys instance.site element place placement
              → HasFunction names rec phys instance.site element placement
          function_in place placement is_in =
              let k = place_of phys.placements placement is_in.placed in
              elim (least.kept k.0 i placement instance element k.1 k.2 at (record {
                site_is = is_in.site_is;
                place = place;
                is_in = is_in.bel_is;
              }) earlier) [
                | inl none ↦ absurd (none some_lut)
                | inr its ↦ its
              ]

          own : HasFunction names rec phys instance.site element lut_placement
          own = function_in lut_place lut_placement has.is_in

      tabled_at : (i : ℕ) (element : ElementNumber) → IsEarlier i element first
          → IsTabled names rec phys (ElementAt i element)
      tabled_at i element earlier = asked_where phys.site_insts i (TableFits names rec phys element)
          (λ instance at. fits i instance element at earlier)

  module _ (table_is_one : TableIsOne) (differ : AllDiffer names) (l1 : IsNamedThere names phys)
    where
      -- where none is broken the rule is kept
      pub all_tabled : IsLeast names rec phys (length phys.placements) None
          → Everywhere (IsTabled names rec phys)
      all_tabled least (InstanceAt i) = tt
      all_tabled least (PlacementAt i) = tt
      all_tabled least (NetAt n) = tt
      all_tabled least (SegmentAt n k) = tt
      all_tabled least (PropertyAt i) = tt
      all_tabled least (ElementAt i element) =
          tabled_at table_is_one differ l1 None least i element tt

      -- else the first one that is broken is the rule's first break
      pub first_untabled : (at : InElement)
          → IsLeast names rec phys (length phys.placements) (Some at)
          → IsFirstBreak (IsTabled names rec phys) (ElementAt at.instance at.element)
      first_untabled at least = record { broken = broken; kept_before = before }
        where
          its : IsBroken names rec phys at
          its = least.broken

          -- what a rule that is kept would give
          function_of_fit : ElementFits names rec phys its.instance.site at.element
              → HasFunction names rec phys its.instance.site at.element its.placement
          function_of_fit fit = record {
            bits = fit.bits;
            has_table = fit.has_table;
            function = function.0;
            is_function = function.1;
          }
            where
              placed : IsInElement rec phys its.instance.site at.element its.placed.place
                  its.placement
              placed = record {
                placed = (
                  its.k,
                  slice_get_within phys.placements its.k its.placement its.placement_is,
                  get_or_from_slice_get phys.placements its.k its.placement its.placement
                      its.placement_is,
                );
                site_is = its.placed.site_is;
                bel_is = its.placed.is_in;
              }

              lut : (x : LutCell) × (lut_cell_of rec its.placement.ty ≡ Some x)
              lut = the_some (lut_cell_of rec its.placement.ty)
                  (fit.no_plain its.placed.place its.placement placed)

              function : (x : TableBits) × IsFunction rec phys its.placement fit.bits x
              function = fit.functions its.placed.place its.placement lut.0
                  (record { is_in = placed; lut_is = lut.1 })

          broken : ¬ IsTabled names rec phys (ElementAt at.instance at.element)
          broken asked =
              let fits_at = asked_at phys.site_insts at.instance (TableFits names rec phys at.element)
              its.instance its.instance_is asked in
              its.breaks (inl (λ some. its.breaks (inr (function_of_fit
              (fits_at some.place some.placement some.lut some.has)))))

          before : (other : Spot) → IsBefore other (ElementAt at.instance at.element)
              → IsTabled names rec phys other
          before (InstanceAt i) less = tt
          before (PlacementAt i) less = tt
          before (NetAt n) less = tt
          before (SegmentAt n k) less = tt
          before (PropertyAt i) less = tt
          before (ElementAt i element) (inl lt) = absurd (omega (arith, lt))
          before (ElementAt i element) (inr (kind, inl lt)) =
              tabled_at table_is_one differ l1 (Some at) least i element (inl lt)
          before (ElementAt i element) (inr (kind, inr (same, inl lt))) =
              tabled_at table_is_one differ l1 (Some at) least i element (inr (same, lt))
          before (ElementAt i element) (inr (kind, inr (same, inr (number, less)))) = absurd less
