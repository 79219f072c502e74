-- Each LUT of a legal netlist has a function.
use Rattle.std.proofs.Common.{◌≡◌, ◌∙◌, ap, sym, refl, subst, ℕ, List, Bool, true, false, length}
use Rattle.std.specs.Prelude.{slice_get, take, map, nat_eq, Option, Some, None, option_and_then}
use Rattle.std.proofs.lemmas.Bool.{eqb-true}
use Rattle.std.proofs.lemmas.List.Folds.{Any-from_list_any}
use Rattle.std.proofs.lemmas.Option.{none-some, same_Some, get_or_from_slice_get}
use Rattle.std.proofs.lemmas.Option.{slice_get_within, slice_get-get_or}
use Rattle.ix_message.specs.Shape.{Text}
use Rattle.ix_rec.specs.declared.device.DeviceRec.{DeviceRec}
use Rattle.ix_rec.specs.declared.device.LutCell.{LutCell}
use Rattle.ix_rec.specs.declared.flow.TruthTable.{TruthTable}
use Rattle.ix_rec.specs.declared.phys.CellPlacement.{CellPlacement}
use Rattle.ix_rec.specs.declared.phys.Phys.{Phys}
use Rattle.ix_rec.specs.declared.phys.SiteInstance.{SiteInstance}
use Rattle.ix_legal.specs.declared.level.Level.{Level}
use Rattle.ix_legal.specs.Breaks.{asked_at}
use Rattle.ix_legal.specs.Legal.{Legal}
use Rattle.ix_legal.specs.LutTables.{ElementFits, HasLut, TableFits}
use Rattle.ix_legal.specs.Placements.{has_instance, LutMapFits, PinMapFits, PinsFit, PlacementFits}
use Rattle.ix_legal.specs.Sites.{ElementNumber, element_at, lut_cell_of}
use Rattle.ix_legal.specs.declared.spot.Spot.TheVariants.{PlacementAt, ElementAt}
use Rattle.ix_extract.specs.Extracted.{IsTableOf, LacksFunction}

-- what comes of something comes of a thing
of_some : {A B : Type 0} (f : A → Option B) (o : Option A) (y : B) → option_and_then f o ≡ Some y
    → (x : A) × (o ≡ Some x)
of_some f None y is = absurd (none-some y is)
of_some f (Some x) y is = (x, refl)

module _ (level : Level) (names : List Text) (rec : DeviceRec) (phys : Phys)
    (legal : Legal level names rec phys) (k : ℕ) (placement : CellPlacement)
    (at : slice_get phys.placements k ≡ Some placement) where
  fits : PlacementFits rec phys (take k phys.placements) placement
  fits = asked_at phys.placements k (PlacementFits rec phys (take k phys.placements)) placement at
      (legal.l2 (PlacementAt k))

  -- its site has an instance
  instance : (i : ℕ) × (x : SiteInstance) × (slice_get phys.site_insts i ≡ Some x)
      × (x.site ≡ placement.site)
  instance =
      let found = Any-from_list_any (λ i. nat_eq i.site placement.site) phys.site_insts fits.in_use
      in (
        found.0,
        found.1,
        slice_get-get_or phys.site_insts found.0 found.1 found.2 ∙ ap Some found.3,
        eqb-true found.1.site placement.site found.4,
      )

  module _ (lut : LutCell) (lut_is : lut_cell_of rec placement.ty ≡ Some lut) where
    map_fits : LutMapFits rec placement lut
    map_fits =
        let pins : PinMapFits rec placement = asked_at phys.placements k (PinMapFits rec) placement
        at (legal.l3 (PlacementAt k)) in subst (PinsFit rec placement) lut_is pins.pins

    -- its BEL is in an element
    element : (e : ElementNumber × ℕ) × (element_at rec placement.site placement.bel ≡ Some e)
    element = of_some _ (element_at rec placement.site placement.bel) map_fits.bel map_fits.bel_is

    has_lut : HasLut rec phys placement.site element.0.0 element.0.1 placement lut
    has_lut = record {
      is_in = record {
        placed = (
          k,
          slice_get_within phys.placements k placement at,
          get_or_from_slice_get phys.placements k placement placement at,
        );
        site_is = refl;
        bel_is = element.1;
      };
      lut_is = lut_is;
    }

    element_fits : ElementFits names rec phys placement.site element.0.0
    element_fits =
        let asked : TableFits names rec phys element.0.0 instance.1 = asked_at phys.site_insts
        instance.0 (TableFits names rec phys element.0.0) instance.1 instance.2
        (legal.l9 (ElementAt instance.0 element.0.0)) in
        subst (λ site. ElementFits names rec phys site element.0.0) instance.3
        (asked element.0.1 placement lut
        (subst (λ site. HasLut rec phys site element.0.0 element.0.1 placement lut)
        (sym instance.3) has_lut))

    pub has_function : (table : TruthTable) × IsTableOf names rec phys k table
    has_function =
        let f = element_fits.functions element.0.1 placement lut has_lut in (
          record { bits = f.0; inputs = length lut.input_pins },
          record {
            placement = placement;
            placement_is = at;
            lut = lut;
            lut_is = lut_is;
            element = element.0.0;
            place = element.0.1;
            in_element = element.1;
            bits = element_fits.bits;
            has_table = element_fits.has_table;
            function = f.1;
            inputs = refl;
          },
        )

pub legal_has_functions : (level : Level) (names : List Text) (rec : DeviceRec) (phys : Phys)
    → Legal level names rec phys → LacksFunction names rec phys → ⊥
legal_has_functions level names rec phys legal lacks =
    let f = has_function level names rec phys legal lacks.cell lacks.placement lacks.placement_is
    lacks.lut lacks.lut_is in lacks.none f.0 f.1
