-- The truth tables of placed LUTs.
use Rattle.std.proofs.Common.{◌≡◌, ◌≢◌, ◌⊎◌, ◌<◌, ◌≤◌, ◌+◌, ◌∙◌, refl, ap, sym, subst, ℕ}
use Rattle.std.proofs.Common.{arith, inl, inr, List, slice_get, length, Option, Some, None}
use Rattle.std.proofs.Common.{option_map, Bool, true, false, true≢false}
use Rattle.std.specs.FinMap.{FinMap, get, empty, get-empty}
use Rattle.std.specs.Ordering.{nat_cmp}
use Rattle.std.specs.Prelude.{is_some, not}
use Rattle.std.proofs.lemmas.Bool.{cases_lt}
use Rattle.std.proofs.lemmas.Option.{none-some, same_Some}
use Rattle.ix_message.specs.Shape.{Text}
use Rattle.ix_strings.specs.Names.{AllDiffer}
use Rattle.ix_rec.specs.declared.device.DeviceRec.{DeviceRec}
use Rattle.ix_rec.specs.declared.device.LutCell.{LutCell}
use Rattle.ix_rec.specs.declared.flow.TruthTable.{TruthTable}
use Rattle.ix_rec.specs.declared.phys.CellPlacement.{CellPlacement}
use Rattle.ix_rec.specs.declared.phys.Phys.{Phys}
use Rattle.ix_device.specs.Elements.{lut_inputs_of}
use Rattle.ix_legal.specs.LutTables.{IsFunction}
use Rattle.ix_legal.specs.Sites.{element_at, lut_cell_of}
use Rattle.ix_legal.specs.TableKeys.{HasTable}
use Rattle.ix_ends.proofs.Items.{mapped}
use Rattle.ix_placed_luts.specs.Laws.{FunctionIsOne}
use Rattle.ix_table_keys.specs.Laws.{TableIsOne}
use Rattle.ix_table_keys.specs.Tables.{IsNamedThere, IsOnlyTable}
use Rattle.ix_extract.specs.Extracted.{IsTableOf, LacksFunction}
use Rattle.ix_extract.specs.Taken.{AreTables}

-- what is, or isn't, there
pub nothing : {A : Type 0} (o : Option A) (none : Bool) → is_some o ≡ not none → none ≡ true
    → o ≡ None
nothing None none is so = refl
nothing (Some x) none is so = absurd (true≢false (is ∙ ap not so))

pub something : {A : Type 0} (o : Option A) (none : Bool) → is_some o ≡ not none → none ≡ false
    → (x : A) × (o ≡ Some x)
something None none is so = absurd (true≢false (sym (is ∙ ap not so)))
something (Some x) none is so = (x, refl)

module _ (names : List Text) (rec : DeviceRec) (phys : Phys) where
  -- Of a cell.
  module _ (cell : ℕ) (placement : CellPlacement)
      (stands : slice_get phys.placements cell ≡ Some placement) where
    pub lacks : (lut : LutCell) → lut_cell_of rec placement.ty ≡ Some lut
        → ((table : TruthTable) → IsTableOf names rec phys cell table → ⊥)
        → LacksFunction names rec phys
    lacks lut lut_is none = record {
      cell = cell;
      placement = placement;
      placement_is = stands;
      lut = lut;
      lut_is = lut_is;
      none = none;
    }

    module _ (table : TruthTable) (is : IsTableOf names rec phys cell table) where
      its : is.placement ≡ placement
      its = same_Some is.placement placement (sym is.placement_is ∙ stands)

      its_element : option_map (λ (at : ℕ × ℕ). at.0) (element_at rec placement.site placement.bel)
          ≡ Some is.element
      its_element = ap (λ (p : CellPlacement). option_map (λ (at : ℕ × ℕ). at.0)
          (element_at rec p.site p.bel)) (sym its)
          ∙ ap (option_map (λ (at : ℕ × ℕ). at.0)) is.in_element

      pub its_lut : lut_cell_of rec placement.ty ≡ Some is.lut
      its_lut = ap (λ (p : CellPlacement). lut_cell_of rec p.ty) (sym its) ∙ is.lut_is

      -- on a BEL of no element there is none
      pub not_without_element : option_map (λ (at : ℕ × ℕ). at.0)
          (element_at rec placement.site placement.bel) ≡ None → ⊥
      not_without_element none = none-some is.element (sym none ∙ its_element)

      module _ (element : ℕ) (element_is : option_map (λ (at : ℕ × ℕ). at.0)
          (element_at rec placement.site placement.bel) ≡ Some element) where
        its_table : HasTable names phys placement.site element is.bits
        its_table = subst (λ e. HasTable names phys placement.site e is.bits)
            (same_Some is.element element (sym its_element ∙ element_is))
            (subst (λ (p : CellPlacement). HasTable names phys p.site is.element is.bits) its
            is.has_table)

        -- in one without a table, neither
        pub not_without_table : ((bits : ℕ) → HasTable names phys placement.site element bits → ⊥)
            → ⊥
        not_without_table none = none is.bits its_table

        -- nor where the table gives no function
        pub not_without_function : (bits : ℕ)
            → IsOnlyTable names phys placement.site element bits
            → ((function : ℕ) → IsFunction rec phys placement bits function → ⊥) → ⊥
        not_without_function bits only none = none table.bits
            (subst (λ b. IsFunction rec phys placement b table.bits) (only.one is.bits its_table)
            (subst (λ (p : CellPlacement). IsFunction rec phys p is.bits table.bits) its
            is.function))

    -- with all of them there is one
    pub has : (lut : LutCell) → lut_cell_of rec placement.ty ≡ Some lut → (element bits : ℕ)
        → option_map (λ (at : ℕ × ℕ). at.0) (element_at rec placement.site placement.bel)
        ≡ Some element → HasTable names phys placement.site element bits → (table : TruthTable)
        → IsFunction rec phys placement bits table.bits
        → lut_inputs_of rec placement.ty ≡ Some table.inputs → IsTableOf names rec phys cell table
    has lut lut_is element bits element_is has_table table function inputs =
        let at = mapped (λ (at : ℕ × ℕ). at.0) (element_at rec placement.site placement.bel) element
        element_is in record {
          placement = placement;
          placement_is = stands;
          lut = lut;
          lut_is = lut_is;
          element = at.0.0;
          place = at.0.1;
          in_element = at.1;
          bits = bits;
          has_table = subst (λ e. HasTable names phys placement.site e bits) (sym at.2) has_table;
          function = function;
          inputs = same_Some table.inputs (length lut.input_pins) (sym inputs
              ∙ ap (option_map (λ (c : LutCell). length c.input_pins)) lut_is);
        }

  -- a cell has one truth table at most
  made : (bits inputs : ℕ) → TruthTable
  made bits inputs = record { bits = bits; inputs = inputs }

  pub one_table : FunctionIsOne → TableIsOne → AllDiffer names → IsNamedThere names phys
      → (cell : ℕ) (one other : TruthTable) → IsTableOf names rec phys cell one
      → IsTableOf names rec phys cell other → one ≡ other
  unfolding made
  one_table functions tables differ named cell one other a b =
      let element = same_Some b.element a.element
      (sym (its_element cell a.placement a.placement_is other b)
      ∙ ap (option_map (λ (at : ℕ × ℕ). at.0)) a.in_element) in
      let table = its_table cell a.placement a.placement_is other b a.element
      (ap (option_map (λ (at : ℕ × ℕ). at.0)) a.in_element) in
      let bits = tables names phys differ named a.placement.site a.element b.bits a.bits table
      a.has_table in
      let same = its cell a.placement a.placement_is other b in
      let function = functions rec phys a.placement a.bits one.bits other.bits a.function
      (subst (λ n. IsFunction rec phys a.placement n other.bits) bits
      (subst (λ (p : CellPlacement). IsFunction rec phys p b.bits other.bits) same b.function)) in
      let lut = same_Some a.lut b.lut (sym a.lut_is
      ∙ its_lut cell a.placement a.placement_is other b) in
      let inputs : one.inputs ≡ other.inputs = a.inputs
      ∙ ap (λ (l : LutCell). length l.input_pins) lut ∙ sym b.inputs in
      ap (λ n. made n one.inputs) function ∙ ap (λ n. made other.bits n) inputs

  -- The tables of the first so many cells.

  abbrev Tables : Type 0
  Tables = FinMap nat_cmp TruthTable

  pub no_tables : (tables : Tables) → tables ≡ empty → AreTables names rec phys 0 tables
  no_tables tables is = record {
    each = λ cell table. (
      λ h. absurd (none-some table (sym (ap (λ m. get m cell) is ∙ get-empty nat_cmp cell) ∙ h)),
      λ h. let lt = h.0 in absurd (omega (arith, lt)),
    );
    all = λ cell placement lut lt at lut_is. absurd (omega (arith, lt));
  }

  module _ (cell : ℕ) (placement : CellPlacement)
      (stands : slice_get phys.placements cell ≡ Some placement) (before after : Tables)
      (are : AreTables names rec phys cell before) where
    -- a plain cell has none
    pub plain_next : lut_cell_of rec placement.ty ≡ None → after ≡ before
        → AreTables names rec phys (cell + 1) after
    plain_next plain stay = record {
      each = λ q table. (
        λ h. let e = (are.each q table).0 (sym (ap (λ m. get m q) stay) ∙ h) in
            let lt = e.0 in (omega (arith, lt), e.1),
        λ h. ap (λ m. get m q) stay ∙ back q table h.0 h.1 (cases_lt q cell),
      );
      all = λ q other lut lt at lut_is. every q other lut lt at lut_is (cases_lt q cell);
    }
      where
        back : (q : ℕ) (table : TruthTable) → q < cell + 1 → IsTableOf names rec phys q table
            → (q < cell) ⊎ (cell ≤ q) → get before q ≡ Some table
        back q table lt is (inl less) = (are.each q table).1 (less, is)
        back q table lt is (inr le) =
            let same : q ≡ cell = omega (arith, lt, le) in
            let here = subst (λ n. IsTableOf names rec phys n table) same is in
            absurd (none-some here.lut (sym plain ∙ its_lut cell placement stands table here))

        every : (q : ℕ) (other : CellPlacement) (lut : LutCell) → q < cell + 1
            → slice_get phys.placements q ≡ Some other → lut_cell_of rec other.ty ≡ Some lut
            → (q < cell) ⊎ (cell ≤ q)
            → (table : TruthTable) × IsTableOf names rec phys q table
        every q other lut lt at lut_is (inl less) = are.all q other lut less at lut_is
        every q other lut lt at lut_is (inr le) =
            let same : q ≡ cell = omega (arith, lt, le) in
            let its : other ≡ placement = same_Some other placement (sym at
            ∙ ap (slice_get phys.placements) same ∙ stands) in
            absurd (none-some lut (sym (ap (λ (p : CellPlacement). lut_cell_of rec p.ty) its
            ∙ plain) ∙ lut_is))

    -- a LUT has its own
    pub table_next : FunctionIsOne → TableIsOne → AllDiffer names → IsNamedThere names phys
        → (table : TruthTable) → IsTableOf names rec phys cell table
        → get after cell ≡ Some table
        → ((q : ℕ) → q ≢ cell → get after q ≡ get before q)
        → AreTables names rec phys (cell + 1) after
    table_next functions tables differ named table is here others = record {
      each = λ q other. (
        λ h. forth q other h (cases_lt q cell),
        λ h. back q other h.0 h.1 (cases_lt q cell),
      );
      all = λ q other lut lt at lut_is. every q other lut lt at lut_is (cases_lt q cell);
    }
      where
        forth : (q : ℕ) (other : TruthTable) → get after q ≡ Some other
            → (q < cell) ⊎ (cell ≤ q) → (q < cell + 1) × IsTableOf names rec phys q other
        forth q other h (inl less) = let e = (are.each q other).0 (sym (others q
            (λ same. let s : q ≡ cell = same in omega (arith, s, less))) ∙ h) in
            (omega (arith, less), e.1)
        forth q other h (inr le) = elim (cases_lt cell q) [
          | inl above ↦
              let e = (are.each q other).0 (sym (others q
              (λ same. let s : q ≡ cell = same in omega (arith, s, above))) ∙ h) in
              let lt = e.0 in absurd (omega (arith, lt, above))
          | inr below ↦
              let same : q ≡ cell = omega (arith, le, below) in (
                omega (arith, same),
                subst (λ n. IsTableOf names rec phys n other) (sym same)
                    (subst (IsTableOf names rec phys cell)
                    (same_Some table other (sym here ∙ ap (get after) (sym same) ∙ h)) is),
              )
        ]

        back : (q : ℕ) (other : TruthTable) → q < cell + 1 → IsTableOf names rec phys q other
            → (q < cell) ⊎ (cell ≤ q) → get after q ≡ Some other
        back q other lt so (inl less) = others q
            (λ same. let s : q ≡ cell = same in omega (arith, s, less))
            ∙ (are.each q other).1 (less, so)
        back q other lt so (inr le) =
            let same : q ≡ cell = omega (arith, lt, le) in
            ap (get after) same ∙ here ∙ ap Some (one_table functions tables differ named cell table
            other is (subst (λ n. IsTableOf names rec phys n other) same so))

        every : (q : ℕ) (other : CellPlacement) (lut : LutCell) → q < cell + 1
            → slice_get phys.placements q ≡ Some other → lut_cell_of rec other.ty ≡ Some lut
            → (q < cell) ⊎ (cell ≤ q)
            → (t : TruthTable) × IsTableOf names rec phys q t
        every q other lut lt at lut_is (inl less) = are.all q other lut less at lut_is
        every q other lut lt at lut_is (inr le) =
            let same : q ≡ cell = omega (arith, lt, le) in
            (table, subst (λ n. IsTableOf names rec phys n table) (sym same) is)

  pub tables_end : (cell : ℕ) (tables : Tables) → cell ≡ length phys.placements
      → AreTables names rec phys cell tables
      → AreTables names rec phys (length phys.placements) tables
  tables_end cell tables end are = subst (λ n. AreTables names rec phys n tables) end are
