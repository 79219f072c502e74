-- Plans of LUT elements.
use Rattle.std.specs.Prelude.{
  ◌≡◌,
  ◌≢◌,
  ◌⊎◌,
  ℕ,
  zero,
  suc,
  ◌<◌,
  ◌≤◌,
  List,
  [],
  ◌∷◌,
  ◌++◌,
  length,
  Contains,
  slice_index,
  slice_index_or,
  ◌==◌,
  if◌then◌else◌,
}
use Rattle.std.specs.Int.{bit_at}
use Rattle.ix_lut.specs.Tables.{TableBits, InputPlace, IsTable}
use Rattle.ix_lut.specs.Places.{LineNumber, LutPlace, Held, GivesFunction}
use Rattle.ix_lut.specs.Shapes.{input_lines, bel_at, lut_on, held_by}
use Rattle.ix_lut.specs.Items.{
  UseNumber,
  use_at,
  all_items,
  line_of_input,
  IsAssignment,
  IsLeastAssignment,
}
use Rattle.ix_lut.specs.Ties.{IsForced, NoneBothWays, AreBefore, constant_of}
use Rattle.ix_lut.specs.declared.shape.ElementShape.{ElementShape}
use Rattle.ix_lut.specs.declared.shape.Tie.{Tie}
use Rattle.ix_lut.specs.declared.shape.Tie.TheVariants.{Free}
use Rattle.ix_lut.specs.declared.uses.LutUse.{LutUse}
use Rattle.ix_lut.specs.declared.uses.Item.{Item}
use Rattle.ix_lut.specs.declared.plan.ElementPlan.{ElementPlan}

-- the LUT cells of an element: on different BELs of it in order, each with a table of 1 to 6 inputs
pub record AreUses (shape : ElementShape) (uses : List LutUse) : Type 0 where
  pub on_bels : (u : UseNumber) → u < length uses → (use_at uses u).bel < shape.bel_count
  pub in_order : (u w : UseNumber) → u < w → w < length uses →
      (use_at uses u).bel < (use_at uses w).bel
  pub some : (u : UseNumber) → u < length uses → 1 ≤ (use_at uses u).table.inputs
  pub few : (u : UseNumber) → u < length uses → (use_at uses u).table.inputs ≤ 6
  pub tables : (u : UseNumber) → u < length uses →
      IsTable (use_at uses u).table.inputs (use_at uses u).table.bits

-- the place of a line among a BEL's, or their number where it isn't there
abbrev pub place_in : List LineNumber → LineNumber → InputPlace
place_in [] line = 0
place_in (first ∷ lines) line = if first == line then 0 else suc (place_in lines line)

-- the places on its BEL of a cell's first inputs, where each item has a line
abbrev pub places_of : List LutUse → List LineNumber → List LineNumber → LutUse → ℕ →
    List InputPlace
places_of uses lines bel_lines cell zero = []
places_of uses lines bel_lines cell (suc n) =
    places_of uses lines bel_lines cell n ++
    place_in bel_lines (line_of_input uses lines cell n) ∷ []

-- the same, by the lines of the cell's inputs
abbrev pub places_on : List LineNumber → List LineNumber → ℕ → List InputPlace
places_on bel_lines chosen zero = []
places_on bel_lines chosen (suc n) =
    places_on bel_lines chosen n ++ place_in bel_lines (slice_index chosen n) ∷ []

-- a cell of an element as an assignment places it
abbrev pub lut_of : ElementShape → List LutUse → List LineNumber → UseNumber → LutPlace
lut_of shape uses lines u =
    let cell = use_at uses u in
    let bel = bel_at shape cell.bel in
    lut_on bel (places_of uses lines (input_lines bel) cell cell.table.inputs)

abbrev pub table_of : List LutUse → UseNumber → TableBits
table_of uses u = (use_at uses u).table.bits

-- what holds a line: the constant of the net of its item, or its tie where it has no item
abbrev pub constant_on : List Item → List LineNumber → Tie → LineNumber → Tie
constant_on (item ∷ items) (first ∷ lines) tie line =
    if first == line then constant_of item.net else constant_on items lines tie line
constant_on _ _ tie line = tie

abbrev pub held_under : List LutUse → List LineNumber → Held → Held
held_under uses lines ties line = constant_on (all_items uses) lines (ties line) line

-- ties under which no bit of the table is forced both ways
pub record AreTies (shape : ElementShape) (uses : List LutUse) (lines : List LineNumber)
    (ties : Held) : Type 0 where
  pub with_item : (line : LineNumber) → Contains lines line → ties line ≡ Free
  pub beyond : (line : LineNumber) → shape.lines ≤ line → ties line ≡ Free
  pub apart : NoneBothWays (length uses) (lut_of shape uses lines) (table_of uses)
      (held_under uses lines ties)

-- the least such list of ties
pub record AreLeastTies (shape : ElementShape) (uses : List LutUse) (lines : List LineNumber)
    (ties : Held) : Type 0 where
  pub serve : AreTies shape uses lines ties
  pub least : (other : Held) → AreTies shape uses lines other → AreBefore other ties → ⊥

-- the plan of an element: the least assignment of lines to its items, the least ties with it, and
-- the table that has exactly those bits which are forced to 1
pub record IsPlan (shape : ElementShape) (uses : List LutUse) (plan : ElementPlan) : Type 0 where
  pub lines : List LineNumber
  pub assignment : IsLeastAssignment shape uses lines
  pub choice : (u : UseNumber) (i : ℕ) → u < length uses → i < (use_at uses u).table.inputs →
      slice_index (slice_index_or plan.choice u []) i ≡ line_of_input uses lines (use_at uses u) i
  pub ties : AreLeastTies shape uses lines (held_by plan.ties)
  pub only : (at : ℕ) → bit_at plan.bits at ≡ 1 →
      IsForced (length uses) (lut_of shape uses lines) (table_of uses)
      (held_under uses lines (held_by plan.ties)) at 1
  pub every : (at : ℕ) →
      IsForced (length uses) (lut_of shape uses lines) (table_of uses)
      (held_under uses lines (held_by plan.ties)) at 1 →
      bit_at plan.bits at ≡ 1

-- there is no assignment, or no list of ties for the least one
pub record HasNoTies (shape : ElementShape) (uses : List LutUse) : Type 0 where
  pub lines : List LineNumber
  pub assignment : IsLeastAssignment shape uses lines
  pub none : (ties : Held) → AreTies shape uses lines ties → ⊥

abbrev pub HasNoPlan : ElementShape → List LutUse → Type 0
HasNoPlan shape uses =
    ((lines : List LineNumber) → IsAssignment shape uses lines → ⊥) ⊎ HasNoTies shape uses

-- the law on plans: with the plan's bits each cell has its own table as its function, under the
-- plan's ties and under any constants besides on lines that these leave free
abbrev pub GivesFunctions : ElementShape → List LutUse → ElementPlan → Type 0
GivesFunctions shape uses plan = (is : IsPlan shape uses plan) (u : UseNumber) (held : Held) →
    u < length uses →
    ((line : LineNumber) → held_under uses is.lines (held_by plan.ties) line ≢ Free →
    held line ≡ held_under uses is.lines (held_by plan.ties) line) →
    GivesFunction (lut_of shape uses is.lines u) held plan.bits (table_of uses u)
