-- The bits that several LUTs of an element force.
use Rattle.std.specs.Prelude.{
  ◌≡◌,
  ℕ,
  ◌<◌,
  ◌≤◌,
  ◌^◌,
  Bool,
  false,
  List,
  [],
  length,
  take,
  slice_index,
  slice_index_or,
}
use Rattle.std.specs.Int.{bit_at}
use Rattle.ix_lut.specs.Tables.{IsTable, spelled, InputValues}
use Rattle.ix_lut.specs.Places.{LineNumber, LutPlace, Held}
use Rattle.ix_lut.specs.Shapes.{lut_on, IsUsableBel, input_lines}
pub use Rattle.ix_lut.specs.Ties.{IsForced, NoneBothWays, rank, AreBefore}
use Rattle.ix_lut.specs.declared.forcing.Lut.{Lut}

-- what only private contracts cite: LUTs as the code keeps them
abbrev pub lut_at : List Lut → ℕ → Lut
lut_at luts u = slice_index_or luts u
    (record {
      bel = record { low = 0; inputs = 0; lines = [] };
      inputs = 0;
      places = [];
      table = 0;
      word = 0;
    })

abbrev pub place_of : Lut → LutPlace
place_of lut = lut_on lut.bel (take lut.inputs lut.places)

-- the LUT's word has its table's bit for each value of all the BEL's inputs
pub record IsReady (lut : Lut) : Type 0 where
  pub bel : IsUsableBel 12 lut.bel
  pub long : length (input_lines lut.bel) ≡ lut.bel.inputs
  pub few : lut.inputs ≤ 6
  pub places : (i : ℕ) → i < length (take lut.inputs lut.places) →
      slice_index (take lut.inputs lut.places) i < 6
  pub word : IsTable lut.bel.inputs lut.word
  pub values : (v : InputValues) → v < 2 ^ lut.bel.inputs →
      bit_at lut.word v ≡ bit_at lut.table (spelled (take lut.inputs lut.places) v)

abbrev pub AreReady : List Lut → Type 0
AreReady luts = (u : ℕ) → u < length luts → IsReady (lut_at luts u)

abbrev pub AreForced : List Lut → Held → ℕ → ℕ → Type 0
AreForced luts held at bit =
    IsForced (length luts) (λ u. place_of (lut_at luts u)) (λ u. (lut_at luts u).table) held at bit

abbrev pub AreApart : List Lut → Held → Type 0
AreApart luts held =
    NoneBothWays (length luts) (λ u. place_of (lut_at luts u)) (λ u. (lut_at luts u).table) held

-- the word has the bits that are forced to `bit`
pub record HasForced (count : ℕ) (luts : List Lut) (held : Held) (bit word : ℕ) : Type 0 where
  pub only : (at : ℕ) → bit_at word at ≡ 1 →
      IsForced count (λ u. place_of (lut_at luts u)) (λ u. (lut_at luts u).table) held at bit
  pub every : (at : ℕ) →
      IsForced count (λ u. place_of (lut_at luts u)) (λ u. (lut_at luts u).table) held at bit →
      bit_at word at ≡ 1

-- what holds the lines, where the tieable lines from `from` on may be tied
pub record Completes (tieable : List Bool) (held : Held) (from : ℕ) (other : Held) : Type 0 where
  pub before : (line : LineNumber) → line < from → other line ≡ held line
  pub closed : (line : LineNumber) → slice_index_or tieable line false ≡ false →
      other line ≡ held line

-- some of these leaves no bit forced both ways
pub record CanComplete (luts : List Lut) (tieable : List Bool) (held : Held) (from : ℕ)
    : Type 0 where
  pub other : Held
  pub completes : Completes tieable held from other
  pub apart : AreApart luts other

-- among those that leave no bit forced both ways, the least
pub record IsLeastHeld (luts : List Lut) (tieable : List Bool) (base held : Held) : Type 0 where
  pub closed : (line : LineNumber) → slice_index_or tieable line false ≡ false →
      held line ≡ base line
  pub apart : AreApart luts held
  pub least : (other : Held) →
      ((line : LineNumber) → slice_index_or tieable line false ≡ false → other line ≡ base line) →
      AreApart luts other → AreBefore other held → ⊥
