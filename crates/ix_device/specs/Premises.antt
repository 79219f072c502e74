-- What the table of admissions and the shapes of elements ask of a device and of the tables of its
-- site types.
use Rattle.std.specs.Prelude.{◌≡◌, ◌≤◌, ℕ, ◌+◌, ◌^◌, List, length, slice_get, Some, nat_eq}
use Rattle.std.specs.List.{position, AllByRecursion}
use Rattle.ix_keys.specs.Keys.{key}
use Rattle.ix_first.specs.First.{value_at}
use Rattle.ix_rec.specs.declared.device.SiteType.{SiteType}
use Rattle.ix_rec.specs.declared.device.LutBel.{LutBel}
use Rattle.ix_rec.specs.declared.device.LutElement.{LutElement}
use Rattle.ix_device.specs.declared.types.TypeTables.{TypeTables}
use Rattle.ix_device.specs.Lookups.{pin_of_bel}

-- no two site types have one name
abbrev pub TypesDiffer : List SiteType → Type 0
TypesDiffer types = (k : ℕ) (t : SiteType) → slice_get types k ≡ Some t
    → position (λ u. nat_eq u.name t.name) types ≡ Some k

-- the tables of each site type find its BEL pins
pub record FindPins (types : List SiteType) (tables : List TypeTables) : Type 0 where
  pub same_length : length tables ≡ length types
  pub pins : (k : ℕ) (t : SiteType) (x : TypeTables) → slice_get types k ≡ Some t
      → slice_get tables k ≡ Some x → (bel name : ℕ)
      → value_at x.bel_pins (key 0 bel name) ≡ pin_of_bel bel name t

-- the bits that a LUT BEL reads, one for each value of its inputs, are among 64
pub record BelFits (b : LutBel) : Type 0 where
  pub few : length b.input_pins ≤ 6
  pub within : b.low_bit + 2 ^ length b.input_pins ≤ 64

abbrev pub BelsFit : LutElement → Type 0
BelsFit e = AllByRecursion BelFits e.bels
