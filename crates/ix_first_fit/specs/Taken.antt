-- What is known while places are taken.
use Rattle.std.specs.Prelude.{◌≡◌, ◌<◌, ◌≤◌, ℕ, List, true, false, Option, Some, None, is_some}
use Rattle.ix_keys.specs.declared.key.Key.{Key}
use Rattle.ix_keys.specs.Keys.{key}
use Rattle.ix_first.specs.declared.by_key.FirstByKey.{FirstByKey}
use Rattle.ix_first.specs.First.{value_at}
use Rattle.ix_rec.specs.declared.device.DeviceRec.{DeviceRec}
use Rattle.ix_first_fit.specs.declared.cell.Spot.{Spot}
use Rattle.ix_first_fit.specs.Spots.{spot, admits, IsBefore, is_taken}
use Rattle.ix_first_fit.specs.Fit.{IsFirstFree}

abbrev pub spot_key : Spot → Key
spot_key p = key p.site p.bel 0

-- a table has the places of a list
abbrev pub AreTaken : List Spot → FirstByKey (Unit {0}) → Type 0
AreTaken places table = (p : Spot) → is_some (value_at table (spot_key p)) ≡ is_taken places p

-- each place before this one that admits the type is taken
abbrev pub NoneBefore : DeviceRec → List Spot → ℕ → Spot → Type 0
NoneBefore rec taken ty p = (q : Spot) → IsBefore q p → admits rec ty q ≡ true
    → is_taken taken q ≡ true

-- each BEL of a site from this number on, and below the other, that admits the type is taken
abbrev pub NoneWithin : DeviceRec → List Spot → (ty site first last : ℕ) → Type 0
NoneWithin rec taken ty site first last = (b : ℕ) → first ≤ b → b < last
    → admits rec ty (spot site b) ≡ true → is_taken taken (spot site b) ≡ true

pub record IsFreeBel (rec : DeviceRec) (taken : List Spot) (ty site first b : ℕ) : Type 0 where
  pub from : first ≤ b
  pub admitted : admits rec ty (spot site b) ≡ true
  pub free : is_taken taken (spot site b) ≡ false
  pub first_so : NoneWithin rec taken ty site first b

-- the first free BEL of a site from this number on
abbrev pub IsFirstBel : DeviceRec → List Spot → (ty site first : ℕ) → Option ℕ → Type 0
IsFirstBel rec taken ty site first (Some b) = IsFreeBel rec taken ty site first b
IsFirstBel rec taken ty site first None = (b : ℕ) → first ≤ b → admits rec ty (spot site b) ≡ true
    → is_taken taken (spot site b) ≡ true

-- the first free place; none where each that admits the type is taken
abbrev pub IsFirstSpot : DeviceRec → List Spot → ℕ → Option Spot → Type 0
IsFirstSpot rec taken ty (Some p) = IsFirstFree rec taken ty p
IsFirstSpot rec taken ty None = (p : Spot) → admits rec ty p ≡ true → is_taken taken p ≡ true
