-- The first port cell that fails, while ports are fixed.
use Rattle.std.specs.Prelude.{◌≡◌, ℕ, ◌<◌, List, slice_get, Bool, Option, Some, None}
use Rattle.std.specs.Prelude.{option_and_then}
use Rattle.std.specs.FinMap.{FinMap, get}
use Rattle.std.specs.Ordering.{nat_cmp}
use Rattle.ix_rec.specs.declared.flow.Flat.{Flat}
use Rattle.ix_rec.specs.declared.place.Rule.{Rule}
use Rattle.ix_belmap.specs.declared.ports.Fixing.{Fixing}
use Rattle.ix_belmap.specs.declared.pins.PinFault.{PinFault}
use Rattle.ix_belmap.specs.declared.pins.PinFault.TheVariants.{Broken, Memory}
use Rattle.ix_belmap.specs.Pins.{IsFirst, IsNameAt, NoneFails, site_of_fixing}

-- the first of so many that fails; none where none fails
abbrev pub IsFirstOf : (ℕ → Bool) → ℕ → Option ℕ → Type 0
IsFirstOf fails count None = NoneFails fails
IsFirstOf fails count (Some place) = IsFirst fails place × (place < count)

-- the rule, and the name of the port cell at a place
abbrev pub IsFaultAt : List (List ℕ) → Flat → Rule → ℕ → PinFault → Type 0
IsFaultAt names flat rule place (Broken told word) =
    (told ≡ rule) × IsNameAt names flat place word
IsFaultAt names flat rule place Memory = Unit {0}

-- each fixed port cell has its site, and no other cell has one
abbrev pub AreSites : List Fixing → FinMap nat_cmp ℕ → Type 0
AreSites all fixed =
    (cell : ℕ) → get fixed cell ≡ option_and_then site_of_fixing (slice_get all cell)
