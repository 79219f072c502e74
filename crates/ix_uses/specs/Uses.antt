-- Which sites of a netlist are in use, and which BELs have cells.
use Rattle.std.specs.Prelude.{◌≡◌, List, Bool, Result, Err}
use Rattle.ix_num.specs.Numbers.{NameNumber}
use Rattle.ix_keys.specs.declared.key.Key.{Key}
use Rattle.ix_keys.specs.Keys.{has_key, key}
use Rattle.ix_rec.specs.declared.device.DeviceRec.{DeviceRec}
use Rattle.ix_rec.specs.declared.phys.Phys.{Phys}
use Rattle.ix_legal.specs.Placements.{IsPlaced, has_instance, has_cell}
use Rattle.ix_legal.specs.Spots.{IsFirstBreak}
use Rattle.ix_walk.specs.Marks.{Marks, has_mark}
use Rattle.ix_uses.specs.declared.fault.UsesFault.{UsesFault}
use Rattle.ix_uses.specs.declared.fault.UsesFault.TheVariants.{Broken}

-- What contracts see: the sites that have instances, and the BELs that have cells, as keys of two
-- names.
pub record UsesSeen : Type 0 where
  pub sites : Marks
  pub bels : List Key

-- a site has an instance
unfoldable pub is_used : UsesSeen → (site : NameNumber) → Bool
is_used uses site = has_mark uses.sites site

-- a cell is on this BEL of this site
unfoldable pub holds_cell : UsesSeen → (site bel : NameNumber) → Bool
holds_cell uses site bel = has_key uses.bels (key site bel 0)

-- the uses of a netlist
pub record AreUses (phys : Phys) (uses : UsesSeen) : Type 0 where
  pub instances : (site : NameNumber) → is_used uses site ≡ has_instance phys site
  pub cells : (site bel : NameNumber) → holds_cell uses site bel ≡ has_cell phys.placements site bel

-- why they aren't told: the first place at which L2 is broken, or want of memory
abbrev pub IsRefused : {A : Type 0} → DeviceRec → Phys → Result A UsesFault → Type 0
IsRefused rec phys (Err (Broken spot)) = IsFirstBreak (IsPlaced rec phys) spot
IsRefused rec phys result = Unit {0}
