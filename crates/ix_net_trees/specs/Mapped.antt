-- The BEL pins on which cells have pins, as keys of three names.
use Rattle.std.specs.Prelude.{◌≡◌, ◌⊎◌, ◌↔◌, List, Contains, true}
use Rattle.ix_num.specs.Numbers.{NameNumber}
use Rattle.ix_keys.specs.declared.key.Key.{Key}
use Rattle.ix_keys.specs.Keys.{has_key, key}
use Rattle.ix_rec.specs.declared.phys.Phys.{Phys}
use Rattle.ix_rec.specs.declared.phys.CellPlacement.{CellPlacement}
use Rattle.ix_rec.specs.declared.phys.PinMapping.{PinMapping}
use Rattle.ix_legal.specs.Trees.{IsMapped}

-- those that pin maps of the netlist name
pub record AreMapped (phys : Phys) (keys : List Key) : Type 0 where
  pub each : (site bel pin : NameNumber) → (has_key keys (key site bel pin) ≡ true)
      ↔ IsMapped phys site bel pin

-- the pin map of a placement names this BEL pin
pub record MapsPin (placement : CellPlacement) (site bel pin : NameNumber) : Type 0 where
  pub site_is : placement.site ≡ site
  pub entry : PinMapping
  pub maps : Contains placement.pin_map entry
  pub bel_is : entry.bel ≡ bel
  pub pin_is : entry.bel_pin ≡ pin

-- those that it names are added
pub record AddsPins (placement : CellPlacement) (before now : List Key) : Type 0 where
  pub each : (site bel pin : NameNumber) → (has_key now (key site bel pin) ≡ true)
      ↔ ((has_key before (key site bel pin) ≡ true) ⊎ MapsPin placement site bel pin)
