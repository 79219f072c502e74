-- The constants of BEL pins, by the names of site type, BEL and pin.
use Rattle.std.specs.Prelude.{ℕ, List, [], ◌∷◌, slice_get, nat_eq, Bool, false, Option, Some, None}
use Rattle.std.specs.Prelude.{if◌then◌else◌, option_and_then}
use Rattle.ix_num.specs.declared.resource.Constant.{Constant}
use Rattle.ix_rec.specs.declared.device.DeviceRec.{DeviceRec}
use Rattle.ix_rec.specs.declared.device.SiteType.{SiteType}
use Rattle.ix_rec.specs.declared.device.SiteConstantSource.{SiteConstantSource}
use Rattle.ix_keys.specs.declared.key.Key.{Key}
use Rattle.ix_keys.specs.Keys.{key, key_eq}
use Rattle.ix_first.specs.First.{value_at}
use Rattle.ix_first.specs.declared.by_key.FirstByKey.{FirstByKey}
use Rattle.ix_device.specs.Lookups.{pin_of_bel}
use Rattle.ix_device.specs.Sources.{constant_of, if_named}

-- an entry is of these names
abbrev pub is_under : Key → SiteConstantSource → Bool
is_under q e = key_eq (key e.site_type e.bel e.bel_pin) q

-- the constant of the first entry that passes and has one
abbrev pub first_that : (SiteConstantSource → Bool) → List SiteConstantSource → Option Constant
first_that test [] = None
first_that test (e ∷ es) = if_named (test e) (constant_of e.constant) (first_that test es)

-- the constant of the first entry of these names that has one
abbrev pub named_source : DeviceRec → Key → Option Constant
named_source rec q = option_and_then (λ c. first_that (is_under q) c.site_sources) rec.constants

abbrev pub is_number : ℕ → Option ℕ → Bool
is_number n None = false
is_number n (Some m) = nat_eq n m

-- the source of the BEL pin of this number, in a table by names: the first pin of its names has it
abbrev pub source_of_pin : FirstByKey Constant → SiteType → ℕ → Option Constant
source_of_pin table t pin =
    option_and_then (λ p. if is_number pin (pin_of_bel p.bel p.name t)
    then value_at table (key t.name p.bel p.name) else None) (slice_get t.bel_pins pin)
