-- The rule that a device breaks, and its place.
use Rattle.std.specs.Prelude.{◌≡◌, Option, Some, None, Result, Ok, Err}
use Rattle.ix_num.specs.declared.fault.Memory.{Memory as WantOfMemory}
use Rattle.ix_message.specs.Indexes.{Item}
use Rattle.ix_rec.specs.declared.place.Place.{Place}
use Rattle.ix_rec.specs.declared.place.Place.TheVariants as P
use Rattle.ix_rec.specs.declared.place.Rule.{Rule}
use Rattle.ix_device_rules.specs.declared.stop.Stop.{Stop}
use Rattle.ix_device_rules.specs.declared.stop.Stop.TheVariants.{Broken, Memory}

-- the rule and the place are those of this field
abbrev pub IsBreach : Option (Rule × Item) → Rule → Place → Type 0
IsBreach given rule (P.Item k f i) = given ≡ Some (rule, record { kind = k; field = f; index = i })
IsBreach given rule _ = ⊥

-- what is told is the first rule and field, or none where there is none
abbrev pub Shows : Option (Rule × Item) → Option (Rule × Place) → Type 0
Shows given None = given ≡ None
Shows given (Some b) = IsBreach given b.0 b.1

-- what a stop in the walk of a rule tells
abbrev pub IsBrokenBy : Rule → Stop → Result (Option (Rule × Place)) WantOfMemory → Type 0
IsBrokenBy rule (Broken place) result = result ≡ Ok (Some (rule, place))
IsBrokenBy rule Memory (Ok told) = ⊥
IsBrokenBy rule Memory (Err e) = Unit {0}
