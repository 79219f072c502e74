-- What is done struct by struct, and what the definitions of a message say.
use Rattle.std.specs.Prelude.{◌≡◌, ℕ, ◌-◌, ◌^◌, ◌<◌, List, length}
use Rattle.ix_message.specs.Device.{device}
use Rattle.ix_message.specs.Indexes.{first_bad}
use Rattle.ix_message.specs.Names.{record_of}
use Rattle.ix_message.specs.Shape.{Text, Value}
use Rattle.ix_device_read.specs.Premises.{TextsKnown, structs_in}
use Rattle.ix_device_read.specs.Sizes.{device_finished, finished_as}

-- Where each text is one of the names, and a count of structs never comes to its end, a whole
-- device is finished as its record, or stops at its first bad field.
abbrev pub FinishingIsReading : Type 0
FinishingIsReading =
    (names table : List Text) (v : Value ℕ device) → TextsKnown names device v
    → structs_in device v < 2 ^ 32 - 1
    → device_finished table names v ≡ finished_as (first_bad device (length table) v)
    (record_of table device v)
