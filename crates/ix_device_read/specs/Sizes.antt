-- What the numbers of a whole device are asked against.
use Rattle.std.specs.Prelude.{ℕ, List, length, map, replicate, Option, Some, None, Result, Ok, Err}
use Rattle.ix_frame.specs.Result.{◌>>=◌}
use Rattle.ix_message.specs.Indexes.{Item}
use Rattle.ix_message.specs.Names.{Datum}
use Rattle.ix_message.specs.Shape.{Text, Value}
use Rattle.ix_message.specs.Device.{device, tile_type}
use Rattle.ix_device_read.specs.Finish.{Sizes, Stopped, bad, finish_at}

-- how many types the sites of a tile type have
abbrev pub site_type_count : Value ℕ tile_type → ℕ
site_type_count v = length v.1.0

abbrev pub device_sizes : List Text → List Text → Value ℕ device → Sizes
device_sizes table names v = record {
  table = table;
  names = names;
  site_types = length v.1.1.0;
  tile_types = map site_type_count v.1.1.1.0;
  wires = length v.1.1.1.1.1.0;
  bel_pins = 0;
  tile_wires = 0;
  tile_type = 0;
}

-- the whole device, from the root on
abbrev pub device_finished : List Text → List Text → Value ℕ device
    → Result (Value Datum device) Stopped
device_finished table names v = finish_at device (device_sizes table names v) v (replicate 29 0)
    >>= λ x. Ok x.0

-- the record, unless there is a first bad field
abbrev pub finished_as : {A : Type 0} → Option Item → A → Result A Stopped
finished_as None x = Ok x
finished_as (Some item) x = Err (bad item)
