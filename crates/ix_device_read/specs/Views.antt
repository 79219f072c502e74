-- What the values of this crate are.
use Rattle.std.specs.Prelude.{◌≡◌, ℕ, List, map, Result, Ok, Err}
use Rattle.ix_message.specs.Shape.{Text}
use Rattle.ix_schema.specs.Named.{kind_text, field_text}
use Rattle.ix_schema.specs.Structs.{device_structs}
use Rattle.ix_device_read.specs.declared.context.Context.{Context}
use Rattle.ix_device_read.specs.declared.context.Scope.{Scope}
use Rattle.ix_device_read.specs.declared.stop.Stop.{Stop}
use Rattle.ix_device_read.specs.declared.stop.Stop.TheVariants.{OutOfList, Unnamed, Memory}
use Rattle.ix_device_read.specs.Numbers.{name_text}
use Rattle.ix_device_read.specs.Finish.{Sizes, Stopped, bad, unnamed}

-- what a context says of the lists, within a struct
abbrev pub sizes_of : Context → Scope → Sizes
sizes_of c s = record {
  table = map (name_text c.names.now) c.strings.now;
  names = c.names.now;
  site_types = c.site_types;
  tile_types = c.tile_types.now;
  wires = c.wires;
  bel_pins = s.bel_pins;
  tile_wires = s.tile_wires;
  tile_type = s.tile_type;
}

-- the words of a struct and of its field, by their numbers
unfoldable pub kind_word : ℕ → Text
kind_word kind = kind_text device_structs kind

unfoldable pub field_word : ℕ → ℕ → Text
field_word kind field = field_text device_structs kind field

-- A stop is the one that the definition finds. Want of memory may be told at any time.
abbrev pub Stops : {Y : Type 0} → Stop → Result Y Stopped → Type 0
Stops Memory given = Unit {0}
Stops Unnamed given = given ≡ Err unnamed
Stops (OutOfList kind field i) given = given
    ≡ Err (bad (record { kind = kind_word kind; field = field_word kind field; index = i }))

-- What was made, seen by view, is what the definition gives, or the first stop is that of the
-- definition.
abbrev pub Meets : {X Y : Type 0} → (X → Y) → Result X Stop → Result Y Stopped → Type 0
Meets view (Ok x) given = given ≡ Ok (view x)
Meets view (Err e) given = Stops e given

-- The same with the counts that are left.
abbrev pub MeetsWith : {X Y : Type 0} → (X → Y) → Result X Stop → List ℕ
    → Result (Y × List ℕ) Stopped → Type 0
MeetsWith view (Ok x) now given = given ≡ Ok (view x, now)
MeetsWith view (Err e) now given = Stops e given
