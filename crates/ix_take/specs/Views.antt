-- What the values of this crate are, and what its calls tell.
use Rattle.std.specs.Prelude.{◌≡◌, ℕ, List, map, Bool, true, false, nat_lt, Result, Ok, Err}
use Rattle.std.specs.List.{list_all}
use Rattle.ix_message.specs.Indexes.{Item}
use Rattle.ix_message.specs.Names.{Datum}
use Rattle.ix_message.specs.Shape.{Text, Struct}
use Rattle.ix_message_write.specs.Table.{name_text}
use Rattle.ix_schema.specs.Named.{kind_text, field_text}
use Rattle.ix_take.specs.declared.context.Context.{Context}
use Rattle.ix_take.specs.declared.stop.Stop.{Stop}
use Rattle.ix_take.specs.declared.stop.Stop.TheVariants.{OutOfList, Memory}

-- the texts of the string table
abbrev pub table_of : Context → List Text
table_of c = map (name_text c.names.now) c.strings.now

-- the words of a struct and of its field, by their numbers
unfoldable pub kind_word : List Struct → ℕ → Text
kind_word structs kind = kind_text structs kind

unfoldable pub field_word : List Struct → ℕ → ℕ → Text
field_word structs kind field = field_text structs kind field

-- A field was asked, and holds this; or it is out of its list, which is told so.
abbrev pub Asked : {X : Type 0} → (X → Datum) → Result X Stop → Bool → Datum → Stop → Type 0
Asked view (Ok x) fits held stop = (fits ≡ true) × (held ≡ view x)
Asked view (Err e) fits held stop = (fits ≡ false) × (e ≡ stop)

-- Each number of a list was asked, and they are these; or one is out of its list, which is told so.
-- Want of memory may be told at any time.
abbrev pub AskedEach : Result (List ℕ) Stop → List ℕ → ℕ → Stop → Type 0
AskedEach (Ok xs) ns many stop = (xs ≡ ns) × (list_all (λ n. nat_lt n many) ns ≡ true)
AskedEach (Err Memory) ns many stop = Unit {0}
AskedEach (Err (OutOfList kind field i)) ns many stop =
    (OutOfList kind field i ≡ stop) × (list_all (λ n. nat_lt n many) ns ≡ false)

-- The steps stop at the field that is told. Want of memory may be told at any time.
abbrev pub Stops : List Struct → Stop → Result (List ℕ) Item → Type 0
Stops structs Memory steps = Unit {0}
Stops structs (OutOfList kind field i) steps = steps ≡ Err (record {
  kind = kind_word structs kind;
  field = field_word structs kind field;
  index = i;
})

-- All steps of a struct fit, and what was made, seen by view, is the part of the record that it
-- stands for; or the first field that doesn't fit is told.
abbrev pub Takes : List Struct → {X Y : Type 0} → (X → Y) → Result X Stop → List ℕ → Y
    → Result (List ℕ) Item → Type 0
Takes structs view (Ok x) now made steps = (made ≡ view x) × (steps ≡ Ok now)
Takes structs view (Err e) now made steps = Stops structs e steps
