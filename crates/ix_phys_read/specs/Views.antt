-- What the values of this crate are, and what its calls tell.
use Rattle.std.specs.Prelude.{◌≡◌, ℕ, List, [], length}
use Rattle.ix_message.specs.Indexes.{Step, only_table, steps}
use Rattle.ix_message.specs.Names.{Datum, record_of}
use Rattle.ix_message.specs.Shape.{Struct, Value}
use Rattle.ix_rec.specs.declared.fault.ReadFault.{ReadFault}
use Rattle.ix_rec.specs.declared.fault.ReadFault.TheVariants.{Frame, Index, Memory as NoMemory}
use Rattle.ix_rec.specs.declared.place.Place.{Place}
use Rattle.ix_rec.specs.declared.place.Place.TheVariants.{Item as Field}
use Rattle.ix_take.specs.Views.{table_of, kind_word, field_word}
use Rattle.ix_phys_read.specs.declared.context.PhysContext.{PhysContext}
use Rattle.ix_phys_read.specs.Walked.{counted_structs}

-- what a struct stands for, by the string table, and what its reading asks
abbrev pub made_in : (s : Struct) → PhysContext → Value ℕ s → Value Datum s
made_in s c v = record_of (table_of c.texts) s v

abbrev pub asks_in : (s : Struct) → PhysContext → Value ℕ s → List Step
asks_in s c v = steps s (only_table (length (table_of c.texts))) [] v

-- The fault is that this field of the struct of this kind and with this index is out of its list.
-- Want of memory may be told at any time.
abbrev pub IsFieldAt : ℕ → ℕ → ℕ → Place → Type 0
IsFieldAt kind field index (Field k f i) = (k ≡ kind_word counted_structs kind)
    × (f ≡ field_word counted_structs kind field) × (i ≡ index)
IsFieldAt kind field index _ = ⊥

abbrev pub TellsField : ℕ → ℕ → ℕ → ReadFault → Type 0
TellsField kind field index NoMemory = Unit {0}
TellsField kind field index (Frame f) = ⊥
TellsField kind field index (Index p) = IsFieldAt kind field index p
