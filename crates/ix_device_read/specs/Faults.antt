-- What a fault at a field says.
use Rattle.std.specs.Prelude.{◌≡◌, ℕ}
use Rattle.ix_rec.specs.declared.fault.ReadFault.{ReadFault}
use Rattle.ix_rec.specs.declared.fault.ReadFault.TheVariants.{Frame, Index, Memory}
use Rattle.ix_rec.specs.declared.place.Place.{Place}
use Rattle.ix_rec.specs.declared.place.Place.TheVariants.{Item}
use Rattle.ix_device_read.specs.Views.{kind_word, field_word}

-- The fault is that this field of the struct with this number and index is out of its list. Want of
-- memory may be told at any time.
abbrev pub IsFieldAt : ℕ → ℕ → ℕ → Place → Type 0
IsFieldAt kind field index (Item k f i) = (k ≡ kind_word kind) × (f ≡ field_word kind field)
    × (i ≡ index)
IsFieldAt kind field index _ = ⊥

abbrev pub TellsField : ℕ → ℕ → ℕ → ReadFault → Type 0
TellsField kind field index Memory = Unit {0}
TellsField kind field index (Frame f) = ⊥
TellsField kind field index (Index p) = IsFieldAt kind field index p
