-- How a number out of its list is told.
use Rattle.std.specs.Prelude.{◌≡◌, ℕ}
use Rattle.ix_rec.specs.declared.fault.ReadFault.{ReadFault}
use Rattle.ix_rec.specs.declared.fault.ReadFault.TheVariants.{Frame, Index, Memory as NoMemory}
use Rattle.ix_rec.specs.declared.place.Place.{Place}
use Rattle.ix_rec.specs.declared.place.Place.TheVariants.{Item as Field}
use Rattle.ix_take.specs.Views.{kind_word, field_word}
use Rattle.ix_logic_read.specs.Structs.{netlist_structs}

-- The fault is that this field of the struct of this kind and with this index is out of its list.
-- Want of memory may be told at any time.
abbrev pub IsFieldAt : ℕ → ℕ → ℕ → Place → Type 0
IsFieldAt kind field index (Field k f i) = (k ≡ kind_word netlist_structs kind)
    × (f ≡ field_word netlist_structs kind field) × (i ≡ index)
IsFieldAt kind field index _ = ⊥

abbrev pub TellsField : ℕ → ℕ → ℕ → ReadFault → Type 0
TellsField kind field index NoMemory = Unit {0}
TellsField kind field index (Frame f) = ⊥
TellsField kind field index (Index p) = IsFieldAt kind field index p
