-- What writing a message does to its segment, pointer by pointer and struct by struct.
use Rattle.std.specs.Prelude.{◌≡◌, ◌≤◌, ℕ, ◌+◌, ◌*◌, ◌/◌, ◌^◌, ◌⊎◌, List, [], ◌∷◌, length, false}
use Rattle.ix_message.specs.Layout.{Laid, Section, objects, all_fit}
use Rattle.ix_capw.specs.Growth.{written, with_object}

-- pointers one after another from this word on, each with its object
abbrev pub with_objects : (word : ℕ) → List Laid → List ℕ → List ℕ
with_objects word [] segment = segment
with_objects word (x ∷ xs) segment = with_objects (word + 1) xs (with_object word x segment)

-- a struct at this word
abbrev pub with_section : (word : ℕ) → Section → List ℕ → List ℕ
with_section word e segment =
    with_objects (word + length e.data_bytes / 8) e.behind
    (written (8 * word) (length e.data_bytes) e.data_bytes segment)

-- structs of so many words one after another from this word on
abbrev pub with_sections : (word size : ℕ) → List Section → List ℕ → List ℕ
with_sections word size [] segment = segment
with_sections word size (e ∷ es) segment
    = with_sections (word + size) size es (with_section word e segment)

-- the objects are too long for the segment
abbrev pub NoRoom : List Laid → List ℕ → Type 0
NoRoom xs segment = (2 ^ 30 ≤ length segment + length (objects xs)) ⊎ (all_fit xs ≡ false)
