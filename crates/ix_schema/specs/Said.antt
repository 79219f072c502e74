-- What the structs of a message say where its reading finds no fault, struct by struct and with no
-- budget: the numbers of a reading, a part at a time. A pointer that can't be followed counts as
-- zero, which no reading meets.
use Rattle.std.specs.Prelude.{ℕ, zero, suc, ◌+◌, List, [], ◌∷◌, Some, None, if◌then◌else◌}
use Rattle.ix_frame.specs.Objects.{has_pointer, element_of, numbers_in}
use Rattle.ix_frame.specs.Sound.{endless, found_or, sound_struct, sound_elements, sound_list}
use Rattle.ix_frame.specs.Sound.{sound_text, sound_text_in}
use Rattle.ix_frame.specs.Target.{Object, Elements}
use Rattle.ix_message.specs.Shape.{Text, Field, Struct, Pointers, Branches, Value, Parts, struct_of}
use Rattle.ix_message.specs.Shape.{no_more, text, texts, numbers, struct, struct_or_none, boxed}
use Rattle.ix_message.specs.Shape.{structs, branches, string_table, unread, ends}
use Rattle.ix_message.specs.Reading.{row_at, branches_from, table_slot, pointers_of}

-- n elements of a list from this one on
unfoldable pub each_said : {A : Type 0} → (Object → A) → ℕ → Elements → ℕ → List A
each_said say zero l i = []
each_said say (suc n) l i = say (element_of l i) ∷ each_said say n l (i + 1)

-- n texts of a list of texts from this one on
unfoldable pub texts_said : ℕ → Elements → ℕ → List Text
texts_said zero l i = []
texts_said (suc n) l i = sound_text_in l i ∷ texts_said n l (i + 1)

unfoldable pub branches_said : List Field → Elements → ℕ → Branches (List ℕ)
branches_said fields l budget = found_or ends
    (branches_from (budget + l.count + 1) fields l.count l 0 budget)

unfoldable mutual
  pub said : (s : Struct) → Object → Value ℕ s
  said (struct_of called fields ps) o = (row_at fields 0 o, parts_said ps 0 o)

  pub parts_said : (ps : Pointers) → ℕ → Object → Parts ℕ ps
  parts_said no_more slot o = tt
  parts_said (text called ps) slot o = (sound_text o slot, parts_said ps (slot + 1) o)
  parts_said (texts called ps) slot o = (
    texts_said (sound_list 6 o slot).count
        (sound_list 6 o slot) 0,
    parts_said ps (slot + 1) o,
  )
  parts_said (numbers called target kind ps) slot o
      = (numbers_in (sound_list 4 o slot), parts_said ps (slot + 1) o)
  parts_said (struct called s ps) slot o = (
    said s (sound_struct o slot),
    parts_said ps (slot + 1) o,
  )
  parts_said (struct_or_none called s ps) slot o = (
    if has_pointer o slot then Some (said s (sound_struct o slot)) else None,
    parts_said ps (slot + 1) o,
  )
  parts_said (boxed called kind inner s ps) slot o =
      let l = sound_elements (sound_struct o slot) 0
      in (each_said (said s) l.count l 0, parts_said ps (slot + 1) o)
  parts_said (structs called target s ps) slot o = (
    each_said (said s) (sound_elements o slot).count (sound_elements o slot) 0,
    parts_said ps (slot + 1) o,
  )
  parts_said (branches called kind fields ps) slot o =
      (branches_said fields (sound_elements o slot) endless, parts_said ps (slot + 1) o)
  parts_said (string_table called ps) slot o = parts_said ps (slot + 1) o
  parts_said (unread called ps) slot o = parts_said ps (slot + 1) o

-- the string table of a message, by its root
abbrev pub table_said : Struct → Object → List Text
table_said s root = let l = sound_list 6 root (table_slot (pointers_of s)) in texts_said l.count l 0
