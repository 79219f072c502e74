-- What the code's table of a message says of names: those of its structs and of their fields.
use Prim.Native.String.{String}
use Rattle.std.specs.Prelude.{ℕ, List, [], ◌∷◌, Bool, true, false, ◌&&◌, codes, map, slice_index_or}
use Rattle.ix_message.specs.Shape.{Text, Field, Struct, Pointers, struct_of, no_more, text, texts}
use Rattle.ix_message.specs.Shape.{numbers, struct, struct_or_none, boxed, structs, branches}
use Rattle.ix_message.specs.Shape.{string_table, unread}
use Rattle.ix_message.specs.Names.{same_text}
use Rattle.ix_schema.specs.declared.form.StructForm.{StructForm}

-- the names of a struct's fields: of its data fields, then of its pointers
abbrev pub pointer_names : Pointers → List String
pointer_names no_more = []
pointer_names (text c ps) = c ∷ pointer_names ps
pointer_names (texts c ps) = c ∷ pointer_names ps
pointer_names (numbers c target kind ps) = c ∷ pointer_names ps
pointer_names (struct c s ps) = c ∷ pointer_names ps
pointer_names (struct_or_none c s ps) = c ∷ pointer_names ps
pointer_names (boxed c kind inner s ps) = c ∷ pointer_names ps
pointer_names (structs c target s ps) = c ∷ pointer_names ps
pointer_names (branches c kind fields ps) = c ∷ pointer_names ps
pointer_names (string_table c ps) = c ∷ pointer_names ps
pointer_names (unread c ps) = c ∷ pointer_names ps

abbrev pub field_names : List Field → Pointers → List String
field_names [] ps = pointer_names ps
field_names (f ∷ fs) ps = f.called ∷ field_names fs ps

abbrev pub same_texts : List Text → List String → Bool
same_texts [] [] = true
same_texts (t ∷ ts) (s ∷ ss) = same_text t (codes s) && same_texts ts ss
same_texts _ _ = false

abbrev pub called_of : Struct → String
called_of (struct_of called fields ps) = called

abbrev pub names_of : Struct → List String
names_of (struct_of called fields ps) = field_names fields ps

-- the structs of the table are named as these are, and so are their fields
abbrev pub are_named : List StructForm → List Struct → Bool
are_named [] [] = true
are_named (f ∷ fs) (s ∷ ss) =
    (same_text f.name.now (codes (called_of s))
    && same_texts (map (λ t. t.now) f.fields.now) (names_of s)) && are_named fs ss
are_named _ _ = false

abbrev pub no_struct : Struct
no_struct = struct_of "" [] no_more

-- the name of the struct with this number, and that of one of its fields
abbrev pub kind_text : List Struct → ℕ → Text
kind_text ss n = codes (called_of (slice_index_or ss n no_struct))

abbrev pub field_text : List Struct → ℕ → ℕ → Text
field_text ss n field = codes (slice_index_or (names_of (slice_index_or ss n no_struct)) field "")
