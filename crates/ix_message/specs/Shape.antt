-- The form of a message: its structs, with their fields in order. A struct has numbers in its data
-- section, each in a slot of 32 bits, and objects behind the pointers of its pointer section, each
-- in a slot of its own.
use Prim.Native.String.{String}
use Rattle.std.specs.Prelude.{ℕ, ◌+◌, List, [], ◌∷◌, ◌++◌, Option}

-- a text is its bytes, each below 256
abbrev pub Text : Type 0
Text = List ℕ

-- The lists of a message into which indexes lead.
pub data Target : Type 0 where
  nowhere strings site_types tile_types wires bel_pins tile_wires cell_decls ports instances
      : Target

-- What a number stands for. A tag or an enumerant is the low 16 bits of its slot, a Bool the
-- lowest.
pub data Kind : Type 0 where
  -- itself, a Bool, or nothing: it isn't looked at, and written as 0
  number flag nothing : Kind
  -- a tag or an enumerant, of so many
  choice : ℕ → Kind
  -- a text of the string table, by its place
  name : Kind
  -- an entry of a list, by its place
  index : Target → Kind
  -- one of the site types of the tile's type
  site_of_tile : Kind
  -- the fields of a port instance: a port of the owner's declaration, whether one bit of a bus is
  -- meant, which bit, and an instance of the cell
  port_of_owner bus_tag bus_bit instance_of_cell : Kind
  -- the one kind where the struct's field in this slot is this number, else the other
  by_tag : ℕ → ℕ → Kind → Kind → Kind

-- A data field, by its name.
pub record Field : Type 0 where
  pub called : String
  pub kind : Kind

abbrev pub field : String → Kind → Field
field called kind = record { called = called; kind = kind }

-- A struct by its name, its data fields and its pointer fields, which are in slot order and have
-- names too.
mutual
  pub data Struct : Type 0 where
    struct_of : String → List Field → Pointers → Struct

  pub data Pointers : Type 0 where
    no_more : Pointers
    text : String → Pointers → Pointers
    texts : String → Pointers → Pointers
    -- numbers of one kind; a list that indexes lead into says so
    numbers : String → Target → Kind → Pointers → Pointers
    struct : String → Struct → Pointers → Pointers
    -- a struct that isn't there where the pointer is zero
    struct_or_none : String → Struct → Pointers → Pointers
    -- a struct (its name) with a list of structs (the field's name) and nothing else; without
    -- entries it is left out
    boxed : String → String → String → Struct → Pointers → Pointers
    structs : String → Target → Struct → Pointers → Pointers
    -- a list of structs (their name, their data fields) which have one pointer, to a list of the
    -- same
    branches : String → String → List Field → Pointers → Pointers
    -- the string table, and what is passed over
    string_table : String → Pointers → Pointers
    unread : String → Pointers → Pointers

-- Trees of any width: an item, those below it, and those beside it.
pub data Branches (A : Type 0) : Type 0 where
  ends : Branches A
  branch : A → Branches A → Branches A → Branches A

-- a tree as its preorder list, each item with its depth; a list of branches begins at depth 0
abbrev pub preorder : {A : Type 0} → ℕ → Branches A → List (ℕ × A)
preorder depth ends = []
preorder depth (branch x below beside) = (depth, x)
    ∷ (preorder (depth + 1) below ++ preorder depth beside)

-- The values of a struct: a row of what its data slots hold, and what its pointers lead to. The
-- string table has no value of its own, since N may be texts.
abbrev mutual
  pub Value : Type 0 → Struct → Type 0
  Value N (struct_of called fields ps) = List N × Parts N ps

  pub Parts : Type 0 → Pointers → Type 0
  Parts N no_more = Unit {0}
  Parts N (text called ps) = Text × Parts N ps
  Parts N (texts called ps) = List Text × Parts N ps
  Parts N (numbers called target kind ps) = List N × Parts N ps
  Parts N (struct called s ps) = Value N s × Parts N ps
  Parts N (struct_or_none called s ps) = Option (Value N s) × Parts N ps
  Parts N (boxed called kind inner s ps) = List (Value N s) × Parts N ps
  Parts N (structs called target s ps) = List (Value N s) × Parts N ps
  Parts N (branches called kind fields ps) = Branches (List N) × Parts N ps
  Parts N (string_table called ps) = Parts N ps
  Parts N (unread called ps) = Parts N ps
