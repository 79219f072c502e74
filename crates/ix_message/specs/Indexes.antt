-- The first index, tag, enumerant or string number of a message that is out of its list, in reading
-- order, and where it stands.
use Prim.Native.String.{String}
use Rattle.std.specs.Prelude.{ℕ, ◌+◌, ◌-◌, List, [], ◌∷◌, ◌++◌, length, map, Bool, true, false}
use Rattle.std.specs.Prelude.{◌&&◌, ◌||◌, nat_lt, ◌==◌, codes, Option, Some, None, if◌then◌else◌}
use Rattle.std.specs.Prelude.{slice_index, slice_index_or}
use Rattle.std.specs.List.{flat_map, list_any, count_by}
use Rattle.ix_message.specs.Shape.{Text, Target, Kind, Field, Struct, Pointers, Branches, Value}
use Rattle.ix_message.specs.Shape.{Parts, nowhere, strings, site_types, tile_types, wires, bel_pins}
use Rattle.ix_message.specs.Shape.{tile_wires, cell_decls, ports, instances, number, flag, nothing}
use Rattle.ix_message.specs.Shape.{choice, name, index, site_of_tile, port_of_owner, bus_tag}
use Rattle.ix_message.specs.Shape.{bus_bit, instance_of_cell, by_tag, struct_of, no_more, text}
use Rattle.ix_message.specs.Shape.{texts, numbers, struct, struct_or_none, boxed, structs, branches}
use Rattle.ix_message.specs.Shape.{string_table, unread, ends, branch}
use Rattle.ix_message.specs.Names.{same_text}

-- What an index may ask of a struct: its numbers, and of its pointers, in slot order, the numbers
-- of a list of numbers and the length of a list of structs.
pub record Entry : Type 0 where
  pub row : List ℕ
  pub lists : List (List ℕ)
  pub lengths : List ℕ

abbrev pub number_entry : ℕ → Entry
number_entry n = record { row = n ∷ []; lists = []; lengths = [] }

abbrev pub lists_of : (ps : Pointers) → Parts ℕ ps → List (List ℕ)
lists_of no_more v = []
lists_of (text c ps) v = [] ∷ lists_of ps v.1
lists_of (texts c ps) v = [] ∷ lists_of ps v.1
lists_of (numbers c target kind ps) v = v.0 ∷ lists_of ps v.1
lists_of (struct c s ps) v = [] ∷ lists_of ps v.1
lists_of (struct_or_none c s ps) v = [] ∷ lists_of ps v.1
lists_of (boxed c kind inner s ps) v = [] ∷ lists_of ps v.1
lists_of (structs c target s ps) v = [] ∷ lists_of ps v.1
lists_of (branches c kind fields ps) v = [] ∷ lists_of ps v.1
lists_of (string_table c ps) v = [] ∷ lists_of ps v
lists_of (unread c ps) v = [] ∷ lists_of ps v

abbrev pub lengths_of : (ps : Pointers) → Parts ℕ ps → List ℕ
lengths_of no_more v = []
lengths_of (text c ps) v = 0 ∷ lengths_of ps v.1
lengths_of (texts c ps) v = 0 ∷ lengths_of ps v.1
lengths_of (numbers c target kind ps) v = length v.0 ∷ lengths_of ps v.1
lengths_of (struct c s ps) v = 0 ∷ lengths_of ps v.1
lengths_of (struct_or_none c s ps) v = 0 ∷ lengths_of ps v.1
lengths_of (boxed c kind inner s ps) v = length v.0 ∷ lengths_of ps v.1
lengths_of (structs c target s ps) v = length v.0 ∷ lengths_of ps v.1
lengths_of (branches c kind fields ps) v = 0 ∷ lengths_of ps v.1
lengths_of (string_table c ps) v = 0 ∷ lengths_of ps v
lengths_of (unread c ps) v = 0 ∷ lengths_of ps v

abbrev pub entry_of : (s : Struct) → Value ℕ s → Entry
entry_of (struct_of c fields ps) v = record {
  row = v.0;
  lists = lists_of ps v.1;
  lengths = lengths_of ps v.1;
}

-- The lists that indexes lead into, by their entries.
pub record Lists : Type 0 where
  pub table : ℕ
  pub site_type_list : List Entry
  pub tile_type_list : List Entry
  pub wire_list : List Entry
  pub bel_pin_list : List Entry
  pub tile_wire_list : List Entry
  pub cell_decl_list : List Entry
  pub port_list : List Entry
  pub instance_list : List Entry

abbrev pub only_table : ℕ → Lists
only_table n = record {
  table = n;
  site_type_list = [];
  tile_type_list = [];
  wire_list = [];
  bel_pin_list = [];
  tile_wire_list = [];
  cell_decl_list = [];
  port_list = [];
  instance_list = [];
}

abbrev pub with_list : Target → List Entry → Lists → Lists
with_list site_types es l = record l { site_type_list = es }
with_list tile_types es l = record l { tile_type_list = es }
with_list wires es l = record l { wire_list = es }
with_list bel_pins es l = record l { bel_pin_list = es }
with_list tile_wires es l = record l { tile_wire_list = es }
with_list cell_decls es l = record l { cell_decl_list = es }
with_list ports es l = record l { port_list = es }
with_list instances es l = record l { instance_list = es }
with_list strings es l = l
with_list nowhere es l = l

abbrev pub entries : Lists → Target → List Entry
entries l site_types = l.site_type_list
entries l tile_types = l.tile_type_list
entries l wires = l.wire_list
entries l bel_pins = l.bel_pin_list
entries l tile_wires = l.tile_wire_list
entries l cell_decls = l.cell_decl_list
entries l ports = l.port_list
entries l instances = l.instance_list
entries l strings = []
entries l nowhere = []

-- the lists of a struct that indexes within it lead into
abbrev pub within : (ps : Pointers) → Parts ℕ ps → Lists → Lists
within no_more v l = l
within (text c ps) v l = within ps v.1 l
within (texts c ps) v l = within ps v.1 l
within (numbers c target kind ps) v l = within ps v.1 (with_list target (map number_entry v.0) l)
within (struct c s ps) v l = within ps v.1 l
within (struct_or_none c s ps) v l = within ps v.1 l
within (boxed c kind inner s ps) v l = within ps v.1 l
within (structs c target s ps) v l = within ps v.1 (with_list target (map (entry_of s) v.0) l)
within (branches c kind fields ps) v l = within ps v.1 l
within (string_table c ps) v l = within ps v l
within (unread c ps) v l = within ps v l

abbrev pub no_entry : Entry
no_entry = record { row = []; lists = []; lengths = [] }

abbrev pub entry_at : List Entry → ℕ → Entry
entry_at es i = slice_index_or es i no_entry

-- The i-th struct outwards, the struct itself being the 0-th.
abbrev pub outwards : List Entry → ℕ → Entry
outwards around i = slice_index_or around i no_entry

abbrev pub has_number : List ℕ → ℕ → Bool
has_number ns n = list_any (λ k. k == n) ns

-- A port instance's own row is port, bus tag, bit, owner tag, instance. It stands in a net, the net
-- in a cell, whose row begins with its declaration and whose first pointer lists its instances.

-- an instance that is in the list of instances is meant, or the cell itself
abbrev pub has_owner : Lists → List ℕ → Bool
has_owner l row = slice_index row 3 == 0
    || (slice_index row 3 == 1 && nat_lt (slice_index row 4) (length l.instance_list))

-- the declaration whose port is meant: the instance's, or that of the cell itself
abbrev pub owner_declaration : Lists → List Entry → List ℕ → ℕ
owner_declaration l around row =
    if slice_index row 3 == 0 then slice_index (outwards around 2).row 0
    else slice_index (entry_at l.instance_list (slice_index row 4)).row 1

abbrev pub ports_of_declaration : Lists → ℕ → List ℕ
ports_of_declaration l decl = slice_index_or (entry_at l.cell_decl_list decl).lists 0 []

-- a port's row is name, direction, kind tag, first and last bit; a bus has a bit for each number
-- from the one to the other, whichever is greater
abbrev pub bus_width : Lists → ℕ → ℕ
bus_width l p = let row = (entry_at l.port_list p).row
    in (slice_index row 3 - slice_index row 4) + (slice_index row 4 - slice_index row 3) + 1

-- Whether a number fits its list, in a struct with this row and these structs around it, itself the
-- first.
abbrev pub fits : Lists → List Entry → List ℕ → Kind → ℕ → Bool
fits l around row number n = true
fits l around row flag n = true
fits l around row nothing n = true
fits l around row (choice most) n = nat_lt n most
fits l around row name n = nat_lt n l.table
fits l around row (index target) n = nat_lt n (length (entries l target))
fits l around row site_of_tile n =
    nat_lt n (slice_index (entry_at l.tile_type_list
    (slice_index (outwards around 1).row 1)).lengths 0)
fits l around row port_of_owner n =
    nat_lt n (length l.port_list) && (if has_owner l row
    then has_number (ports_of_declaration l (owner_declaration l around row)) n else true)
fits l around row bus_tag n = nat_lt n 2
    && n == slice_index (entry_at l.port_list (slice_index row 0)).row 2
fits l around row bus_bit n = if slice_index row 1 == 1
    then nat_lt n (bus_width l (slice_index row 0)) else true
fits l around row instance_of_cell n =
    nat_lt n (length l.instance_list) && has_number (slice_index_or (outwards around 2).lists 0 [])
    n
fits l around row (by_tag slot value here there) n =
    if slice_index row slot == value then fits l around row here n else fits l around row there n

-- The steps of a reading: a struct of this name is begun, or a field of the last one of this name
-- is asked, which fits or doesn't.
pub data Step : Type 0 where
  begun : String → Step
  asked : String → String → Bool → Step

abbrev pub ask_row : Lists → List Entry → String → List ℕ → List Field → List ℕ → List Step
ask_row l around kind row (f ∷ fs) (n ∷ ns)
    = asked kind f.called (fits l around row f.kind n) ∷ ask_row l around kind row fs ns
ask_row l around kind row [] ns = []
ask_row l around kind row (f ∷ fs) [] = []

abbrev pub ask_all : Lists → List Entry → String → String → Kind → List ℕ → List Step
ask_all l around kind field k ns = map (λ n. asked kind field (fits l around [] k n)) ns

abbrev pub branch_steps : Lists → String → List Field → Branches (List ℕ) → List Step
branch_steps l kind fields ends = []
branch_steps l kind fields (branch row below beside) =
    (begun kind ∷ ask_row l [] kind row fields row) ++ branch_steps l kind fields below
    ++ branch_steps l kind fields beside

abbrev pub option_steps : {A : Type 0} → (A → List Step) → Option A → List Step
option_steps steps None = []
option_steps steps (Some x) = steps x

-- In a struct the data fields come first, then the pointers.
unfoldable mutual
  pub steps : (s : Struct) → Lists → List Entry → Value ℕ s → List Step
  steps (struct_of kind fields ps) l around v =
      let here = record { row = v.0; lists = lists_of ps v.1; lengths = lengths_of ps v.1 } ∷ around
      in
      (begun kind ∷ ask_row l here kind v.0 fields v.0)
      ++ part_steps ps kind (within ps v.1 l) here v.1

  pub part_steps : (ps : Pointers) → String → Lists → List Entry → Parts ℕ ps → List Step
  part_steps no_more kind l around v = []
  part_steps (text c ps) kind l around v = part_steps ps kind l around v.1
  part_steps (texts c ps) kind l around v = part_steps ps kind l around v.1
  part_steps (numbers c target k ps) kind l around v
      = ask_all l around kind c k v.0 ++ part_steps ps kind l around v.1
  part_steps (struct c s ps) kind l around v
      = steps s l around v.0 ++ part_steps ps kind l around v.1
  part_steps (struct_or_none c s ps) kind l around v
      = option_steps (steps s l around) v.0 ++ part_steps ps kind l around v.1
  part_steps (boxed c box inner s ps) kind l around v
      = flat_map (steps s l around) v.0 ++ part_steps ps kind l around v.1
  part_steps (structs c target s ps) kind l around v
      = flat_map (steps s l around) v.0 ++ part_steps ps kind l around v.1
  part_steps (branches c branch_kind fields ps) kind l around v
      = branch_steps l branch_kind fields v.0 ++ part_steps ps kind l around v.1
  part_steps (string_table c ps) kind l around v = part_steps ps kind l around v
  part_steps (unread c ps) kind l around v = part_steps ps kind l around v

-- A field of a message: the struct's name, the field's, and which struct of that name it is, in
-- reading order from 0.
pub record Item : Type 0 where
  pub kind : Text
  pub field : Text
  pub index : ℕ

abbrev pub begins : String → Step → Bool
begins kind (begun k) = same_text (codes k) (codes kind)
begins kind (asked k field fit) = false

-- the first field that doesn't fit, after these steps
unfoldable pub first_unfit : List Step → List Step → Option Item
first_unfit before [] = None
first_unfit before (begun kind ∷ rest) = first_unfit (before ++ begun kind ∷ []) rest
first_unfit before (asked kind field true ∷ rest) = first_unfit before rest
first_unfit before (asked kind field false ∷ rest) =
    Some (record {
      kind = codes kind;
      field = codes field;
      index = count_by (begins kind) before - 1;
    })

-- The first bad index of a message with a string table of this length.
abbrev pub first_bad : (s : Struct) → ℕ → Value ℕ s → Option Item
first_bad s table v = first_unfit [] (steps s (only_table table) [] v)
