-- Reading a message of any form from a frame: the first frame fault in reading order, or the
-- numbers as they stand.
use Rattle.std.specs.Prelude.{ℕ, zero, suc, ◌+◌, ◌%◌, ◌^◌, List, [], ◌∷◌, Option, Some, None}
use Rattle.std.specs.Prelude.{Result, Ok, if◌then◌else◌}
use Rattle.ix_num.specs.declared.fault.FrameFault.{FrameFault}
use Rattle.ix_frame.specs.Result.{◌>>=◌}
use Rattle.ix_frame.specs.Objects.{u32_in, text_at, struct_at, elements_at, list_at, has_pointer}
use Rattle.ix_frame.specs.Objects.{element_of, numbers_in, text_in}
use Rattle.ix_frame.specs.Target.{Object, Elements}
use Rattle.ix_message.specs.Shape.{Text, Kind, Field, Struct, Pointers, Branches, Value, Parts}
use Rattle.ix_message.specs.Shape.{flag, choice, bus_tag, struct_of, no_more, text, texts, numbers}
use Rattle.ix_message.specs.Shape.{struct, struct_or_none, boxed, structs, branches, string_table}
use Rattle.ix_message.specs.Shape.{unread, ends, branch}

abbrev pub Reads : Type 0 → Type 0
Reads A = Result (A × ℕ) FrameFault

-- a Bool is the lowest bit of its slot, a tag or an enumerant the low 16
abbrev pub number_of : Kind → ℕ → ℕ
number_of flag n = n % 2
number_of (choice most) n = n % 2 ^ 16
number_of bus_tag n = n % 2 ^ 16
number_of _ n = n

-- the numbers of a struct, from this slot on
unfoldable pub row_at : List Field → ℕ → Object → List ℕ
row_at [] slot o = []
row_at (f ∷ fs) slot o = number_of f.kind (u32_in o slot) ∷ row_at fs (slot + 1) o

-- n elements of a list from this one on, each read by the same reading
unfoldable pub each_from : {A : Type 0} → (Object → ℕ → Reads A) → ℕ → Elements → ℕ → ℕ
    → Reads (List A)
each_from read zero l i budget = Ok ([], budget)
each_from read (suc n) l i budget = do
  first ← read (element_of l i) budget
  others ← each_from read n l (i + 1) first.1
  Ok (first.0 ∷ others.0, others.1)

-- n texts of a list of texts
unfoldable pub texts_from : ℕ → Elements → ℕ → ℕ → Reads (List Text)
texts_from zero l i budget = Ok ([], budget)
texts_from (suc n) l i budget = do
  first ← text_in l i budget
  others ← texts_from n l (i + 1) first.1
  Ok (first.0 ∷ others.0, others.1)

unfoldable pub texts_at : Object → ℕ → ℕ → Reads (List Text)
texts_at o slot budget = do
  l ← list_at 6 o slot budget
  texts_from l.0.count l.0 0 l.1

-- n branches of a list, each with all that is below it before the next. Each branch costs
-- something, so that a bound above the budget at the list's own pointer isn't reached.
unfoldable pub branches_from : ℕ → List Field → ℕ → Elements → ℕ → ℕ → Reads (Branches (List ℕ))
branches_from bound fields zero l i budget = Ok (ends, budget)
branches_from zero fields (suc n) l i budget = Ok (ends, budget)
branches_from (suc bound) fields (suc n) l i budget = do
  inner ← elements_at (element_of l i) 0 budget
  below ← branches_from bound fields inner.0.count inner.0 0 inner.1
  beside ← branches_from bound fields n l (i + 1) below.1
  Ok (branch (row_at fields 0 (element_of l i)) below.0 beside.0, beside.1)

-- what was read is there
abbrev pub some_of : {A : Type 0} → Reads A → Reads (Option A)
some_of found = found >>= λ x. Ok (Some x.0, x.1)

-- A struct, and its pointers from this slot on: the content of each before the next pointer. The
-- string table isn't followed here, since it is read before all else.
unfoldable mutual
  pub value_at : (s : Struct) → Object → ℕ → Reads (Value ℕ s)
  value_at (struct_of called fields ps) o budget = do
    parts ← parts_at ps 0 o budget
    Ok ((row_at fields 0 o, parts.0), parts.1)

  pub parts_at : (ps : Pointers) → ℕ → Object → ℕ → Reads (Parts ℕ ps)
  parts_at no_more slot o budget = Ok (tt, budget)
  parts_at (text called ps) slot o budget = do
    here ← text_at o slot budget
    rest ← parts_at ps (slot + 1) o here.1
    Ok ((here.0, rest.0), rest.1)
  parts_at (texts called ps) slot o budget = do
    here ← texts_at o slot budget
    rest ← parts_at ps (slot + 1) o here.1
    Ok ((here.0, rest.0), rest.1)
  parts_at (numbers called target kind ps) slot o budget = do
    l ← list_at 4 o slot budget
    rest ← parts_at ps (slot + 1) o l.1
    Ok ((numbers_in l.0, rest.0), rest.1)
  parts_at (struct called s ps) slot o budget = do
    inner ← struct_at o slot budget
    here ← value_at s inner.0 inner.1
    rest ← parts_at ps (slot + 1) o here.1
    Ok ((here.0, rest.0), rest.1)
  parts_at (struct_or_none called s ps) slot o budget = do
    here ← if has_pointer o slot
        then some_of (struct_at o slot budget >>= λ inner. value_at s inner.0 inner.1)
        else Ok (None, budget)
    rest ← parts_at ps (slot + 1) o here.1
    Ok ((here.0, rest.0), rest.1)
  parts_at (boxed called kind inner s ps) slot o budget = do
    box ← struct_at o slot budget
    l ← elements_at box.0 0 box.1
    here ← each_from (value_at s) l.0.count l.0 0 l.1
    rest ← parts_at ps (slot + 1) o here.1
    Ok ((here.0, rest.0), rest.1)
  parts_at (structs called target s ps) slot o budget = do
    l ← elements_at o slot budget
    here ← each_from (value_at s) l.0.count l.0 0 l.1
    rest ← parts_at ps (slot + 1) o here.1
    Ok ((here.0, rest.0), rest.1)
  parts_at (branches called kind fields ps) slot o budget = do
    l ← elements_at o slot budget
    here ← branches_from (budget + 1) fields l.0.count l.0 0 l.1
    rest ← parts_at ps (slot + 1) o here.1
    Ok ((here.0, rest.0), rest.1)
  parts_at (string_table called ps) slot o budget = parts_at ps (slot + 1) o budget
  parts_at (unread called ps) slot o budget = parts_at ps (slot + 1) o budget

-- the slot of the string table among these pointers
abbrev pub table_slot : Pointers → ℕ
table_slot (string_table called ps) = 0
table_slot (text called ps) = suc (table_slot ps)
table_slot (texts called ps) = suc (table_slot ps)
table_slot (numbers called target kind ps) = suc (table_slot ps)
table_slot (struct called s ps) = suc (table_slot ps)
table_slot (struct_or_none called s ps) = suc (table_slot ps)
table_slot (boxed called kind inner s ps) = suc (table_slot ps)
table_slot (structs called target s ps) = suc (table_slot ps)
table_slot (branches called kind fields ps) = suc (table_slot ps)
table_slot (unread called ps) = suc (table_slot ps)
table_slot no_more = 0

abbrev pub pointers_of : Struct → Pointers
pointers_of (struct_of called fields ps) = ps

-- What a message says: its string table, which is read before all else, and its root struct.
unfoldable pub root_at : (s : Struct) → Object → ℕ → Reads (List Text × Value ℕ s)
root_at s o budget = do
  table ← texts_at o (table_slot (pointers_of s)) budget
  value ← value_at s o table.1
  Ok ((table.0, value.0), value.1)
