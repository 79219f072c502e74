-- From the walk over a whole netlist to what its reading tells.
use Rattle.std.proofs.Common.{◌≡◌, ◌∙◌, ℕ, List, [], length, replicate, Option, Result, Ok, Err}
use Rattle.std.proofs.Common.{refl, sym, ap, subst, arith}
use Rattle.ix_device_read.specs.Reading.{reading_in_segments, record_unless_bad, IsBadField}
use Rattle.ix_device_read.specs.Reading.{IsReading, Refuses, FileReads}
use Rattle.ix_frame.specs.Segments.{Segments}
use Rattle.ix_frame.specs.Target.{Object}
use Rattle.ix_message.specs.Indexes.{Item, only_table, steps, first_bad}
use Rattle.ix_message.specs.Message.{Unread, frame, out_of_list, unless_bad, numbers_in_segments}
use Rattle.ix_message.specs.Message.{reading}
use Rattle.ix_message.specs.Names.{Datum, record_of}
use Rattle.ix_message.specs.Phys.{phys_netlist}
use Rattle.ix_message.specs.Shape.{Text, Value}
use Rattle.ix_rec.specs.declared.fault.ReadFault.{ReadFault}
use Rattle.ix_rec.specs.declared.fault.ReadFault.TheVariants.{Frame, Index, Memory}
use Rattle.ix_rec.specs.declared.place.Place.{Place}
use Rattle.ix_rec.specs.declared.place.Place.TheVariants.{Item as Field}
use Rattle.ix_rec.specs.declared.phys.Phys.{Phys}
use Rattle.ix_phys_write.specs.Record.{phys_record}
use Rattle.ix_schema.specs.Said.{said}
use Rattle.ix_phys_read.specs.Again.{IsSame}
use Rattle.ix_phys_read.specs.Sound.{IsPassed}
use Rattle.ix_take.specs.Views.{kind_word, field_word}
use Rattle.ix_phys_read.specs.Views.{IsFieldAt, TellsField}
use Rattle.ix_take.specs.Walked.{walked}
use Rattle.ix_phys_read.specs.Walked.{counted_structs}
use Rattle.ix_phys_read.proofs.Counted.{root_kinds}
use Rattle.ix_phys_read.proofs.Rows.{root_said}
use Rattle.ix_take.specs.Walks.{AreOfKinds, FindsFirst, stopped}

-- what a message reads as, by its numbers
pub of_numbers : (all : Segments) (table : List Text) (v : Value ℕ phys_netlist)
    → numbers_in_segments phys_netlist all ≡ Ok (table, v)
    → reading_in_segments phys_netlist all ≡ record_unless_bad table phys_netlist v
of_numbers all table v is = rw is refl

-- the walk finds the first bad field of a netlist
pub finds_bad : FindsFirst → (o : Object) → IsPassed o → (table : List Text)
    → stopped (walked counted_structs (replicate 32 0)
    (steps phys_netlist (only_table (length table)) [] (said phys_netlist o))) ≡ first_bad
    phys_netlist (length table) (said phys_netlist o)
finds_bad finds o h table =
    let lists = only_table (length table) in
    let kinds : AreOfKinds counted_structs (steps phys_netlist lists [] (said phys_netlist o)) =
    subst (λ (v : Value ℕ phys_netlist). AreOfKinds counted_structs
    (steps phys_netlist lists [] v)) (sym (root_said o)) (root_kinds lists _ _ _ _ _) in
    let few = h.structs lists in
    finds counted_structs (steps phys_netlist lists [] (said phys_netlist o)) (omega arith) kinds
    (omega arith)

pub no_bad : (table : List Text) (v : Value ℕ phys_netlist) (now : List ℕ)
    (r : Result (List ℕ) Item) → stopped r ≡ first_bad phys_netlist (length table) v → r ≡ Ok now
    → record_unless_bad table phys_netlist v ≡ Ok (record_of table phys_netlist v)
no_bad table v now r first is = ap (λ (o : Option Item). unless_bad o
    (record_of table phys_netlist v)) (sym first ∙ ap stopped is)

bad_is : (table : List Text) (v : Value ℕ phys_netlist) (bad : Item) (r : Result (List ℕ) Item)
    → stopped r ≡ first_bad phys_netlist (length table) v → r ≡ Err bad
    → record_unless_bad table phys_netlist v ≡ Err (out_of_list bad)
bad_is table v bad r first is = ap (λ (o : Option Item). unless_bad o
    (record_of table phys_netlist v)) (sym first ∙ ap stopped is)

field_told : {Y : Type 0} (p : Place) (kind field i : ℕ) (whole : Result Y Unread)
    → IsFieldAt kind field i p → whole ≡ Err
    (out_of_list (record {
      kind = kind_word counted_structs kind;
      field =
          field_word counted_structs kind field;
      index = i;
    })) → IsBadField p whole
field_told (Field k f n) kind field i whole is at = rw (is.0, is.1, is.2) at
field_told _ kind field i whole is at = absurd is

pub bad_told : (e : ReadFault) (kind field i : ℕ) (table : List Text) (v : Value ℕ phys_netlist)
    (r : Result (List ℕ) Item) → TellsField kind field i e
    → stopped r ≡ first_bad phys_netlist (length table) v
    → r ≡ Err (record {
      kind = kind_word counted_structs kind;
      field =
          field_word counted_structs kind field;
      index = i;
    })
    → Refuses e (record_unless_bad table phys_netlist v)
bad_told Memory kind field i table v r tells first is = tt
bad_told (Frame f) kind field i table v r tells first is = absurd tells
bad_told (Index p) kind field i table v r tells first is =
    field_told p kind field i (record_unless_bad table phys_netlist v) tells
    (bad_is table v (record {
      kind = kind_word counted_structs kind;
      field =
          field_word counted_structs kind field;
      index = i;
    }) r first is)

-- A file's reading is that of its segments, where it can be cut into them.
pub file_reads : (bytes : List ℕ) → FileReads phys_netlist bytes
unfolding reading
file_reads bytes = record { cut = λ all is. rw is refl; uncut = λ fault is. rw is refl }

-- a reading of what reads as a netlist
pub same_again : (names now : List Text) (phys : Phys) (result : Result Phys ReadFault)
    (given : Result (Value Datum phys_netlist) Unread) → given ≡ Ok (phys_record names phys)
    → IsReading (phys_record now) result given → IsSame names phys now result
same_again names now phys (Ok found) given is h =
    let e : Ok (phys_record now found) ≡ given = sym h in
    ap (λ (r : Result (Value Datum phys_netlist) Unread). value_or (phys_record names phys) r)
    (e ∙ is)
  where
    value_or : Value Datum phys_netlist → Result (Value Datum phys_netlist) Unread
        → Value Datum phys_netlist
    value_or v (Ok x) = x
    value_or v (Err e) = v
same_again names now phys (Err Memory) given is h = tt
same_again names now phys (Err (Frame f)) given is h =
    let e : Err (frame f) ≡ Ok (phys_record names phys) = sym h ∙ is in absurd cc
same_again names now phys (Err (Index p)) given is h = not_bad p given is h
  where
    not_bad : (p : Place) (given : Result (Value Datum phys_netlist) Unread)
        → given ≡ Ok (phys_record names phys) → IsBadField p given → ⊥
    not_bad (Field k f i) given is h = let e : Err
        (out_of_list (record { kind = k; field = f; index = i })) ≡ Ok (phys_record names phys) =
        sym h ∙ is in absurd cc
    not_bad _ given is h = h
