-- From the walk over a whole netlist to what its reading tells.
use Rattle.std.proofs.Common.{◌≡◌, ◌∙◌, ℕ, List, [], length, replicate, Option, Result, Ok, Err}
use Rattle.std.proofs.Common.{refl, sym, ap, arith}
use Rattle.ix_device_read.specs.Reading.{reading_in_segments, record_unless_bad, IsBadField}
use Rattle.ix_device_read.specs.Reading.{Refuses}
use Rattle.ix_frame.specs.Segments.{Segments}
use Rattle.ix_frame.specs.Target.{Object}
use Rattle.ix_message.specs.Indexes.{Item, only_table, steps, first_bad}
use Rattle.ix_message.specs.Message.{Unread, out_of_list, unless_bad, numbers_in_segments}
use Rattle.ix_message.specs.Names.{record_of}
use Rattle.ix_message.specs.Netlist.{netlist}
use Rattle.ix_message.specs.Shape.{Text, Value}
use Rattle.ix_rec.specs.declared.fault.ReadFault.{ReadFault}
use Rattle.ix_rec.specs.declared.fault.ReadFault.TheVariants.{Frame, Index, Memory}
use Rattle.ix_rec.specs.declared.place.Place.{Place}
use Rattle.ix_rec.specs.declared.place.Place.TheVariants.{Item as Field}
use Rattle.ix_schema.specs.Said.{said}
use Rattle.ix_take.specs.Views.{kind_word, field_word}
use Rattle.ix_logic_read.specs.Told.{IsFieldAt, TellsField}
use Rattle.ix_take.specs.Walked.{walked}
use Rattle.ix_logic_read.specs.Passed.{IsPassed}
use Rattle.ix_logic_read.specs.Structs.{netlist_structs}
use Rattle.ix_logic_read.proofs.Counted.{steps_kinds}
use Rattle.ix_take.specs.Walks.{AreOfKinds, FindsFirst, stopped}

-- what a message reads as, by its numbers
pub of_numbers : (all : Segments) (table : List Text) (v : Value ℕ netlist)
    → numbers_in_segments netlist all ≡ Ok (table, v)
    → reading_in_segments netlist all ≡ record_unless_bad table netlist v
of_numbers all table v is = rw is refl

-- the walk finds the first bad field of a netlist
pub finds_bad : FindsFirst → (o : Object) → IsPassed o → (table : List Text)
    → stopped (walked netlist_structs (replicate 32 0)
    (steps netlist (only_table (length table)) [] (said netlist o))) ≡ first_bad netlist
    (length table) (said netlist o)
finds_bad finds o h table =
    let lists = only_table (length table) in
    let kinds : AreOfKinds netlist_structs (steps netlist lists [] (said netlist o)) =
    steps_kinds netlist_structs netlist lists [] (said netlist o) refl in
    let few = h.structs lists [] in
    finds netlist_structs (steps netlist lists [] (said netlist o)) (omega arith) kinds
    (omega arith)

pub no_bad : (table : List Text) (v : Value ℕ netlist) (now : List ℕ) (r : Result (List ℕ) Item)
    → stopped r ≡ first_bad netlist (length table) v → r ≡ Ok now
    → record_unless_bad table netlist v ≡ Ok (record_of table netlist v)
no_bad table v now r first is = ap (λ (o : Option Item). unless_bad o (record_of table netlist v))
    (sym first ∙ ap stopped is)

bad_is : (table : List Text) (v : Value ℕ netlist) (bad : Item) (r : Result (List ℕ) Item)
    → stopped r ≡ first_bad netlist (length table) v → r ≡ Err bad
    → record_unless_bad table netlist v ≡ Err (out_of_list bad)
bad_is table v bad r first is = ap (λ (o : Option Item). unless_bad o (record_of table netlist v))
    (sym first ∙ ap stopped is)

field_told : {Y : Type 0} (p : Place) (kind field i : ℕ) (whole : Result Y Unread)
    → IsFieldAt kind field i p → whole ≡ Err
    (out_of_list (record {
      kind = kind_word netlist_structs kind;
      field =
          field_word netlist_structs kind field;
      index = i;
    })) → IsBadField p whole
field_told (Field k f n) kind field i whole is at = rw (is.0, is.1, is.2) at
field_told _ kind field i whole is at = absurd is

pub bad_told : (e : ReadFault) (kind field i : ℕ) (table : List Text) (v : Value ℕ netlist)
    (r : Result (List ℕ) Item) → TellsField kind field i e
    → stopped r ≡ first_bad netlist (length table) v
    → r ≡ Err (record {
      kind = kind_word netlist_structs kind;
      field =
          field_word netlist_structs kind field;
      index = i;
    })
    → Refuses e (record_unless_bad table netlist v)
bad_told Memory kind field i table v r tells first is = tt
bad_told (Frame f) kind field i table v r tells first is = absurd tells
bad_told (Index p) kind field i table v r tells first is =
    field_told p kind field i (record_unless_bad table netlist v) tells
    (bad_is table v (record {
      kind = kind_word netlist_structs kind;
      field =
          field_word netlist_structs kind field;
      index = i;
    }) r first is)
