-- The root of a netlist.
use Rattle.std.proofs.Common.{◌≡◌, ◌∙◌, List, ℕ, length, map, refl, ap, sym}
use Rattle.std.proofs.lemmas.List.{length-map}
use Rattle.ix_device_read.specs.Finish.{with_one_more}
use Rattle.ix_frame.specs.Sound.{sound_elements}
use Rattle.ix_frame.specs.Target.{Object, Elements}
use Rattle.ix_frame.specs.Views.{elements_of}
use Rattle.ix_message.specs.Indexes.{Lists}
use Rattle.ix_message.specs.Names.{Datum, record_of}
use Rattle.ix_message.specs.Netlist.{netlist}
use Rattle.ix_message.specs.Shape.{Struct, Text, Value}
use Rattle.ix_schema.specs.Said.{said}
use Rattle.ix_take.specs.Views.{table_of}
use Rattle.ix_take.specs.Walked.{walked}
use Rattle.ix_logic_read.specs.Asking.{entries_said, lists_in, root_asks}
use Rattle.ix_logic_read.specs.Structs.{netlist_structs}
use Rattle.ix_logic_read.specs.declared.context.NetlistContext.{NetlistContext}
use Rattle.ix_logic_read.proofs.Entries.{entries_length, said_length}
use Rattle.ix_logic_read.proofs.Rows.{list_said, root_lists, root_parts, root_walk}

-- the lists of the context are the root's
same_lists : (c : NetlistContext) (o : Object) → elements_of c.decls ≡ sound_elements o 4
    → elements_of c.ports ≡ sound_elements o 5 → elements_of c.insts ≡ sound_elements o 6
    → root_lists (length (table_of c.texts)) o ≡ lists_in c
unfolding lists_in
same_lists c o decls ports insts = rw (decls, ports, insts) refl

pub asks_on : (c : NetlistContext) (o : Object) (counts mid : List ℕ)
    → elements_of c.decls ≡ sound_elements o 4 → elements_of c.ports ≡ sound_elements o 5
    → elements_of c.insts ≡ sound_elements o 6 → with_one_more counts 7 ≡ mid
    → walked netlist_structs counts (root_asks c (said netlist o)) ≡ walked netlist_structs mid
    (root_parts (lists_in c) o)
asks_on c o counts mid decls ports insts is =
    root_walk (length (table_of c.texts)) o counts mid is
    ∙ ap (λ (l : Lists). walked netlist_structs mid (root_parts l o))
    (same_lists c o decls ports insts)

-- a list that was taken is as long as that of the frame
pub many_taken : (s : Struct) {X : Type 0} (to_record : X → Value Datum s) (table : List Text)
    (e : Elements) (found : List X) → map (record_of table s) (list_said s e) ≡ map to_record found
    → length (entries_said s e) ≡ length found
many_taken s to_record table e found is =
    entries_length s e ∙ sym (said_length (said s) e.count e 0)
    ∙ sym (length-map (list_said s e) (record_of table s)) ∙ ap length is
    ∙ length-map found to_record
