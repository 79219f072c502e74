use Rattle.std.proofs.Common.{◌≡◌, ◌≤◌, ◌+◌, ◌*◌, ℕ, [], ◌∷◌, length, map, ap, arith, sym, subst, refl, Err}
use Rattle.ix_message.specs.Names.{numbered, parts_numbered, place_in}
use Rattle.ix_message.specs.Layout.{Laid, section_of, all_laid, structs_laid, text_laid, texts_laid}
use Rattle.ix_message.specs.Phys.{cell_placement, phys_net, site_instance, property, phys_netlist}
use Rattle.ix_capw.specs.Growth.{written, pointer_word}
use Rattle.ix_message_write.specs.Table.{table_in, name_text}
use Rattle.ix_message_write.specs.Says.{Puts, HasPut}
use Rattle.ix_message_write.proofs.Steps.{put_none, put_then, refused_first, refused_then, put_long, struct_written, struct_refused}
use Rattle.ix_phys_write.specs.Record.{placement_record, site_instance_record, property_record, net_record}
use Rattle.std.proofs.lemmas.Option.{get_or_from_slice_get}
use Rattle.ix_phys_write.specs.Record.{phys_record}
use Rattle.ix_phys_write.proofs.Row.{no_row}
use Rattle.ix_phys_write.proofs.netlist.NetlistStructWriter.write.Goals as goal

pub returns-in-Err : goal.returns-in-Err
unfolding section_of all_laid numbered parts_numbered
returns-in-Err c =
    let names = c.args.names.now in
    let table = table_in names c.args.strings.now in
    let place = λ (id : ℕ). place_in table (name_text names id) in
    let S = c.args.builder.now in
    let p = c.args.at.start in
    let n = c.args.item.now in
    let e = section_of table phys_netlist (numbered (place_in table) phys_netlist (phys_record names n)) in
    let part = text_laid (name_text names n.part) in
    let strings = texts_laid table in
    let placements = structs_laid (map (section_of table cell_placement) (map (numbered (place_in table) cell_placement) (map (placement_record names) n.placements))) in
    let nets = structs_laid (map (section_of table phys_net) (map (numbered (place_in table) phys_net) (map (net_record names) n.nets))) in
    let site_insts = structs_laid (map (section_of table site_instance) (map (numbered (place_in table) site_instance) (map (site_instance_record names) n.site_insts))) in
    let properties = structs_laid (map (section_of table property) (map (numbered (place_in table) property) (map (property_record names) n.properties))) in
    let made : S ≡ written (8 * p) 0 [] S = no_row (8 * p) S in
    let row_long : length S ≡ length S = refl in
    let text_is : text_laid c.name.result.now ≡ part = ap text_laid (sym (get_or_from_slice_get names n.part c.name.result.now [] c.name.ensures.text)) in
    struct_refused p 0 e S S c.write_text.new.builder c.in-Err.fault refl (omega (arith, c.requires.inside, c.requires.words)) made (refused_first (pointer_word c.args.at 0) part (strings ∷ (placements ∷ (nets ∷ (site_insts ∷ (properties ∷ []))))) S c.write_text.new.builder c.in-Err.fault (subst (λ (x : Laid). Puts {X = Unit {0}} (pointer_word c.args.at 0) x S c.write_text.new.builder (Err c.in-Err.fault)) text_is c.in-Err.ensures))

pub returns-in-Err-write_strings : goal.returns-in-Err-write_strings
unfolding section_of all_laid numbered parts_numbered
returns-in-Err-write_strings c =
    let names = c.args.names.now in
    let table = table_in names c.args.strings.now in
    let place = λ (id : ℕ). place_in table (name_text names id) in
    let S = c.args.builder.now in
    let p = c.args.at.start in
    let n = c.args.item.now in
    let e = section_of table phys_netlist (numbered (place_in table) phys_netlist (phys_record names n)) in
    let part = text_laid (name_text names n.part) in
    let strings = texts_laid table in
    let placements = structs_laid (map (section_of table cell_placement) (map (numbered (place_in table) cell_placement) (map (placement_record names) n.placements))) in
    let nets = structs_laid (map (section_of table phys_net) (map (numbered (place_in table) phys_net) (map (net_record names) n.nets))) in
    let site_insts = structs_laid (map (section_of table site_instance) (map (numbered (place_in table) site_instance) (map (site_instance_record names) n.site_insts))) in
    let properties = structs_laid (map (section_of table property) (map (numbered (place_in table) property) (map (property_record names) n.properties))) in
    let made : S ≡ written (8 * p) 0 [] S = no_row (8 * p) S in
    let row_long : length S ≡ length S = refl in
    let text_is : text_laid c.name.result.now ≡ part = ap text_laid (sym (get_or_from_slice_get names n.part c.name.result.now [] c.name.ensures.text)) in
    let word0 : pointer_word c.args.at 0 ≡ (p + 0) = omega (arith, c.requires.words) in
    let put0 : HasPut (p + 0) part S c.write_text.new.builder = subst (λ (k : ℕ). HasPut k part S c.write_text.new.builder) word0 (subst (λ (x : Laid). HasPut (pointer_word c.args.at 0) x S c.write_text.new.builder) text_is c.in-Ok.ensures) in
    let in0 : 8 * ((p + 0) + 1) ≤ length S = omega (arith, c.requires.inside, c.requires.words, c.requires.pointers, row_long) in
    let long0 = put_long (p + 0) part S c.write_text.new.builder in0 put0 in
    struct_refused p 0 e S S c.write_strings.new.builder c.in-Err-write_strings.fault refl (omega (arith, c.requires.inside, c.requires.words)) made (refused_then (p + 0) part (strings ∷ (placements ∷ (nets ∷ (site_insts ∷ (properties ∷ []))))) S c.write_text.new.builder c.in-Err-write_strings.fault in0 put0 (refused_first (pointer_word c.args.at 1) strings (placements ∷ (nets ∷ (site_insts ∷ (properties ∷ [])))) c.write_text.new.builder c.write_strings.new.builder c.in-Err-write_strings.fault c.in-Err-write_strings.ensures))

pub returns-in-Err-write_list : goal.returns-in-Err-write_list
unfolding section_of all_laid numbered parts_numbered
returns-in-Err-write_list c =
    let names = c.args.names.now in
    let table = table_in names c.args.strings.now in
    let place = λ (id : ℕ). place_in table (name_text names id) in
    let S = c.args.builder.now in
    let p = c.args.at.start in
    let n = c.args.item.now in
    let e = section_of table phys_netlist (numbered (place_in table) phys_netlist (phys_record names n)) in
    let part = text_laid (name_text names n.part) in
    let strings = texts_laid table in
    let placements = structs_laid (map (section_of table cell_placement) (map (numbered (place_in table) cell_placement) (map (placement_record names) n.placements))) in
    let nets = structs_laid (map (section_of table phys_net) (map (numbered (place_in table) phys_net) (map (net_record names) n.nets))) in
    let site_insts = structs_laid (map (section_of table site_instance) (map (numbered (place_in table) site_instance) (map (site_instance_record names) n.site_insts))) in
    let properties = structs_laid (map (section_of table property) (map (numbered (place_in table) property) (map (property_record names) n.properties))) in
    let made : S ≡ written (8 * p) 0 [] S = no_row (8 * p) S in
    let row_long : length S ≡ length S = refl in
    let text_is : text_laid c.name.result.now ≡ part = ap text_laid (sym (get_or_from_slice_get names n.part c.name.result.now [] c.name.ensures.text)) in
    let word0 : pointer_word c.args.at 0 ≡ (p + 0) = omega (arith, c.requires.words) in
    let put0 : HasPut (p + 0) part S c.write_text.new.builder = subst (λ (k : ℕ). HasPut k part S c.write_text.new.builder) word0 (subst (λ (x : Laid). HasPut (pointer_word c.args.at 0) x S c.write_text.new.builder) text_is c.in-Ok.ensures) in
    let in0 : 8 * ((p + 0) + 1) ≤ length S = omega (arith, c.requires.inside, c.requires.words, c.requires.pointers, row_long) in
    let long0 = put_long (p + 0) part S c.write_text.new.builder in0 put0 in
    let word1 : pointer_word c.args.at 1 ≡ (p + 0 + 1) = omega (arith, c.requires.words) in
    let put1 : HasPut (p + 0 + 1) strings c.write_text.new.builder c.write_strings.new.builder = subst (λ (k : ℕ). HasPut k strings c.write_text.new.builder c.write_strings.new.builder) word1 c.in-Ok-write_strings.ensures in
    let in1 : 8 * ((p + 0 + 1) + 1) ≤ length c.write_text.new.builder = omega (arith, c.requires.inside, c.requires.words, c.requires.pointers, row_long, long0) in
    let long1 = put_long (p + 0 + 1) strings c.write_text.new.builder c.write_strings.new.builder in1 put1 in
    struct_refused p 0 e S S c.write_list.new.builder c.in-Err-write_list.fault refl (omega (arith, c.requires.inside, c.requires.words)) made (refused_then (p + 0) part (strings ∷ (placements ∷ (nets ∷ (site_insts ∷ (properties ∷ []))))) S c.write_text.new.builder c.in-Err-write_list.fault in0 put0 (refused_then (p + 0 + 1) strings (placements ∷ (nets ∷ (site_insts ∷ (properties ∷ [])))) c.write_text.new.builder c.write_strings.new.builder c.in-Err-write_list.fault in1 put1 (refused_first (pointer_word c.args.at 2) placements (nets ∷ (site_insts ∷ (properties ∷ []))) c.write_strings.new.builder c.write_list.new.builder c.in-Err-write_list.fault c.in-Err-write_list.ensures)))

pub returns-in-Err-write_list-2 : goal.returns-in-Err-write_list-2
unfolding section_of all_laid numbered parts_numbered
returns-in-Err-write_list-2 c =
    let names = c.args.names.now in
    let table = table_in names c.args.strings.now in
    let place = λ (id : ℕ). place_in table (name_text names id) in
    let S = c.args.builder.now in
    let p = c.args.at.start in
    let n = c.args.item.now in
    let e = section_of table phys_netlist (numbered (place_in table) phys_netlist (phys_record names n)) in
    let part = text_laid (name_text names n.part) in
    let strings = texts_laid table in
    let placements = structs_laid (map (section_of table cell_placement) (map (numbered (place_in table) cell_placement) (map (placement_record names) n.placements))) in
    let nets = structs_laid (map (section_of table phys_net) (map (numbered (place_in table) phys_net) (map (net_record names) n.nets))) in
    let site_insts = structs_laid (map (section_of table site_instance) (map (numbered (place_in table) site_instance) (map (site_instance_record names) n.site_insts))) in
    let properties = structs_laid (map (section_of table property) (map (numbered (place_in table) property) (map (property_record names) n.properties))) in
    let made : S ≡ written (8 * p) 0 [] S = no_row (8 * p) S in
    let row_long : length S ≡ length S = refl in
    let text_is : text_laid c.name.result.now ≡ part = ap text_laid (sym (get_or_from_slice_get names n.part c.name.result.now [] c.name.ensures.text)) in
    let word0 : pointer_word c.args.at 0 ≡ (p + 0) = omega (arith, c.requires.words) in
    let put0 : HasPut (p + 0) part S c.write_text.new.builder = subst (λ (k : ℕ). HasPut k part S c.write_text.new.builder) word0 (subst (λ (x : Laid). HasPut (pointer_word c.args.at 0) x S c.write_text.new.builder) text_is c.in-Ok.ensures) in
    let in0 : 8 * ((p + 0) + 1) ≤ length S = omega (arith, c.requires.inside, c.requires.words, c.requires.pointers, row_long) in
    let long0 = put_long (p + 0) part S c.write_text.new.builder in0 put0 in
    let word1 : pointer_word c.args.at 1 ≡ (p + 0 + 1) = omega (arith, c.requires.words) in
    let put1 : HasPut (p + 0 + 1) strings c.write_text.new.builder c.write_strings.new.builder = subst (λ (k : ℕ). HasPut k strings c.write_text.new.builder c.write_strings.new.builder) word1 c.in-Ok-write_strings.ensures in
    let in1 : 8 * ((p + 0 + 1) + 1) ≤ length c.write_text.new.builder = omega (arith, c.requires.inside, c.requires.words, c.requires.pointers, row_long, long0) in
    let long1 = put_long (p + 0 + 1) strings c.write_text.new.builder c.write_strings.new.builder in1 put1 in
    let word2 : pointer_word c.args.at 2 ≡ (p + 0 + 1 + 1) = omega (arith, c.requires.words) in
    let put2 : HasPut (p + 0 + 1 + 1) placements c.write_strings.new.builder c.write_list.new.builder = subst (λ (k : ℕ). HasPut k placements c.write_strings.new.builder c.write_list.new.builder) word2 c.in-Ok-write_list.ensures in
    let in2 : 8 * ((p + 0 + 1 + 1) + 1) ≤ length c.write_strings.new.builder = omega (arith, c.requires.inside, c.requires.words, c.requires.pointers, row_long, long0, long1) in
    let long2 = put_long (p + 0 + 1 + 1) placements c.write_strings.new.builder c.write_list.new.builder in2 put2 in
    struct_refused p 0 e S S c.write_list-2.new.builder c.in-Err-write_list-2.fault refl (omega (arith, c.requires.inside, c.requires.words)) made (refused_then (p + 0) part (strings ∷ (placements ∷ (nets ∷ (site_insts ∷ (properties ∷ []))))) S c.write_text.new.builder c.in-Err-write_list-2.fault in0 put0 (refused_then (p + 0 + 1) strings (placements ∷ (nets ∷ (site_insts ∷ (properties ∷ [])))) c.write_text.new.builder c.write_strings.new.builder c.in-Err-write_list-2.fault in1 put1 (refused_then (p + 0 + 1 + 1) placements (nets ∷ (site_insts ∷ (properties ∷ []))) c.write_strings.new.builder c.write_list.new.builder c.in-Err-write_list-2.fault in2 put2 (refused_first (pointer_word c.args.at 3) nets (site_insts ∷ (properties ∷ [])) c.write_list.new.builder c.write_list-2.new.builder c.in-Err-write_list-2.fault c.in-Err-write_list-2.ensures))))

pub returns-in-Err-write_list-3 : goal.returns-in-Err-write_list-3
unfolding section_of all_laid numbered parts_numbered
returns-in-Err-write_list-3 c =
    let names = c.args.names.now in
    let table = table_in names c.args.strings.now in
    let place = λ (id : ℕ). place_in table (name_text names id) in
    let S = c.args.builder.now in
    let p = c.args.at.start in
    let n = c.args.item.now in
    let e = section_of table phys_netlist (numbered (place_in table) phys_netlist (phys_record names n)) in
    let part = text_laid (name_text names n.part) in
    let strings = texts_laid table in
    let placements = structs_laid (map (section_of table cell_placement) (map (numbered (place_in table) cell_placement) (map (placement_record names) n.placements))) in
    let nets = structs_laid (map (section_of table phys_net) (map (numbered (place_in table) phys_net) (map (net_record names) n.nets))) in
    let site_insts = structs_laid (map (section_of table site_instance) (map (numbered (place_in table) site_instance) (map (site_instance_record names) n.site_insts))) in
    let properties = structs_laid (map (section_of table property) (map (numbered (place_in table) property) (map (property_record names) n.properties))) in
    let made : S ≡ written (8 * p) 0 [] S = no_row (8 * p) S in
    let row_long : length S ≡ length S = refl in
    let text_is : text_laid c.name.result.now ≡ part = ap text_laid (sym (get_or_from_slice_get names n.part c.name.result.now [] c.name.ensures.text)) in
    let word0 : pointer_word c.args.at 0 ≡ (p + 0) = omega (arith, c.requires.words) in
    let put0 : HasPut (p + 0) part S c.write_text.new.builder = subst (λ (k : ℕ). HasPut k part S c.write_text.new.builder) word0 (subst (λ (x : Laid). HasPut (pointer_word c.args.at 0) x S c.write_text.new.builder) text_is c.in-Ok.ensures) in
    let in0 : 8 * ((p + 0) + 1) ≤ length S = omega (arith, c.requires.inside, c.requires.words, c.requires.pointers, row_long) in
    let long0 = put_long (p + 0) part S c.write_text.new.builder in0 put0 in
    let word1 : pointer_word c.args.at 1 ≡ (p + 0 + 1) = omega (arith, c.requires.words) in
    let put1 : HasPut (p + 0 + 1) strings c.write_text.new.builder c.write_strings.new.builder = subst (λ (k : ℕ). HasPut k strings c.write_text.new.builder c.write_strings.new.builder) word1 c.in-Ok-write_strings.ensures in
    let in1 : 8 * ((p + 0 + 1) + 1) ≤ length c.write_text.new.builder = omega (arith, c.requires.inside, c.requires.words, c.requires.pointers, row_long, long0) in
    let long1 = put_long (p + 0 + 1) strings c.write_text.new.builder c.write_strings.new.builder in1 put1 in
    let word2 : pointer_word c.args.at 2 ≡ (p + 0 + 1 + 1) = omega (arith, c.requires.words) in
    let put2 : HasPut (p + 0 + 1 + 1) placements c.write_strings.new.builder c.write_list.new.builder = subst (λ (k : ℕ). HasPut k placements c.write_strings.new.builder c.write_list.new.builder) word2 c.in-Ok-write_list.ensures in
    let in2 : 8 * ((p + 0 + 1 + 1) + 1) ≤ length c.write_strings.new.builder = omega (arith, c.requires.inside, c.requires.words, c.requires.pointers, row_long, long0, long1) in
    let long2 = put_long (p + 0 + 1 + 1) placements c.write_strings.new.builder c.write_list.new.builder in2 put2 in
    let word3 : pointer_word c.args.at 3 ≡ (p + 0 + 1 + 1 + 1) = omega (arith, c.requires.words) in
    let put3 : HasPut (p + 0 + 1 + 1 + 1) nets c.write_list.new.builder c.write_list-2.new.builder = subst (λ (k : ℕ). HasPut k nets c.write_list.new.builder c.write_list-2.new.builder) word3 c.in-Ok-write_list-2.ensures in
    let in3 : 8 * ((p + 0 + 1 + 1 + 1) + 1) ≤ length c.write_list.new.builder = omega (arith, c.requires.inside, c.requires.words, c.requires.pointers, row_long, long0, long1, long2) in
    let long3 = put_long (p + 0 + 1 + 1 + 1) nets c.write_list.new.builder c.write_list-2.new.builder in3 put3 in
    struct_refused p 0 e S S c.write_list-3.new.builder c.in-Err-write_list-3.fault refl (omega (arith, c.requires.inside, c.requires.words)) made (refused_then (p + 0) part (strings ∷ (placements ∷ (nets ∷ (site_insts ∷ (properties ∷ []))))) S c.write_text.new.builder c.in-Err-write_list-3.fault in0 put0 (refused_then (p + 0 + 1) strings (placements ∷ (nets ∷ (site_insts ∷ (properties ∷ [])))) c.write_text.new.builder c.write_strings.new.builder c.in-Err-write_list-3.fault in1 put1 (refused_then (p + 0 + 1 + 1) placements (nets ∷ (site_insts ∷ (properties ∷ []))) c.write_strings.new.builder c.write_list.new.builder c.in-Err-write_list-3.fault in2 put2 (refused_then (p + 0 + 1 + 1 + 1) nets (site_insts ∷ (properties ∷ [])) c.write_list.new.builder c.write_list-2.new.builder c.in-Err-write_list-3.fault in3 put3 (refused_first (pointer_word c.args.at 4) site_insts (properties ∷ []) c.write_list-2.new.builder c.write_list-3.new.builder c.in-Err-write_list-3.fault c.in-Err-write_list-3.ensures)))))

pub returns-in-Err-write_list-4 : goal.returns-in-Err-write_list-4
unfolding section_of all_laid numbered parts_numbered
returns-in-Err-write_list-4 c =
    let names = c.args.names.now in
    let table = table_in names c.args.strings.now in
    let place = λ (id : ℕ). place_in table (name_text names id) in
    let S = c.args.builder.now in
    let p = c.args.at.start in
    let n = c.args.item.now in
    let e = section_of table phys_netlist (numbered (place_in table) phys_netlist (phys_record names n)) in
    let part = text_laid (name_text names n.part) in
    let strings = texts_laid table in
    let placements = structs_laid (map (section_of table cell_placement) (map (numbered (place_in table) cell_placement) (map (placement_record names) n.placements))) in
    let nets = structs_laid (map (section_of table phys_net) (map (numbered (place_in table) phys_net) (map (net_record names) n.nets))) in
    let site_insts = structs_laid (map (section_of table site_instance) (map (numbered (place_in table) site_instance) (map (site_instance_record names) n.site_insts))) in
    let properties = structs_laid (map (section_of table property) (map (numbered (place_in table) property) (map (property_record names) n.properties))) in
    let made : S ≡ written (8 * p) 0 [] S = no_row (8 * p) S in
    let row_long : length S ≡ length S = refl in
    let text_is : text_laid c.name.result.now ≡ part = ap text_laid (sym (get_or_from_slice_get names n.part c.name.result.now [] c.name.ensures.text)) in
    let word0 : pointer_word c.args.at 0 ≡ (p + 0) = omega (arith, c.requires.words) in
    let put0 : HasPut (p + 0) part S c.write_text.new.builder = subst (λ (k : ℕ). HasPut k part S c.write_text.new.builder) word0 (subst (λ (x : Laid). HasPut (pointer_word c.args.at 0) x S c.write_text.new.builder) text_is c.in-Ok.ensures) in
    let in0 : 8 * ((p + 0) + 1) ≤ length S = omega (arith, c.requires.inside, c.requires.words, c.requires.pointers, row_long) in
    let long0 = put_long (p + 0) part S c.write_text.new.builder in0 put0 in
    let word1 : pointer_word c.args.at 1 ≡ (p + 0 + 1) = omega (arith, c.requires.words) in
    let put1 : HasPut (p + 0 + 1) strings c.write_text.new.builder c.write_strings.new.builder = subst (λ (k : ℕ). HasPut k strings c.write_text.new.builder c.write_strings.new.builder) word1 c.in-Ok-write_strings.ensures in
    let in1 : 8 * ((p + 0 + 1) + 1) ≤ length c.write_text.new.builder = omega (arith, c.requires.inside, c.requires.words, c.requires.pointers, row_long, long0) in
    let long1 = put_long (p + 0 + 1) strings c.write_text.new.builder c.write_strings.new.builder in1 put1 in
    let word2 : pointer_word c.args.at 2 ≡ (p + 0 + 1 + 1) = omega (arith, c.requires.words) in
    let put2 : HasPut (p + 0 + 1 + 1) placements c.write_strings.new.builder c.write_list.new.builder = subst (λ (k : ℕ). HasPut k placements c.write_strings.new.builder c.write_list.new.builder) word2 c.in-Ok-write_list.ensures in
    let in2 : 8 * ((p + 0 + 1 + 1) + 1) ≤ length c.write_strings.new.builder = omega (arith, c.requires.inside, c.requires.words, c.requires.pointers, row_long, long0, long1) in
    let long2 = put_long (p + 0 + 1 + 1) placements c.write_strings.new.builder c.write_list.new.builder in2 put2 in
    let word3 : pointer_word c.args.at 3 ≡ (p + 0 + 1 + 1 + 1) = omega (arith, c.requires.words) in
    let put3 : HasPut (p + 0 + 1 + 1 + 1) nets c.write_list.new.builder c.write_list-2.new.builder = subst (λ (k : ℕ). HasPut k nets c.write_list.new.builder c.write_list-2.new.builder) word3 c.in-Ok-write_list-2.ensures in
    let in3 : 8 * ((p + 0 + 1 + 1 + 1) + 1) ≤ length c.write_list.new.builder = omega (arith, c.requires.inside, c.requires.words, c.requires.pointers, row_long, long0, long1, long2) in
    let long3 = put_long (p + 0 + 1 + 1 + 1) nets c.write_list.new.builder c.write_list-2.new.builder in3 put3 in
    let word4 : pointer_word c.args.at 4 ≡ (p + 0 + 1 + 1 + 1 + 1) = omega (arith, c.requires.words) in
    let put4 : HasPut (p + 0 + 1 + 1 + 1 + 1) site_insts c.write_list-2.new.builder c.write_list-3.new.builder = subst (λ (k : ℕ). HasPut k site_insts c.write_list-2.new.builder c.write_list-3.new.builder) word4 c.in-Ok-write_list-3.ensures in
    let in4 : 8 * ((p + 0 + 1 + 1 + 1 + 1) + 1) ≤ length c.write_list-2.new.builder = omega (arith, c.requires.inside, c.requires.words, c.requires.pointers, row_long, long0, long1, long2, long3) in
    let long4 = put_long (p + 0 + 1 + 1 + 1 + 1) site_insts c.write_list-2.new.builder c.write_list-3.new.builder in4 put4 in
    struct_refused p 0 e S S c.write_list-4.new.builder c.in-Err-write_list-4.fault refl (omega (arith, c.requires.inside, c.requires.words)) made (refused_then (p + 0) part (strings ∷ (placements ∷ (nets ∷ (site_insts ∷ (properties ∷ []))))) S c.write_text.new.builder c.in-Err-write_list-4.fault in0 put0 (refused_then (p + 0 + 1) strings (placements ∷ (nets ∷ (site_insts ∷ (properties ∷ [])))) c.write_text.new.builder c.write_strings.new.builder c.in-Err-write_list-4.fault in1 put1 (refused_then (p + 0 + 1 + 1) placements (nets ∷ (site_insts ∷ (properties ∷ []))) c.write_strings.new.builder c.write_list.new.builder c.in-Err-write_list-4.fault in2 put2 (refused_then (p + 0 + 1 + 1 + 1) nets (site_insts ∷ (properties ∷ [])) c.write_list.new.builder c.write_list-2.new.builder c.in-Err-write_list-4.fault in3 put3 (refused_then (p + 0 + 1 + 1 + 1 + 1) site_insts (properties ∷ []) c.write_list-2.new.builder c.write_list-3.new.builder c.in-Err-write_list-4.fault in4 put4 (refused_first (pointer_word c.args.at 5) properties [] c.write_list-3.new.builder c.write_list-4.new.builder c.in-Err-write_list-4.fault c.in-Err-write_list-4.ensures))))))

pub returns-in-Ok-write_list-4 : goal.returns-in-Ok-write_list-4
unfolding section_of all_laid numbered parts_numbered
returns-in-Ok-write_list-4 c =
    let names = c.args.names.now in
    let table = table_in names c.args.strings.now in
    let place = λ (id : ℕ). place_in table (name_text names id) in
    let S = c.args.builder.now in
    let p = c.args.at.start in
    let n = c.args.item.now in
    let e = section_of table phys_netlist (numbered (place_in table) phys_netlist (phys_record names n)) in
    let part = text_laid (name_text names n.part) in
    let strings = texts_laid table in
    let placements = structs_laid (map (section_of table cell_placement) (map (numbered (place_in table) cell_placement) (map (placement_record names) n.placements))) in
    let nets = structs_laid (map (section_of table phys_net) (map (numbered (place_in table) phys_net) (map (net_record names) n.nets))) in
    let site_insts = structs_laid (map (section_of table site_instance) (map (numbered (place_in table) site_instance) (map (site_instance_record names) n.site_insts))) in
    let properties = structs_laid (map (section_of table property) (map (numbered (place_in table) property) (map (property_record names) n.properties))) in
    let made : S ≡ written (8 * p) 0 [] S = no_row (8 * p) S in
    let row_long : length S ≡ length S = refl in
    let text_is : text_laid c.name.result.now ≡ part = ap text_laid (sym (get_or_from_slice_get names n.part c.name.result.now [] c.name.ensures.text)) in
    let word0 : pointer_word c.args.at 0 ≡ (p + 0) = omega (arith, c.requires.words) in
    let put0 : HasPut (p + 0) part S c.write_text.new.builder = subst (λ (k : ℕ). HasPut k part S c.write_text.new.builder) word0 (subst (λ (x : Laid). HasPut (pointer_word c.args.at 0) x S c.write_text.new.builder) text_is c.in-Ok.ensures) in
    let in0 : 8 * ((p + 0) + 1) ≤ length S = omega (arith, c.requires.inside, c.requires.words, c.requires.pointers, row_long) in
    let long0 = put_long (p + 0) part S c.write_text.new.builder in0 put0 in
    let word1 : pointer_word c.args.at 1 ≡ (p + 0 + 1) = omega (arith, c.requires.words) in
    let put1 : HasPut (p + 0 + 1) strings c.write_text.new.builder c.write_strings.new.builder = subst (λ (k : ℕ). HasPut k strings c.write_text.new.builder c.write_strings.new.builder) word1 c.in-Ok-write_strings.ensures in
    let in1 : 8 * ((p + 0 + 1) + 1) ≤ length c.write_text.new.builder = omega (arith, c.requires.inside, c.requires.words, c.requires.pointers, row_long, long0) in
    let long1 = put_long (p + 0 + 1) strings c.write_text.new.builder c.write_strings.new.builder in1 put1 in
    let word2 : pointer_word c.args.at 2 ≡ (p + 0 + 1 + 1) = omega (arith, c.requires.words) in
    let put2 : HasPut (p + 0 + 1 + 1) placements c.write_strings.new.builder c.write_list.new.builder = subst (λ (k : ℕ). HasPut k placements c.write_strings.new.builder c.write_list.new.builder) word2 c.in-Ok-write_list.ensures in
    let in2 : 8 * ((p + 0 + 1 + 1) + 1) ≤ length c.write_strings.new.builder = omega (arith, c.requires.inside, c.requires.words, c.requires.pointers, row_long, long0, long1) in
    let long2 = put_long (p + 0 + 1 + 1) placements c.write_strings.new.builder c.write_list.new.builder in2 put2 in
    let word3 : pointer_word c.args.at 3 ≡ (p + 0 + 1 + 1 + 1) = omega (arith, c.requires.words) in
    let put3 : HasPut (p + 0 + 1 + 1 + 1) nets c.write_list.new.builder c.write_list-2.new.builder = subst (λ (k : ℕ). HasPut k nets c.write_list.new.builder c.write_list-2.new.builder) word3 c.in-Ok-write_list-2.ensures in
    let in3 : 8 * ((p + 0 + 1 + 1 + 1) + 1) ≤ length c.write_list.new.builder = omega (arith, c.requires.inside, c.requires.words, c.requires.pointers, row_long, long0, long1, long2) in
    let long3 = put_long (p + 0 + 1 + 1 + 1) nets c.write_list.new.builder c.write_list-2.new.builder in3 put3 in
    let word4 : pointer_word c.args.at 4 ≡ (p + 0 + 1 + 1 + 1 + 1) = omega (arith, c.requires.words) in
    let put4 : HasPut (p + 0 + 1 + 1 + 1 + 1) site_insts c.write_list-2.new.builder c.write_list-3.new.builder = subst (λ (k : ℕ). HasPut k site_insts c.write_list-2.new.builder c.write_list-3.new.builder) word4 c.in-Ok-write_list-3.ensures in
    let in4 : 8 * ((p + 0 + 1 + 1 + 1 + 1) + 1) ≤ length c.write_list-2.new.builder = omega (arith, c.requires.inside, c.requires.words, c.requires.pointers, row_long, long0, long1, long2, long3) in
    let long4 = put_long (p + 0 + 1 + 1 + 1 + 1) site_insts c.write_list-2.new.builder c.write_list-3.new.builder in4 put4 in
    let word5 : pointer_word c.args.at 5 ≡ (p + 0 + 1 + 1 + 1 + 1 + 1) = omega (arith, c.requires.words) in
    let put5 : HasPut (p + 0 + 1 + 1 + 1 + 1 + 1) properties c.write_list-3.new.builder c.write_list-4.new.builder = subst (λ (k : ℕ). HasPut k properties c.write_list-3.new.builder c.write_list-4.new.builder) word5 c.in-Ok-write_list-4.ensures in
    let in5 : 8 * ((p + 0 + 1 + 1 + 1 + 1 + 1) + 1) ≤ length c.write_list-3.new.builder = omega (arith, c.requires.inside, c.requires.words, c.requires.pointers, row_long, long0, long1, long2, long3, long4) in
    let long5 = put_long (p + 0 + 1 + 1 + 1 + 1 + 1) properties c.write_list-3.new.builder c.write_list-4.new.builder in5 put5 in
    struct_written p 0 e S S c.write_list-4.new.builder refl made (put_then (p + 0) part (strings ∷ (placements ∷ (nets ∷ (site_insts ∷ (properties ∷ []))))) S c.write_text.new.builder c.write_list-4.new.builder put0 (put_then (p + 0 + 1) strings (placements ∷ (nets ∷ (site_insts ∷ (properties ∷ [])))) c.write_text.new.builder c.write_strings.new.builder c.write_list-4.new.builder put1 (put_then (p + 0 + 1 + 1) placements (nets ∷ (site_insts ∷ (properties ∷ []))) c.write_strings.new.builder c.write_list.new.builder c.write_list-4.new.builder put2 (put_then (p + 0 + 1 + 1 + 1) nets (site_insts ∷ (properties ∷ [])) c.write_list.new.builder c.write_list-2.new.builder c.write_list-4.new.builder put3 (put_then (p + 0 + 1 + 1 + 1 + 1) site_insts (properties ∷ []) c.write_list-2.new.builder c.write_list-3.new.builder c.write_list-4.new.builder put4 (put_then (p + 0 + 1 + 1 + 1 + 1 + 1) properties [] c.write_list-3.new.builder c.write_list-4.new.builder c.write_list-4.new.builder put5 (put_none (p + 0 + 1 + 1 + 1 + 1 + 1 + 1) c.write_list-4.new.builder put5.segment)))))))
