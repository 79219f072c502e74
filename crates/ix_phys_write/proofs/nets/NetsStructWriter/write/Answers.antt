use Rattle.std.proofs.Common.{◌≡◌, ◌≤◌, ◌+◌, ◌*◌, ◌∙◌, ℕ, List, [], ◌∷◌, length, map, ap, arith, subst, refl}
use Rattle.ix_message.specs.Names.{branches_map, number_for, numbered, parts_numbered, place_in}
use Rattle.ix_message.specs.Layout.{section_of, all_laid, data_section, structs_laid, branch_sections}
use Rattle.ix_message.specs.Phys.{phys_net}
use Rattle.ix_capw.specs.Growth.{written, pointer_word}
use Rattle.ix_message_write.specs.Table.{table_in, name_text}
use Rattle.ix_message_write.specs.Says.{HasPut}
use Rattle.ix_message_write.proofs.Laid.{length-written}
use Rattle.ix_message_write.proofs.Steps.{put_none, put_then, refused_first, refused_then, put_long, struct_written, struct_refused}
use Rattle.ix_phys_write.specs.Trees.{trees_at}
use Rattle.ix_phys_write.specs.Record.{net_record, segment_row, type_number}
use Rattle.ix_phys_write.proofs.nets.NetsStructWriter.write.Goals as goal

pub returns-in-Err : goal.returns-in-Err
unfolding section_of all_laid numbered parts_numbered
returns-in-Err c =
    let names = c.args.names.now in
    let table = table_in names c.args.strings.now in
    let place = λ (id : ℕ). place_in table (name_text names id) in
    let S = c.args.builder.now in
    let p = c.args.at.start in
    let n = c.args.item.now in
    let e = section_of table phys_net (numbered (place_in table) phys_net (net_record names n)) in
    let sources = structs_laid (branch_sections (branches_map (map (number_for (place_in table))) (branches_map (segment_row names) (trees_at 0 n.sources)))) in
    let stubs = structs_laid (branch_sections (branches_map (map (number_for (place_in table))) (branches_map (segment_row names) (trees_at 0 n.stubs)))) in
    let row : c.place.result ∷ c.number_of_type.result ∷ [] ≡ place n.name ∷ type_number n.ty ∷ [] = ap (λ (t : ℕ). t ∷ c.number_of_type.result ∷ []) c.place.ensures ∙ ap (λ (t : ℕ). place n.name ∷ t ∷ []) c.number_of_type.ensures in
    let S1 = c.write_row.new.builder in
    let made : S1 ≡ written (8 * p) (8 * 1) (data_section (place n.name ∷ type_number n.ty ∷ [])) S =
    c.write_row.ensures.made ∙ ap (λ (k : ℕ). written (8 * p) (8 * k) (data_section (c.place.result ∷ c.number_of_type.result ∷ [])) S) c.requires.words ∙ ap (λ (r : List ℕ). written (8 * p) (8 * 1) (data_section r) S) row in
    let row_long : length S1 ≡ length S = ap length made ∙ length-written (8 * p) 8 (data_section (place n.name ∷ type_number n.ty ∷ [])) S refl (omega (arith, c.requires.inside, c.requires.words)) in
    struct_refused p 1 e S S1 c.write_branches.new.builder c.in-Err.fault refl (omega (arith, c.requires.inside, c.requires.words)) made (refused_first (pointer_word c.args.at 0) sources (stubs ∷ []) S1 c.write_branches.new.builder c.in-Err.fault c.in-Err.ensures)

pub returns-in-Err-write_branches : goal.returns-in-Err-write_branches
unfolding section_of all_laid numbered parts_numbered
returns-in-Err-write_branches c =
    let names = c.args.names.now in
    let table = table_in names c.args.strings.now in
    let place = λ (id : ℕ). place_in table (name_text names id) in
    let S = c.args.builder.now in
    let p = c.args.at.start in
    let n = c.args.item.now in
    let e = section_of table phys_net (numbered (place_in table) phys_net (net_record names n)) in
    let sources = structs_laid (branch_sections (branches_map (map (number_for (place_in table))) (branches_map (segment_row names) (trees_at 0 n.sources)))) in
    let stubs = structs_laid (branch_sections (branches_map (map (number_for (place_in table))) (branches_map (segment_row names) (trees_at 0 n.stubs)))) in
    let row : c.place.result ∷ c.number_of_type.result ∷ [] ≡ place n.name ∷ type_number n.ty ∷ [] = ap (λ (t : ℕ). t ∷ c.number_of_type.result ∷ []) c.place.ensures ∙ ap (λ (t : ℕ). place n.name ∷ t ∷ []) c.number_of_type.ensures in
    let S1 = c.write_row.new.builder in
    let made : S1 ≡ written (8 * p) (8 * 1) (data_section (place n.name ∷ type_number n.ty ∷ [])) S =
    c.write_row.ensures.made ∙ ap (λ (k : ℕ). written (8 * p) (8 * k) (data_section (c.place.result ∷ c.number_of_type.result ∷ [])) S) c.requires.words ∙ ap (λ (r : List ℕ). written (8 * p) (8 * 1) (data_section r) S) row in
    let row_long : length S1 ≡ length S = ap length made ∙ length-written (8 * p) 8 (data_section (place n.name ∷ type_number n.ty ∷ [])) S refl (omega (arith, c.requires.inside, c.requires.words)) in
    let word0 : pointer_word c.args.at 0 ≡ (p + 1) = omega (arith, c.requires.words) in
    let put0 : HasPut (p + 1) sources S1 c.write_branches.new.builder = subst (λ (k : ℕ). HasPut k sources S1 c.write_branches.new.builder) word0 c.in-Ok.ensures in
    let in0 : 8 * ((p + 1) + 1) ≤ length S1 = omega (arith, c.requires.inside, c.requires.words, c.requires.pointers, row_long) in
    let long0 = put_long (p + 1) sources S1 c.write_branches.new.builder in0 put0 in
    struct_refused p 1 e S S1 c.write_branches-2.new.builder c.in-Err-write_branches.fault refl (omega (arith, c.requires.inside, c.requires.words)) made (refused_then (p + 1) sources (stubs ∷ []) S1 c.write_branches.new.builder c.in-Err-write_branches.fault in0 put0 (refused_first (pointer_word c.args.at 1) stubs [] c.write_branches.new.builder c.write_branches-2.new.builder c.in-Err-write_branches.fault c.in-Err-write_branches.ensures))

pub returns-in-Ok-write_branches : goal.returns-in-Ok-write_branches
unfolding section_of all_laid numbered parts_numbered
returns-in-Ok-write_branches c =
    let names = c.args.names.now in
    let table = table_in names c.args.strings.now in
    let place = λ (id : ℕ). place_in table (name_text names id) in
    let S = c.args.builder.now in
    let p = c.args.at.start in
    let n = c.args.item.now in
    let e = section_of table phys_net (numbered (place_in table) phys_net (net_record names n)) in
    let sources = structs_laid (branch_sections (branches_map (map (number_for (place_in table))) (branches_map (segment_row names) (trees_at 0 n.sources)))) in
    let stubs = structs_laid (branch_sections (branches_map (map (number_for (place_in table))) (branches_map (segment_row names) (trees_at 0 n.stubs)))) in
    let row : c.place.result ∷ c.number_of_type.result ∷ [] ≡ place n.name ∷ type_number n.ty ∷ [] = ap (λ (t : ℕ). t ∷ c.number_of_type.result ∷ []) c.place.ensures ∙ ap (λ (t : ℕ). place n.name ∷ t ∷ []) c.number_of_type.ensures in
    let S1 = c.write_row.new.builder in
    let made : S1 ≡ written (8 * p) (8 * 1) (data_section (place n.name ∷ type_number n.ty ∷ [])) S =
    c.write_row.ensures.made ∙ ap (λ (k : ℕ). written (8 * p) (8 * k) (data_section (c.place.result ∷ c.number_of_type.result ∷ [])) S) c.requires.words ∙ ap (λ (r : List ℕ). written (8 * p) (8 * 1) (data_section r) S) row in
    let row_long : length S1 ≡ length S = ap length made ∙ length-written (8 * p) 8 (data_section (place n.name ∷ type_number n.ty ∷ [])) S refl (omega (arith, c.requires.inside, c.requires.words)) in
    let word0 : pointer_word c.args.at 0 ≡ (p + 1) = omega (arith, c.requires.words) in
    let put0 : HasPut (p + 1) sources S1 c.write_branches.new.builder = subst (λ (k : ℕ). HasPut k sources S1 c.write_branches.new.builder) word0 c.in-Ok.ensures in
    let in0 : 8 * ((p + 1) + 1) ≤ length S1 = omega (arith, c.requires.inside, c.requires.words, c.requires.pointers, row_long) in
    let long0 = put_long (p + 1) sources S1 c.write_branches.new.builder in0 put0 in
    let word1 : pointer_word c.args.at 1 ≡ (p + 1 + 1) = omega (arith, c.requires.words) in
    let put1 : HasPut (p + 1 + 1) stubs c.write_branches.new.builder c.write_branches-2.new.builder = subst (λ (k : ℕ). HasPut k stubs c.write_branches.new.builder c.write_branches-2.new.builder) word1 c.in-Ok-write_branches.ensures in
    let in1 : 8 * ((p + 1 + 1) + 1) ≤ length c.write_branches.new.builder = omega (arith, c.requires.inside, c.requires.words, c.requires.pointers, row_long, long0) in
    let long1 = put_long (p + 1 + 1) stubs c.write_branches.new.builder c.write_branches-2.new.builder in1 put1 in
    struct_written p 1 e S S1 c.write_branches-2.new.builder refl made (put_then (p + 1) sources (stubs ∷ []) S1 c.write_branches.new.builder c.write_branches-2.new.builder put0 (put_then (p + 1 + 1) stubs [] c.write_branches.new.builder c.write_branches-2.new.builder c.write_branches-2.new.builder put1 (put_none (p + 1 + 1 + 1) c.write_branches-2.new.builder put1.segment)))
